-- Lists whose numbers rise. Other crates may cite these lemmas.
use Rattle.std.proofs.Common.{ℕ, suc, ◌≡◌, ◌+◌, ◌<◌, List, [], ◌∷◌, ◌++◌, length, map, arith}
use Rattle.std.specs.Prelude.{All}
use Rattle.std.specs.List.{AllPairs}
use Rattle.std.specs.List.Sorted.{IsStrictlyIncreasing}
use Rattle.std.proofs.lemmas.List.{get_or-map, length-map}
use Rattle.std.proofs.lemmas.List.Elements.{All-append, All-cons, All-head, All-tail, All-weaker}
use Rattle.std.proofs.lemmas.List.Kept.{AllPairs-cons, AllPairs-from_increasing}

-- Each element's number is below those of all later ones.
abbrev pub Rises : {X : Type 0} → (X → ℕ) → List X → Type 0
Rises f xs = AllPairs (λ x y. f x < f y) xs

pub rises_from_increasing : {X : Type 0} (f : X → ℕ) (xs : List X) → IsStrictlyIncreasing (map f xs) → Rises f xs
rises_from_increasing f xs up i j d lt inside =
    let count : length (map f xs) ≡ length xs = length-map xs f in
    let below = AllPairs-from_increasing (map f xs) up i j (f d) lt (omega arith) in
    rw (← get_or-map f xs i d (f d) (omega arith), ← get_or-map f xs j d (f d) inside) below

pub increasing_from_rises : {X : Type 0} (f : X → ℕ) (xs : List X) → Rises f xs → IsStrictlyIncreasing (map f xs)
increasing_from_rises f [] up k inside = absurd (omega arith)
increasing_from_rises f (x ∷ xs) up k inside =
    let count : length (map f (x ∷ xs)) ≡ length (x ∷ xs) = length-map (x ∷ xs) f in
    let within : k + 1 < length (x ∷ xs) = omega arith in
    rw (get_or-map f (x ∷ xs) k x 0 (omega arith), get_or-map f (x ∷ xs) (k + 1) x 0 within) (up k (k + 1) x (omega arith) within)

pub rises_head : {X : Type 0} (f : X → ℕ) (x : X) (xs : List X) → Rises f (x ∷ xs) → All (λ y. f x < f y) xs
rises_head f x xs up k d inside = up 0 (suc k) d (omega arith) (omega arith)

pub rises_tail : {X : Type 0} (f : X → ℕ) (x : X) (xs : List X) → Rises f (x ∷ xs) → Rises f xs
rises_tail f x xs up i j d lt inside = up (suc i) (suc j) d (omega arith) (omega arith)

-- elements below one, that one, and elements above it
pub rises_around : {X : Type 0} (f : X → ℕ) (xs : List X) (k : X) (ys : List X) → Rises f xs → All (λ x. f x < f k) xs → All (λ y. f k < f y) ys
    → Rises f ys → Rises f (xs ++ k ∷ ys)
rises_around f [] k ys front below above back = AllPairs-cons (λ x y. f x < f y) k ys above back
rises_around f (x ∷ xs) k ys front below above back =
    let lt : f x < f k = All-head (λ x. f x < f k) x xs below in
    AllPairs-cons (λ x y. f x < f y) x (xs ++ k ∷ ys)
    (All-append (λ y. f x < f y) xs (k ∷ ys) (rises_head f x xs front)
    (All-cons (λ y. f x < f y) k ys lt (All-weaker (λ y. f k < f y) (λ y. f x < f y) (λ y gt. omega (arith, lt, gt)) ys above)))
    (rises_around f xs k ys (rises_tail f x xs front) (All-tail (λ x. f x < f k) x xs below) above back)
