-- The nodes of a list, put together in halves.
use Rattle.std.proofs.Common.{◌≡◌, ℕ, ◌+◌, ◌-◌, ◌<◌, ◌≤◌, List, [], ◌∷◌, ◌++◌, length, map, take, drop, sym, ap, ◌∙◌, subst, arith, take-add, take_all, drop-drop, length-take-le, length-drop}
use Rattle.std.proofs.lemmas.List.{map-append, length-map}
use Rattle.rel_trace.specs.Twos.{TwoKind}
use Rattle.std.specs.declared.alloc.Global.{Global}
use Rattle.std.specs.declared.boxed.Box.{Box}
use Rattle.rel_nodes.specs.declared.node.Node.{Node}
use Rattle.rel_nodes.specs.Core.{Core, two_core, Alike}
use Rattle.rel_nodes.specs.Nodes.{boxed_shape}
use Rattle.rel_nodes.specs.Runs.{nest, joined}
use Rattle.rel_nodes.proofs.Alikes.{alike_same, alike_trans}
use Rattle.rel_nodes.proofs.Joining.{Associates, same, halves_alike, first_alike, nest_push}

taken : (n : ℕ) (xs : List (Box Node Global)) → 0 < n → n ≤ length xs → 0 < length (map boxed_shape (take n xs))
taken n xs i h =
    let e : length (map boxed_shape (take n xs)) ≡ n = length-map (take n xs) boxed_shape ∙ length-take-le n xs h in
    omega (arith, e)

-- the halves of the first so many nodes
pub halves_whole : (k : TwoKind) → Associates k → (c d : Core) (xs ys : List (Box Node Global)) (n h : ℕ) → 0 < h → h < n → n ≤ length xs → ys ≡ drop h xs → Alike c (joined k (map boxed_shape (take h xs))) → Alike d (joined k (map boxed_shape (take (n - h) ys))) → Alike (two_core k c d) (joined k (map boxed_shape (take n xs)))
halves_whole k a c d xs ys n h i j l e p q =
    let less : length ys ≡ length xs - h = ap (length {A = Box Node Global}) e ∙ length-drop h xs in
    let m : n - h ≤ length ys = omega (arith, less) in
    let fits : h ≤ length xs = omega arith in
    let left : 0 < n - h = omega arith in
    let both : h + (n - h) ≡ n = omega arith in
    let whole : map boxed_shape (take h xs) ++ map boxed_shape (take (n - h) ys) ≡ map boxed_shape (take n xs) =
    ap (λ zs. map boxed_shape (take h xs) ++ map boxed_shape (take (n - h) zs)) e
    ∙ sym (map-append boxed_shape (take h xs) (take (n - h) (drop h xs)))
    ∙ ap (map boxed_shape) (sym (take-add h (n - h) xs))
    ∙ ap (λ x. map boxed_shape (take x xs)) both in
    subst (λ (zs : List Core). Alike (two_core k c d) (joined k zs)) whole
    (halves_alike k a c d (map boxed_shape (take h xs)) (map boxed_shape (take (n - h) ys)) (taken h xs i fits) (taken (n - h) ys left m) p q)

-- and their joint as it is made
pub halves_made : (k t : TwoKind) → Associates k → (c d : Core) (xs ys : List (Box Node Global)) (n h : ℕ) → 0 < h → h < n → n ≤ length xs → ys ≡ drop h xs → t ≡ k → Alike c (joined k (map boxed_shape (take h xs))) → Alike d (joined k (map boxed_shape (take (n - h) ys))) → Alike (two_core t c d) (joined k (map boxed_shape (take n xs)))
halves_made k t a c d xs ys n h i j l e q p r =
    alike_trans (two_core t c d) (two_core k c d) (joined k (map boxed_shape (take n xs)))
    (alike_same (two_core t c d) (two_core k c d) (ap (λ z. two_core z c d) q))
    (halves_whole k a c d xs ys n h i j l e p r)

pub halves_one : (k : TwoKind) (x : Box Node Global) (xs ys : List (Box Node Global)) (n : ℕ) → n ≡ 1 → xs ≡ x ∷ ys → Alike (boxed_shape x) (joined k (map boxed_shape (take n xs)))
halves_one k x xs ys n e h = alike_same (boxed_shape x) (joined k (map boxed_shape (take n xs))) (ap (λ zs. joined k (map boxed_shape (take 1 zs))) (sym h) ∙ ap (λ m. joined k (map boxed_shape (take m xs))) (sym e))

pub halves_left : (x : Box Node Global) (xs ys : List (Box Node Global)) (n : ℕ) → n ≡ 1 → xs ≡ x ∷ ys → ys ≡ drop n xs
halves_left x xs ys n e h = ap (drop 1) (sym h) ∙ ap (λ m. drop m xs) (sym e)

-- what is left behind both halves
pub halves_rest : (xs ys zs : List (Box Node Global)) (n h : ℕ) → h ≤ n → ys ≡ drop h xs → zs ≡ drop (n - h) ys → zs ≡ drop n xs
halves_rest xs ys zs n h i e g =
    let both : h + (n - h) ≡ n = omega arith in
    g ∙ ap (drop (n - h)) e ∙ drop-drop (n - h) h xs ∙ ap (λ m. drop m xs) both

-- a first node, and all that follow it
pub run_whole : (k : TwoKind) → Associates k → (first rest n : Core) (t : TwoKind) (xs ys : List (Box Node Global)) (m : ℕ) → 0 < m → m ≤ length xs → length xs ≤ m → xs ≡ ys → t ≡ k → n ≡ two_core t first rest → Alike rest (joined k (map boxed_shape (take m xs))) → Alike n (nest k first (map boxed_shape ys))
run_whole k a first rest n t xs ys m i l u e q g p =
    let all : take m xs ≡ xs = take_all m xs u in
    let some : 0 < length (map boxed_shape xs) = (let s : length (map boxed_shape xs) ≡ length xs = length-map xs boxed_shape in omega (arith, s)) in
    let known : Alike rest (joined k (map boxed_shape xs)) = subst (λ (zs : List (Box Node Global)). Alike rest (joined k (map boxed_shape zs))) all p in
    alike_trans n (two_core k first rest) (nest k first (map boxed_shape ys))
    (alike_same n (two_core k first rest) (g ∙ ap (λ z. two_core z first rest) q))
    (subst (λ (zs : List (Box Node Global)). Alike (two_core k first rest) (nest k first (map boxed_shape zs))) e
    (first_alike k a first rest (map boxed_shape xs) some known))

-- one node more
pub run_push : (k : TwoKind) (c : Core) (x : Box Node Global) (xs ys : List (Box Node Global)) → ys ≡ xs ++ (x ∷ []) → nest k c (map boxed_shape ys) ≡ two_core k (nest k c (map boxed_shape xs)) (boxed_shape x)
run_push k c x xs ys e = ap (λ zs. nest k c (map boxed_shape zs)) e ∙ ap (nest k c) (map-append boxed_shape xs (x ∷ [])) ∙ nest_push k c (boxed_shape x) (map boxed_shape xs)

-- a first node that none follows
pub run_alone : (k : TwoKind) (c : Core) (xs : List (Box Node Global)) → length xs ≡ 0 → Alike c (nest k c (map boxed_shape xs))
run_alone k c [] h = same c
run_alone k c (x ∷ xs) h = absurd (omega (arith, h))
