-- Names that are told apart by their fronts.
use Rattle.std.proofs.Common.{ℕ, zero, suc, ◌≡◌, ◌-◌, ◌<◌, List, [], ◌∷◌, ◌++◌, length, take, drop, replicate, min, refl, sym, ap, ◌∙◌, arith}
use Rattle.std.specs.declared.cmp.Ordering.{Ordering}
use Rattle.std.specs.declared.cmp.Ordering.TheVariants.{Less, Equal, Greater}
use Rattle.std.specs.Ordering.{nat_cmp, ordering_reverse, ordering_then}
use Rattle.std.specs.Cmp.Lexicographic.{nat_list_cmp_total}
use Rattle.std.proofs.lemmas.Cmp.{ranked}
use Rattle.std.proofs.lemmas.List.{drop-replicate}
use Rattle.bf_world.specs.Maps.{byte_order}
use Rattle.bf_world.proofs.MapLemmas.{order-same}
use Rattle.group_core.specs.Fronts.{front_of}

-- the first so many bytes, and zeros
abbrev padded : ℕ → List ℕ → List ℕ
padded zero xs = []
padded (suc k) [] = 0 ∷ padded k []
padded (suc k) (x ∷ xs) = x ∷ padded k xs

zeros : (k : ℕ) → padded k [] ≡ replicate k 0
zeros zero = refl
zeros (suc k) = ap (λ l. 0 ∷ l) (zeros k)

padded_is : (k : ℕ) (xs : List ℕ) → padded k xs ≡ take k xs ++ replicate (k - length xs) 0
padded_is zero xs = let e : 0 - length xs ≡ 0 = omega arith in ap (λ n. replicate n 0) (sym e)
padded_is (suc k) [] = let e : suc k - 0 ≡ suc k = omega arith in zeros (suc k) ∙ ap (λ n. replicate n 0) (sym e)
padded_is (suc k) (x ∷ xs) =
    let e : suc k - suc (length xs) ≡ k - length xs = omega arith in
    ap (λ l. x ∷ l) (padded_is k xs) ∙ ap (λ n. x ∷ take k xs ++ replicate n 0) (sym e)

-- nothing comes before no bytes
none_before : (xs : List ℕ) → byte_order xs [] ≡ Less → ⊥
none_before [] e = let apart : Equal ≡ Less = e in cc
none_before (x ∷ xs) e = let apart : Greater ≡ Less = e in cc

less_padded : (k : ℕ) (a b : List ℕ) → byte_order (padded k a) (padded k b) ≡ Less → byte_order a b ≡ Less
less_padded zero a b e = absurd (let apart : Equal ≡ Less = e in cc)
less_padded (suc k) [] [] e = absurd (let same : Equal ≡ Less = sym (order-same (padded (suc k) [])) ∙ e in cc)
less_padded (suc k) [] (y ∷ ys) e = refl
less_padded (suc k) (x ∷ xs) [] e = absurd (by (nat_cmp x 0) refl (less_padded k xs []) e)
  where
    by : (o : Ordering) → nat_cmp x 0 ≡ o → (byte_order (padded k xs) (padded k []) ≡ Less → byte_order xs [] ≡ Less) → ordering_then o (byte_order (padded k xs) (padded k [])) ≡ Less → ⊥
    by Less is rest e = let below : x < 0 = ranked x 0 Less (sym is) in omega (arith, below)
    by Equal is rest e = none_before xs (rest e)
    by Greater is rest e = let apart : Greater ≡ Less = e in cc
less_padded (suc k) (x ∷ xs) (y ∷ ys) e = by (nat_cmp x y) (less_padded k xs ys) e
  where
    by : (o : Ordering) → (byte_order (padded k xs) (padded k ys) ≡ Less → byte_order xs ys ≡ Less) → ordering_then o (byte_order (padded k xs) (padded k ys)) ≡ Less → ordering_then o (byte_order xs ys) ≡ Less
    by Less rest e = refl
    by Equal rest e = rest e
    by Greater rest e = e

-- a lesser front is that of a lesser name, and a greater one that of a greater name
pub less_front : (a b : List ℕ) → byte_order (front_of a) (front_of b) ≡ Less → byte_order a b ≡ Less
less_front a b e = less_padded 24 a b ((λ i. byte_order (padded_is 24 a i) (padded_is 24 b i)) ∙ e)

pub greater_front : (a b : List ℕ) → byte_order (front_of a) (front_of b) ≡ Greater → byte_order a b ≡ Greater
greater_front a b e =
    let less : byte_order (front_of b) (front_of a) ≡ Less = nat_list_cmp_total.antisymm (front_of b) (front_of a) ∙ ap ordering_reverse e in
    nat_list_cmp_total.antisymm a b ∙ ap ordering_reverse (less_front b a less)

copied : (k : ℕ) (xs : List ℕ) (count : ℕ) → count ≡ min (length xs) k → take count xs ++ replicate (k - count) 0 ≡ padded k xs
copied zero xs zero is = refl
copied zero xs (suc count) is = absurd (omega (arith, is))
copied (suc k) [] zero is = let e : suc k - 0 ≡ suc k = omega arith in ap (λ n. replicate n 0) e ∙ sym (zeros (suc k))
copied (suc k) [] (suc count) is = absurd (omega (arith, is))
copied (suc k) (x ∷ xs) zero is = absurd (omega (arith, is))
copied (suc k) (x ∷ xs) (suc count) is =
    let e : suc k - suc count ≡ k - count = omega arith in
    let less : count ≡ min (length xs) k = omega (arith, is) in
    ap (λ n. x ∷ take count xs ++ replicate n 0) e ∙ ap (λ l. x ∷ l) (copied k xs count less)

-- the front is made of what is copied and what stays
pub front_made : (name : List ℕ) (count : ℕ) → count ≡ min (length name) 24 → take count name ++ drop count (replicate 24 0) ≡ front_of name
front_made name count is = ap (λ l. take count name ++ l) (drop-replicate count 24 0) ∙ copied 24 name count is ∙ padded_is 24 name
