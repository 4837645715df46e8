-- A list that is put together in any order means what it means from the left.
use Rattle.std.proofs.Common.{◌≡◌, ◌<◌, List, [], ◌∷◌, ◌++◌, length, refl, sym, ◌∙◌, arith}
use Rattle.rel_trace.specs.Scopes.{with_left}
use Rattle.rel_trace.specs.Twos.{TwoKind}
use Rattle.rel_nodes.specs.declared.runs.Joint.{Joint}
use Rattle.rel_nodes.specs.declared.runs.Joint.TheVariants.{Then, Bar, Left}
use Rattle.rel_nodes.specs.Core.{Core, two_core, core, Alike}
use Rattle.rel_nodes.specs.Runs.{joint_kind, nest, joined}
use Rattle.rel_nodes.proofs.Alikes.{alike_trans, alike_two}
use Rattle.rel_nodes.proofs.Compositions.{follow_assoc, each_each, barred_assoc}

pub Associates : TwoKind → Type 0
Associates k = (x y z : Core) → Alike (two_core k (two_core k x y) z) (two_core k x (two_core k y z))

pub associates : (j : Joint) → Associates (joint_kind j)
unfolding Associates
associates Then x y z w s a = follow_assoc (core w s x a) (core w s y a) (core w s z a)
associates Bar x y z w s a = barred_assoc (core w s x a) (core w s y a) (core w s z a)
associates Left x y z w s a = each_each (core w s x a) (λ v. core w s y (with_left a v)) (λ v. core w s z (with_left a v))

pub same : (c : Core) → Alike c c
same c w s a = refl

pub nest_alike : (k : TwoKind) (c d : Core) (xs : List Core) → Alike c d → Alike (nest k c xs) (nest k d xs)
nest_alike k c d [] h = h
nest_alike k c d (x ∷ xs) h = nest_alike k (two_core k c x) (two_core k d x) xs (alike_two k c d x x h (same x))

-- what stands first may be put before all the others
pub nest_first : (k : TwoKind) → Associates k → (c d : Core) (xs : List Core) → Alike (nest k (two_core k c d) xs) (two_core k c (nest k d xs))
unfolding Associates
nest_first k h c d [] = same (two_core k c d)
nest_first k h c d (x ∷ xs) =
    alike_trans (nest k (two_core k (two_core k c d) x) xs) (nest k (two_core k c (two_core k d x)) xs) (two_core k c (nest k (two_core k d x) xs))
    (nest_alike k (two_core k (two_core k c d) x) (two_core k c (two_core k d x)) xs (h c d x))
    (nest_first k h c (two_core k d x) xs)

pub nest_append : (k : TwoKind) → Associates k → (c d : Core) (xs ys : List Core) → Alike (nest k c (xs ++ (d ∷ ys))) (two_core k (nest k c xs) (nest k d ys))
nest_append k h c d [] ys = nest_first k h c d ys
nest_append k h c d (x ∷ xs) ys = nest_append k h (two_core k c x) d xs ys

-- two lists, each put together in any order
pub halves_alike : (k : TwoKind) → Associates k → (c d : Core) (xs ys : List Core) → 0 < length xs → 0 < length ys → Alike c (joined k xs) → Alike d (joined k ys) → Alike (two_core k c d) (joined k (xs ++ ys))
halves_alike k h c d [] ys i j p q = absurd (omega (arith, i))
halves_alike k h c d (x ∷ xs) [] i j p q = absurd (omega (arith, j))
halves_alike k h c d (x ∷ xs) (y ∷ ys) i j p q =
    λ w s a. alike_two k c (nest k x xs) d (nest k y ys) p q w s a ∙ sym (nest_append k h x y xs ys w s a)

-- a first part, and a list put together in any order
pub first_alike : (k : TwoKind) → Associates k → (c d : Core) (xs : List Core) → 0 < length xs → Alike d (joined k xs) → Alike (two_core k c d) (nest k c xs)
first_alike k h c d [] i q = absurd (omega (arith, i))
first_alike k h c d (x ∷ xs) i q =
    λ w s a. alike_two k c c d (nest k x xs) (same c) q w s a ∙ sym (nest_first k h c x xs w s a)

pub nest_push : (k : TwoKind) (c x : Core) (xs : List Core) → nest k c (xs ++ (x ∷ [])) ≡ two_core k (nest k c xs) x
nest_push k c x [] = refl
nest_push k c x (y ∷ ys) = nest_push k (two_core k c y) x ys
