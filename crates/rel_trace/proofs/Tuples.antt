-- The parts of two tuples as one.
use Rattle.std.proofs.Common.{◌≡◌, ℕ, ◌+◌, ◌<◌, ◌≤◌, List, [], ◌∷◌, ◌++◌, length, get_or, take, map, refl, sym, ap, ◌∙◌, arith}
use Rattle.std.proofs.lemmas.List.{map-append, take_all, take_more}
use Rattle.rel_value.specs.declared.value.Value.{Value}
use Rattle.rel_value.specs.declared.value.Values.{Values}
use Rattle.rel_value.specs.declared.value.Value.TheFolds.{fold_out-Values}
use Rattle.rel_value.specs.Operands.{AreSound}
use Rattle.rel_value.specs.Plain.{Plain, Parts, no_parts, more_parts}
use Rattle.rel_value.specs.Views.{parted, shown, shown_parts, value_items, value_step, values_step}
use Rattle.rel_trace.specs.Joins.{parts_then}

parted-push : (ps : Parts) (xs : List Plain) (x : Plain) → parted ps (xs ++ x ∷ []) ≡ more_parts (parted ps xs) x
parted-push ps [] x = refl
parted-push ps (y ∷ ys) x = parted-push (more_parts ps y) ys x

then-parted : (ps qs : Parts) (xs : List Plain) → parts_then ps (parted qs xs) ≡ parted (parts_then ps qs) xs
then-parted ps qs [] = refl
then-parted ps qs (x ∷ xs) = then-parted ps (more_parts qs x) xs

-- one value more
pub parted-more : (old new ps : Parts) (xs : List Value) (i : ℕ) (x y : Value) → old ≡ parted ps (map shown (take i xs)) → i < length xs → x ≡ get_or xs i x → shown y ≡ shown x → new ≡ more_parts old (shown y)
    → new ≡ parted ps (map shown (take (i + 1) xs))
parted-more old new ps xs i x y e below is same pushed =
    pushed
    ∙ ap (λ v. more_parts old v) same
    ∙ ap (λ qs. more_parts qs (shown x)) e
    ∙ sym (parted-push ps (map shown (take i xs)) (shown x))
    ∙ ap (parted ps) (sym (map-append shown (take i xs) (x ∷ [])))
    ∙ ap (λ v. parted ps (map shown (take i xs ++ v ∷ []))) is
    ∙ sym (ap (λ ys. parted ps (map shown ys)) (take_more xs i x below))

-- all of them
pub parted-all : (new ps : Parts) (later : Values) (xs : List Value) (i : ℕ) → new ≡ parted ps (map shown (take i xs)) → (i < length xs → ⊥) → xs ≡ value_items later → new ≡ parts_then ps (shown_parts later)
parted-all new ps later xs i e over is =
    let le : length xs ≤ i = omega arith in
    e
    ∙ ap (λ ys. parted ps (map shown ys)) (take_all i xs le ∙ is)
    ∙ sym (then-parted ps no_parts (map shown (value_items later)))
    ∙ ap (parts_then ps) (sym (fold_out-Values Plain Parts value_step values_step later))

pub both-sound : (ps qs : Parts) → AreSound ps → AreSound qs → AreSound (parts_then ps qs)
both-sound ps no_parts h k = h
both-sound ps (more_parts qs v) h k = (both-sound ps qs h k.0, k.1)
