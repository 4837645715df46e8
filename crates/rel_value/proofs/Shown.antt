-- What a value shows that is made of parts.
use Rattle.std.proofs.Common.{◌≡◌, ℕ, ◌+◌, ◌<◌, ℤ, List, [], ◌∷◌, ◌++◌, length, take, get_or, map, refl, sym, ap, ◌∙◌}
use Rattle.std.proofs.lemmas.List.{map-append, take_more}
use Rattle.rel_value.specs.declared.value.Value.{Value}
use Rattle.rel_value.specs.declared.value.Value.TheVariants.{Integer, rolls-Integer}
use Rattle.rel_value.specs.declared.value.Values.{Values, roll-Values, out-Values}
use Rattle.rel_value.specs.declared.value.Value.TheOpen.{Values-F}
use Rattle.rel_value.specs.declared.value.Value.TheOpen as layer
use Rattle.rel_value.specs.declared.value.Value.TheFolds.{fold-roll-Value, fold-roll-Values, fold_out-Values}
use Rattle.rel_value.specs.declared.kind.Kind.{Kind}
use Rattle.rel_value.specs.declared.kind.Kinds.{Kinds, roll-Kinds, out-Kinds}
use Rattle.rel_value.specs.declared.kind.Kind.TheOpen.{Kinds-F}
use Rattle.rel_value.specs.declared.kind.Kind.TheFolds.{fold-roll-Kinds, fold_out-Kinds}
use Rattle.rel_value.specs.Plain.{Plain, integer, Parts, no_parts, more_parts, PlainKind, PlainKinds, no_kinds, more_kinds}
use Rattle.rel_value.specs.Views.{value_step, values_step, shown, shown_parts, parted, kind_step, kinds_step, shown_kind, shown_kinds, kinded}

pub shown-Integer : (z : ℤ) → shown (Integer z) ≡ integer z
shown-Integer z = ap shown (sym (rolls-Integer z)) ∙ fold-roll-Value Plain Parts value_step values_step (layer.Integer z)

-- the parts of a list
pub parts-out : (l : Values) → shown_parts l ≡ parted no_parts (map shown (out-Values l).items.items)
parts-out l = fold_out-Values Plain Parts value_step values_step l

pub parts-roll : (r : Values-F Value Values) → shown_parts (roll-Values r) ≡ parted no_parts (map shown r.items.items)
parts-roll r = fold-roll-Values Plain Parts value_step values_step r

pub parted-push : (l : Parts) (xs : List Plain) (x : Plain) → parted l (xs ++ x ∷ []) ≡ more_parts (parted l xs) x
parted-push l [] x = refl
parted-push l (y ∷ ys) x = parted-push (more_parts l y) ys x

-- one more value in a list
pub parts-pushed : (xs : List Value) (x : Value) → parted no_parts (map shown (xs ++ x ∷ [])) ≡ more_parts (parted no_parts (map shown xs)) (shown x)
parts-pushed xs x = ap (parted no_parts) (map-append shown xs (x ∷ [])) ∙ parted-push no_parts (map shown xs) (shown x)

-- one more copy in a list of copies
pub copied-more : {A B : Type 0} (f : A → B) (xs ys : List A) (i : ℕ) (x v : A) → map f ys ≡ map f (take i xs) → i < length xs → v ≡ get_or xs i v → f x ≡ f v → map f (ys ++ x ∷ []) ≡ map f (take (i + 1) xs)
copied-more f xs ys i x v e below is same =
    map-append f ys (x ∷ [])
    ∙ ap (λ l. l ++ f x ∷ []) e
    ∙ ap (λ b. map f (take i xs) ++ b ∷ []) same
    ∙ sym (map-append f (take i xs) (v ∷ []))
    ∙ ap (λ a. map f (take i xs ++ a ∷ [])) is
    ∙ sym (ap (map f) (take_more xs i v below))

pub list-pushed : (l : Values) (r : Values-F Value Values) (x : Value) → r.items.items ≡ (out-Values l).items.items ++ (x ∷ []) → shown_parts (roll-Values r) ≡ more_parts (shown_parts l) (shown x)
list-pushed l r x e =
    parts-roll r ∙ ap (λ xs. parted no_parts (map shown xs)) e ∙ parts-pushed (out-Values l).items.items x ∙ ap (λ k. more_parts k (shown x)) (sym (parts-out l))

-- ---- the same of kinds

kinded-push : (l : PlainKinds) (xs : List PlainKind) (x : PlainKind) → kinded l (xs ++ x ∷ []) ≡ more_kinds (kinded l xs) x
kinded-push l [] x = refl
kinded-push l (y ∷ ys) x = kinded-push (more_kinds l y) ys x

pub kinds-pushed : (l : Kinds) (r : Kinds-F Kind Kinds) (x : Kind) → r.items.items ≡ (out-Kinds l).items.items ++ (x ∷ []) → shown_kinds (roll-Kinds r) ≡ more_kinds (shown_kinds l) (shown_kind x)
kinds-pushed l r x e =
    fold-roll-Kinds PlainKind PlainKinds kind_step kinds_step r
    ∙ ap (λ xs. kinded no_kinds (map shown_kind xs)) e
    ∙ ap (kinded no_kinds) (map-append shown_kind (out-Kinds l).items.items (x ∷ []))
    ∙ kinded-push no_kinds (map shown_kind (out-Kinds l).items.items) (shown_kind x)
    ∙ ap (λ k. more_kinds k (shown_kind x)) (sym (fold_out-Kinds PlainKind PlainKinds kind_step kinds_step l))
