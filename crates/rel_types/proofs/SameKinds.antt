-- Lists of kinds are the same where they have the same kinds, in the same order.
use Rattle.std.proofs.Common.{◌≡◌, ℕ, suc, ◌+◌, Bool, true, false, ◌&&◌, List, [], ◌∷◌, length, map, refl, sym, ap, ◌∙◌, arith}
use Rattle.rel_value.specs.Plain.{PlainKind, PlainKinds, no_kinds, more_kinds}
use Rattle.rel_value.specs.declared.kind.Kind.{Kind}
use Rattle.rel_value.specs.declared.kind.Kinds.{Kinds}
use Rattle.rel_value.specs.Views.{kinded, kind_items, shown_kind, shown_kinds}
use Rattle.rel_types.proofs.NodeLists.{kinds-out}
use Rattle.rel_types.specs.Alike.{same_kind, same_kinds}

-- each kind is the same as the other of its number
abbrev pub same_list : List PlainKind → List PlainKind → Bool
same_list [] ys = true
same_list (x ∷ xs) [] = false
same_list (x ∷ xs) (y ∷ ys) = same_kind x y && same_list xs ys

and_true : (a : Bool) → a ≡ a && true
and_true true = refl
and_true false = refl

and_assoc : (a b c : Bool) → (a && b) && c ≡ a && (b && c)
and_assoc true b c = refl
and_assoc false b c = refl

same_from : (k l : PlainKinds) (xs ys : List PlainKind) → length xs ≡ length ys → same_kinds (kinded k xs) (kinded l ys) ≡ same_kinds k l && same_list xs ys
same_from k l [] [] h = and_true (same_kinds k l)
same_from k l [] (y ∷ ys) h = absurd (omega arith)
same_from k l (x ∷ xs) [] h = absurd (omega arith)
same_from k l (x ∷ xs) (y ∷ ys) h = let e : length xs ≡ length ys = omega arith in same_from (more_kinds k x) (more_kinds l y) xs ys e ∙ and_assoc (same_kinds k l) (same_kind x y) (same_list xs ys)

pub same_as_lists : (xs ys : List PlainKind) → length xs ≡ length ys → same_kinds (kinded no_kinds xs) (kinded no_kinds ys) ≡ same_list xs ys
same_as_lists xs ys h = same_from no_kinds no_kinds xs ys h

-- how many kinds there are
count : PlainKinds → ℕ
count no_kinds = 0
count (more_kinds ks k) = suc (count ks)

count-kinded : (k : PlainKinds) (xs : List PlainKind) → count (kinded k xs) ≡ count k + length xs
unfolding count
count-kinded k [] = omega arith
count-kinded k (x ∷ xs) = let e : count (kinded (more_kinds k x) xs) ≡ count (more_kinds k x) + length xs = count-kinded (more_kinds k x) xs in omega (arith, e)

and_false : (a b : Bool) → a ≡ false → a && b ≡ false
and_false a b e = ap (λ x. x && b) e

other_count : (k l : PlainKinds) → (count k ≡ count l → ⊥) → same_kinds k l ≡ false
unfolding count
other_count no_kinds no_kinds h = absurd (h refl)
other_count no_kinds (more_kinds ls l) h = refl
other_count (more_kinds ks k) no_kinds h = refl
other_count (more_kinds ks k) (more_kinds ls l) h = and_false (same_kinds ks ls) (same_kind k l) (other_count ks ls (λ e. h (ap suc e)))

pub other_length : (xs ys : List PlainKind) → (length xs ≡ length ys → ⊥) → same_kinds (kinded no_kinds xs) (kinded no_kinds ys) ≡ false
unfolding count
other_length xs ys h = other_count (kinded no_kinds xs) (kinded no_kinds ys) (λ e. h (let a = count-kinded no_kinds xs in let b = count-kinded no_kinds ys in omega (arith, a, b, e)))

length-map : (xs : List Kind) → length (map shown_kind xs) ≡ length xs
length-map [] = refl
length-map (x ∷ xs) = ap suc (length-map xs)

same_shown : (k l : Kinds) (xs ys : List Kind) → xs ≡ kind_items k → ys ≡ kind_items l → same_kinds (shown_kinds k) (shown_kinds l) ≡ same_kinds (kinded no_kinds (map shown_kind xs)) (kinded no_kinds (map shown_kind ys))
same_shown k l xs ys e h =
    ap (λ a. same_kinds a (shown_kinds l)) (kinds-out k ∙ ap (λ zs. kinded no_kinds (map shown_kind zs)) (sym e))
    ∙ ap (same_kinds (kinded no_kinds (map shown_kind xs))) (kinds-out l ∙ ap (λ zs. kinded no_kinds (map shown_kind zs)) (sym h))

pub other_count_shown : (k l : Kinds) (xs ys : List Kind) → xs ≡ kind_items k → ys ≡ kind_items l → (length xs ≡ length ys → ⊥) → false ≡ same_kinds (shown_kinds k) (shown_kinds l)
other_count_shown k l xs ys e h n = sym (same_shown k l xs ys e h ∙ other_length (map shown_kind xs) (map shown_kind ys) (λ i. n (sym (length-map xs) ∙ i ∙ length-map ys)))

pub same_count_shown : (k l : Kinds) (xs ys : List Kind) → xs ≡ kind_items k → ys ≡ kind_items l → length xs ≡ length ys → same_list (map shown_kind xs) (map shown_kind ys) ≡ same_kinds (shown_kinds k) (shown_kinds l)
same_count_shown k l xs ys e h n = sym (same_shown k l xs ys e h ∙ same_as_lists (map shown_kind xs) (map shown_kind ys) (length-map xs ∙ n ∙ sym (length-map ys)))
