-- Where a text stands in another.
use Rattle.std.proofs.Common.{◌≡◌, ℕ, Bool, true, false, ◌||◌, nat_eq, List, [], ◌∷◌, ◌++◌, length, drop, refl, ap, ◌⊎◌, inl, inr, ◌↔◌}
use Rattle.std.specs.List.{starts_with}
use Rattle.std.specs.Str.Iter.{HasSubslice}
use Rattle.std.proofs.lemmas.Bool.Decides.{Decides-eqb, same_from_decides}
use Rattle.std.proofs.lemmas.Slice.Eq.{starts_is}
use Rattle.rel_value.specs.Signs.{occurs}

or-cases : (b c : Bool) → (b || c) ≡ true → (b ≡ true) ⊎ (c ≡ true)
or-cases true c h = inl refl
or-cases false c h = inr h

or-left : (b c : Bool) → b ≡ true → (b || c) ≡ true
or-left true c h = refl
or-left false c h = cc

or-right : (b c : Bool) → c ≡ true → (b || c) ≡ true
or-right true c h = refl
or-right false c h = h

front : (text part : List ℕ) → (starts_with nat_eq text part ≡ true → text ≡ part ++ drop (length part) text) × ((rest : List ℕ) → text ≡ part ++ rest → starts_with nat_eq text part ≡ true)
front text part = starts_is Decides-eqb text part (starts_with nat_eq text part) refl

occurs-from : (part text : List ℕ) → occurs part text ≡ true → HasSubslice text part
occurs-from part [] h = ([], drop (length part) [], (front [] part).0 h)
occurs-from part (x ∷ xs) h =
    elim (or-cases (starts_with nat_eq (x ∷ xs) part) (occurs part xs) h) [
      | inl here ↦ ([], drop (length part) (x ∷ xs), (front (x ∷ xs) part).0 here)
      | inr later ↦ let more = occurs-from part xs later in (x ∷ more.0, more.1, ap (λ l. x ∷ l) more.2)
    ]

occurs-to : (part text before after : List ℕ) → text ≡ before ++ (part ++ after) → occurs part text ≡ true
occurs-to part [] [] after e = (front [] part).1 after e
occurs-to part (x ∷ xs) [] after e = or-left _ _ ((front (x ∷ xs) part).1 after e)
occurs-to part [] (y ∷ ys) after e = cc
occurs-to part (x ∷ xs) (y ∷ ys) after e =
    let rest : xs ≡ ys ++ (part ++ after) = cc in or-right _ _ (occurs-to part xs ys after rest)

pub occurs-is : (part text : List ℕ) (r : Bool) → (r ≡ true) ↔ HasSubslice text part → r ≡ occurs part text
occurs-is part text r h =
    same_from_decides r (occurs part text) (h.0, h.1) (occurs-from part text, λ s. occurs-to part text s.0 s.1 s.2)
