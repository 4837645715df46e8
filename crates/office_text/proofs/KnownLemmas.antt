-- The sets of names that are kept beside the orders so far.
use Rattle.std.proofs.Common.{ℕ, ◌≡◌, List, [], ◌∷◌, ◌++◌, Bool, true, false, cond, Option, Some, None, refl, sym, ap, subst, ◌∙◌, ◌⊎◌, inl, inr}
use Rattle.std.specs.Prelude.{◌↔◌, IsTrue, Contains, is_some}
use Rattle.std.specs.declared.cmp.Ordering.{Ordering}
use Rattle.std.specs.declared.cmp.Ordering.TheVariants.{Less, Equal, Greater}
use Rattle.std.specs.Ordering.{match_ordering, is_eq}
use Rattle.std.proofs.lemmas.List.Elements.{Contains-append_left, Contains-push, Contains-push_cases}
use Rattle.std.proofs.lemmas.Map.Text.{is_eq-slice_cmp}
use Rattle.std.proofs.lemmas.Slice.Eq.{bytes_eq-Decides}
use Rattle.bf_world.specs.Maps.{at, byte_order, put}
use Rattle.bf_world.specs.Worlds.{WorldState}
use Rattle.bf_world.proofs.MapLemmas.{order-same}
use Rattle.office_text.specs.declared.order.Order.{Order}
use Rattle.office_text.specs.declared.order.Order.TheVariants as order
use Rattle.office_text.specs.Orders.{HasRelay, HasComputer}
use Rattle.office_text.specs.Known.{HasJust, IsIn, IsRelayOf, IsComputerOf}

abbrev Names : Type 0
Names = List (List ℕ × Unit {0})

-- texts that are equal in their order are the same
same_text : (a b : List ℕ) → is_eq (byte_order a b) ≡ true → a ≡ b
same_text a b h = (bytes_eq-Decides a b).0 (sym (is_eq-slice_cmp a b) ∙ h)

-- what is at a name in a set with one name more
at_put : (q k : List ℕ) (names : Names) → at q (put k tt names) ≡ cond (is_eq (byte_order q k)) (Some tt) (at q names)
at_put q k [] = refl
at_put q k (e ∷ names) = by (byte_order k e.0) refl (at_put q k names)
  where
    equal : (b : Bool) → cond b (Some tt) (at q names) ≡ cond b (Some tt) (cond b (Some tt) (at q names))
    equal true = refl
    equal false = refl

    greater : (a b : Bool) → cond a (Some tt) (cond b (Some tt) (at q names)) ≡ cond b (Some tt) (cond a (Some tt) (at q names))
    greater true true = refl
    greater true false = refl
    greater false true = refl
    greater false false = refl

    by : (r : Ordering) → byte_order k e.0 ≡ r → at q (put k tt names) ≡ cond (is_eq (byte_order q k)) (Some tt) (at q names) → at q (match_ordering r ((k, tt) ∷ e ∷ names) ((e.0, tt) ∷ names) (e ∷ put k tt names)) ≡ cond (is_eq (byte_order q k)) (Some tt) (at q (e ∷ names))
    by Less is more = refl
    by Equal is more =
        let same : k ≡ e.0 = same_text k e.0 (ap is_eq is) in
        equal (is_eq (byte_order q e.0)) ∙ ap (λ (x : List ℕ). cond (is_eq (byte_order q x)) (Some tt) (at q (e ∷ names))) (sym same)
    by Greater is more =
        ap (λ o. cond (is_eq (byte_order q e.0)) (Some tt) o) more ∙ greater (is_eq (byte_order q e.0)) (is_eq (byte_order q k))

-- a set with one name more
pub put_just : (k : List ℕ) (old new : Names) → new ≡ put k tt old → HasJust new (IsIn old (λ q. k ≡ q))
put_just k old new is q = (λ h. there (is_eq (byte_order q k)) refl (sym (now ∙ at_put q k old) ∙ h), λ h. now ∙ at_put q k old ∙ back h)
  where
    now : at q new ≡ at q (put k tt old)
    now = ap (at q) is

    there : (b : Bool) → is_eq (byte_order q k) ≡ b → cond b (Some tt) (at q old) ≡ Some tt → IsIn old (λ q. k ≡ q) q
    there true e h = inr (sym (same_text q k e))
    there false e h = inl h

    whole : (b : Bool) → at q old ≡ Some tt → cond b (Some tt) (at q old) ≡ Some tt
    whole true h = refl
    whole false h = h

    back : IsIn old (λ q. k ≡ q) q → cond (is_eq (byte_order q k)) (Some tt) (at q old) ≡ Some tt
    back (inl h) = whole (is_eq (byte_order q k)) h
    back (inr e) =
        let same : is_eq (byte_order q k) ≡ true = ap (λ (x : List ℕ). is_eq (byte_order q x)) e ∙ ap is_eq (order-same q) in
        ap (λ b. cond b (Some tt) (at q old)) same

-- the same set, where none of these is added
pub same_just : (Is : List ℕ → Type 0) (old new : Names) → ((q : List ℕ) → Is q → ⊥) → new ≡ old → HasJust new (IsIn old Is)
same_just Is old new none is q = (λ h. inl (sym (ap (at q) is) ∙ h), λ h. ap (at q) is ∙ back h)
  where
    back : IsIn old Is q → at q old ≡ Some tt
    back (inl h) = h
    back (inr n) = absurd (none q n)

relay_of : (o : Order) (name : List ℕ) → IsRelayOf o name → o ≡ order.Relay name
relay_of (order.Relay relay) name e = ap order.Relay e
relay_of other name e = absurd e

of_relay : (o : Order) (name : List ℕ) → o ≡ order.Relay name → IsRelayOf o name
of_relay o name e = let P : Order → Type 0 = λ x. IsRelayOf x name in subst P (sym e) refl

-- the relays with one order more
pub relays_more : (orders : List Order) (order : Order) (old new : Names) → HasJust old (HasRelay orders) → HasJust new (IsIn old (IsRelayOf order)) → HasJust new (HasRelay (orders ++ order ∷ []))
relays_more orders o old new mine more q = (λ h. there ((more q).0 h), λ h. (more q).1 (back (Contains-push_cases orders o (order.Relay q) h)))
  where
    there : IsIn old (IsRelayOf o) q → HasRelay (orders ++ o ∷ []) q
    there (inl h) = Contains-append_left orders (o ∷ []) (order.Relay q) ((mine q).0 h)
    there (inr e) = let P : Order → Type 0 = Contains (orders ++ o ∷ []) in subst P (relay_of o q e) (Contains-push orders o)

    back : Contains orders (order.Relay q) ⊎ (o ≡ order.Relay q) → IsIn old (IsRelayOf o) q
    back (inl c) = inl ((mine q).1 c)
    back (inr e) = inr (of_relay o q e)

abbrev ComputerOf : Order → List ℕ → Type 0
ComputerOf o name = (relay : List ℕ) × (world : WorldState) × (o ≡ order.Computer name relay world)

computer_of : (o : Order) (name : List ℕ) → IsComputerOf o name → ComputerOf o name
computer_of (order.Computer computer relay world) name e = (relay, world, ap (λ n. order.Computer n relay world) e)
computer_of other name e = absurd e

of_computer : (o : Order) (name : List ℕ) → ComputerOf o name → IsComputerOf o name
of_computer o name e = let P : Order → Type 0 = λ x. IsComputerOf x name in subst P (sym e.2) refl

-- the computers with one order more
pub computers_more : (orders : List Order) (order : Order) (old new : Names) → HasJust old (HasComputer orders) → HasJust new (IsIn old (IsComputerOf order)) → HasJust new (HasComputer (orders ++ order ∷ []))
computers_more orders o old new mine more q = (λ h. there ((more q).0 h), λ h. (more q).1 (back h (Contains-push_cases orders o (order.Computer q h.0 h.1) h.2)))
  where
    there : IsIn old (IsComputerOf o) q → HasComputer (orders ++ o ∷ []) q
    there (inl h) = let c = (mine q).0 h in (c.0, c.1, Contains-append_left orders (o ∷ []) (order.Computer q c.0 c.1) c.2)
    there (inr e) =
        let c = computer_of o q e in
        let P : Order → Type 0 = Contains (orders ++ o ∷ []) in
        (c.0, c.1, subst P c.2 (Contains-push orders o))

    back : (h : HasComputer (orders ++ o ∷ []) q) → Contains orders (order.Computer q h.0 h.1) ⊎ (o ≡ order.Computer q h.0 h.1) → IsIn old (IsComputerOf o) q
    back h (inl c) = inl ((mine q).1 (h.0, h.1, c))
    back h (inr e) = inr (of_computer o q (h.0, h.1, e))

-- whether a name is in a set
pub is_there : (names : Names) (name : List ℕ) (Is : List ℕ → Type 0) (found : Option (Unit {0})) (answer : Bool) → HasJust names Is → found ≡ at name names → answer ≡ is_some found → IsTrue answer ↔ Is name
is_there names name Is found answer just e is = (λ t. (just name).0 (some (at name names) (sym (is ∙ ap is_some e) ∙ t)), λ h. is ∙ ap is_some (e ∙ (just name).1 h))
  where
    some : (o : Option (Unit {0})) → is_some o ≡ true → o ≡ Some tt
    some (Some u) h = refl
    some None h = absurd (cc)
