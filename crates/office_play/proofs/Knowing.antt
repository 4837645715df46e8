-- Names that the orders so far name are those of the office.
use Rattle.std.proofs.Common.{◌≡◌, ℕ, zero, suc, arith, Bool, true, false, List, [], ◌∷◌, Option, Some, None, ◌⊎◌, inl, inr, refl, sym, ap, subst, ◌∙◌, true≢false}
use Rattle.std.specs.Prelude.{bytes_eq, ◌||◌, flat_map, Contains, is_some}
use Rattle.std.specs.List.{list_any}
use Rattle.std.specs.Map.{keys_of}
use Rattle.std.proofs.lemmas.List.Folds.{list_any-append}
use Rattle.std.proofs.lemmas.Map.Made.{is_some-lookup}
use Rattle.bf_world.specs.Worlds.{WorldState}
use Rattle.delivery.specs.Messages.{named}
use Rattle.office_text.specs.declared.order.Order.{Order}
use Rattle.office_text.specs.declared.order.Order.TheVariants as order
use Rattle.office_text.specs.Orders.{HasComputer, HasRelay}
use Rattle.office_text.specs.Orders as text
use Rattle.office_play.specs.Kept.{KeptOffice}
use Rattle.office_play.specs.Links.{IsNamed, KnowsNames, added_computers, added_relays}
use Rattle.office_play.proofs.Places.{is_same, same_name}

-- ---- lists
either : (a b : Bool) → (a || b) ≡ true → (a ≡ true) ⊎ (b ≡ true)
either true b h = inl refl
either false b h = inr h

left_true : (a b : Bool) → a ≡ true → (a || b) ≡ true
left_true true b h = refl
left_true false b h = absurd (true≢false (sym h))

right_true : (a b : Bool) → b ≡ true → (a || b) ≡ true
right_true true b h = refl
right_true false b h = h

pub in_rest : {X : Type 0} (x y : X) (xs : List X) → Contains (x ∷ xs) y → (x ≡ y) ⊎ Contains xs y
in_rest x y xs (zero, within, is) = inl is
in_rest x y xs (suc k, within, is) = inr (k, omega (arith, within), is)

pub first_in : {X : Type 0} (x : X) (xs : List X) → Contains (x ∷ xs) x
first_in x xs = (0, omega arith, refl)

pub later_in : {X : Type 0} (x y : X) (xs : List X) → Contains xs y → Contains (x ∷ xs) y
later_in x y xs (k, within, is) = (suc k, omega (arith, within), is)

-- ---- what orders add
module _ (added : Order → List (List ℕ)) (name : List ℕ) where
  -- one of these orders adds this name
  abbrev pub adds_any : List Order → Bool
  adds_any orders = list_any (bytes_eq name) (flat_map added orders)

  pub any_from : (orders : List Order) (order : Order) → Contains orders order → list_any (bytes_eq name) (added order) ≡ true
      → adds_any orders ≡ true
  any_from [] order (k, within, is) h = absurd (omega (arith, within))
  any_from (first ∷ orders) order there h =
      list_any-append (bytes_eq name) (added first) (flat_map added orders)
      ∙ by (in_rest first order orders there) (λ rest. any_from orders order rest h)
    where
      here : Bool
      here = list_any (bytes_eq name) (added first)

      by : (first ≡ order) ⊎ Contains orders order → (Contains orders order → adds_any orders ≡ true) → (here || adds_any orders) ≡ true
      by (inl same) more = left_true here (adds_any orders) (ap (λ o. list_any (bytes_eq name) (added o)) same ∙ h)
      by (inr rest) more = right_true here (adds_any orders) (more rest)

  pub any_back : (orders : List Order) → adds_any orders ≡ true
      → (order : Order) × Contains orders order × (list_any (bytes_eq name) (added order) ≡ true)
  any_back [] h = absurd (true≢false (sym h))
  any_back (first ∷ orders) h =
      by (either (list_any (bytes_eq name) (added first)) (adds_any orders)
      (sym (list_any-append (bytes_eq name) (added first) (flat_map added orders)) ∙ h)) (λ rest. any_back orders rest)
    where
      by : (list_any (bytes_eq name) (added first) ≡ true) ⊎ (adds_any orders ≡ true)
          → (adds_any orders ≡ true → (order : Order) × Contains orders order × (list_any (bytes_eq name) (added order) ≡ true))
          → (order : Order) × Contains (first ∷ orders) order × (list_any (bytes_eq name) (added order) ≡ true)
      by (inl here) rest_of = (first, first_in first orders, here)
      by (inr rest) rest_of = let more = rest_of rest in (more.0, later_in first more.0 orders more.1, more.2)

one_name : (name other : List ℕ) → list_any (bytes_eq name) (other ∷ []) ≡ true → other ≡ name
one_name name other h = sym (same_name name other (by (either (bytes_eq name other) false h)))
  where
    by : (bytes_eq name other ≡ true) ⊎ (false ≡ true) → bytes_eq name other ≡ true
    by (inl is) = is
    by (inr never) = absurd (true≢false (sym never))

names_itself : (name : List ℕ) → list_any (bytes_eq name) (name ∷ []) ≡ true
names_itself name = left_true (bytes_eq name name) false (is_same name name refl)

-- ---- relays
relay_added : (orders : List Order) (name : List ℕ) → HasRelay orders name → adds_any added_relays name orders ≡ true
relay_added orders name there = any_from added_relays name orders (order.Relay name) there (names_itself name)

relay_order : (o : Order) (name : List ℕ) → list_any (bytes_eq name) (added_relays o) ≡ true → o ≡ order.Relay name
relay_order (order.Relay other) name h = ap order.Relay (one_name name other h)
relay_order other name h = absurd (true≢false (sym h))

relay_back : (orders : List Order) (name : List ℕ) → adds_any added_relays name orders ≡ true → HasRelay orders name
relay_back orders name h =
    let found = any_back added_relays name orders h in
    subst (λ (o : Order). Contains orders o) (relay_order found.0 name found.2) found.1

-- ---- computers
computer_added : (orders : List Order) (name : List ℕ) → HasComputer orders name → adds_any added_computers name orders ≡ true
computer_added orders name (relay, world, there) =
    any_from added_computers name orders (order.Computer name relay world) there (names_itself name)

computer_order : (o : Order) (name : List ℕ) → list_any (bytes_eq name) (added_computers o) ≡ true
    → (relay : List ℕ) × (world : WorldState) × (o ≡ order.Computer name relay world)
computer_order (order.Computer other relay world) name h = (relay, world, ap (λ (n : List ℕ). order.Computer n relay world) (one_name name other h))
computer_order other name h = absurd (true≢false (sym h))

computer_back : (orders : List Order) (name : List ℕ) → adds_any added_computers name orders ≡ true → HasComputer orders name
computer_back orders name h =
    let found = any_back added_computers name orders h in
    let is = computer_order found.0 name found.2 in
    (is.0, is.1, subst (λ (o : Order). Contains orders o) is.2 found.1)

-- ---- the names of an office
module _ {V : Type 0} (entries : List (List ℕ × V)) (names : List (List ℕ)) (are : keys_of entries ≡ names) (name : List ℕ) where
  there_by : list_any (bytes_eq name) names ≡ true → IsNamed name entries
  there_by h = is_some-lookup (bytes_eq name) entries ∙ ap (list_any (bytes_eq name)) are ∙ h

  free_by : (list_any (bytes_eq name) names ≡ true → ⊥) → named name entries ≡ None
  free_by never = by (named name entries) refl
    where
      by : (o : Option V) → named name entries ≡ o → named name entries ≡ None
      by None is = is
      by (Some v) is = absurd (never (sym (ap (list_any (bytes_eq name)) are) ∙ sym (is_some-lookup (bytes_eq name) entries) ∙ ap is_some is))

-- An order that can follow these speaks of what the office has, and names what is new to it.
pub known : (done : List Order) (o : KeptOffice) (next : Order) → keys_of o.relays ≡ flat_map added_relays done
    → keys_of o.computers ≡ flat_map added_computers done → text.KnowsNames done next → KnowsNames o next
known done o (order.Relay name) relays computers h = free_by o.relays (flat_map added_relays done) relays name (λ any. h (relay_back done name any))
known done o (order.Computer name relay world) relays computers h =
    (free_by o.computers (flat_map added_computers done) computers name (λ any. h.0 (computer_back done name any)), there_by o.relays (flat_map added_relays done) relays relay (relay_added done relay h.1))
known done o (order.Gather relay) relays computers h = there_by o.relays (flat_map added_relays done) relays relay (relay_added done relay h)
known done o (order.Turn name moment) relays computers h = there_by o.computers (flat_map added_computers done) computers name (computer_added done name h)
known done o (order.Restart name) relays computers h = there_by o.computers (flat_map added_computers done) computers name (computer_added done name h)
known done o (order.Send name seq) relays computers h = there_by o.computers (flat_map added_computers done) computers name (computer_added done name h)
known done o (order.Push relay) relays computers h = there_by o.relays (flat_map added_relays done) relays relay (relay_added done relay h)
known done o (order.Report name) relays computers h = there_by o.computers (flat_map added_computers done) computers name (computer_added done name h)
known done o (order.Forward relay) relays computers h = there_by o.relays (flat_map added_relays done) relays relay (relay_added done relay h)
known done o (order.Forget relay) relays computers h = there_by o.relays (flat_map added_relays done) relays relay (relay_added done relay h)
known done o (order.Measure name moment) relays computers h = there_by o.computers (flat_map added_computers done) computers name (computer_added done name h)
known done o other relays computers h = tt
