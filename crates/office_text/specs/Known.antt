-- What is known of the orders so far. Only private functions cite these definitions.
use Rattle.std.specs.Prelude.{◌≡◌, ℕ, ◌↔◌, ◌⊎◌, List, Some}
use Rattle.bf_world.specs.Maps.{at}
use Rattle.office_text.specs.declared.order.Order.{Order}
use Rattle.office_text.specs.declared.order.Order.TheVariants as order
use Rattle.office_text.specs.declared.orders_so_far.OrdersSoFar.TheInside.{Inside}
use Rattle.office_text.specs.Orders.{HasRelay, HasComputer}

-- a set of names, as a map whose entries have no values, has these and no others
abbrev pub HasJust : List (List ℕ × Unit {0}) → (List ℕ → Type 0) → Type 0
HasJust names Is = (name : List ℕ) → (at name names ≡ Some tt) ↔ Is name

-- one set has the names of the relays, another one those of the computers
pub record KnowsNamed (known : Inside) : Type 0 where
  pub relays : HasJust known.relays (HasRelay known.orders.items)
  pub computers : HasJust known.computers (HasComputer known.orders.items)

-- a name of the set, or one of these
abbrev pub IsIn : List (List ℕ × Unit {0}) → (List ℕ → Type 0) → List ℕ → Type 0
IsIn names Is name = (at name names ≡ Some tt) ⊎ Is name

-- the order names this relay
abbrev pub IsRelayOf : Order → List ℕ → Type 0
IsRelayOf (order.Relay relay) name = relay ≡ name
IsRelayOf other name = ⊥

-- the order names this computer
abbrev pub IsComputerOf : Order → List ℕ → Type 0
IsComputerOf (order.Computer computer relay world) name = computer ≡ name
IsComputerOf other name = ⊥
