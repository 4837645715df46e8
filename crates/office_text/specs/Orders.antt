-- The orders that an office can be given.
use Rattle.std.specs.Prelude.{ℕ, ◌-◌, ◌^◌, ◌≤◌, List, Contains, ⊤}
use Rattle.desk_base.specs.Moments.{IsMoment}
use Rattle.line_forms.specs.Names.{IsName}
use Rattle.line_forms.specs.Numbers.{IsId}
use Rattle.bf_world.specs.Worlds.{WorldState}
use Rattle.group_text.specs.Properties.{AreProperties}
use Rattle.office_text.specs.declared.order.Order.{Order}
use Rattle.office_text.specs.declared.order.Order.TheVariants as order

-- a number of 64 bits, as that of a report or of a message
abbrev pub IsAnyNumber : ℕ → Type 0
IsAnyNumber number = number ≤ 2 ^ 64 - 1

-- an order whose names and numbers have their forms, and whose properties have distinct names and each a question
abbrev pub IsOrder : Order → Type 0
IsOrder (order.Publish text) = ⊤
IsOrder (order.Act text) = ⊤
IsOrder (order.Stop id) = IsId id
IsOrder (order.File bytes) = ⊤
IsOrder (order.Relay name) = IsName name
IsOrder (order.Computer name relay world) = IsName name × IsName relay
IsOrder (order.Gather relay) = IsName relay
IsOrder (order.Turn name moment) = IsName name × IsMoment moment
IsOrder (order.Restart name) = IsName name
IsOrder (order.Send name seq) = IsName name × IsAnyNumber seq
IsOrder (order.Push relay) = IsName relay
IsOrder (order.Deliver message) = IsAnyNumber message
IsOrder (order.Report name) = IsName name
IsOrder (order.Forward relay) = IsName relay
IsOrder (order.Forget relay) = IsName relay
IsOrder (order.Analysis analysis) = AreProperties analysis.properties
IsOrder (order.Group group) = ⊤
IsOrder (order.Measure name moment) = IsName name × IsMoment moment
IsOrder (order.Members group) = IsName group
IsOrder (order.Target group text) = IsName group

-- one of these orders names this relay
abbrev pub HasRelay : List Order → List ℕ → Type 0
HasRelay orders name = Contains orders (order.Relay name)

-- one of them names this computer
abbrev pub HasComputer : List Order → List ℕ → Type 0
HasComputer orders name = (relay : List ℕ) × (world : WorldState) × Contains orders (order.Computer name relay world)

-- A relay or a computer that the order names is new, and one that it speaks of is named before it.
abbrev pub KnowsNames : List Order → Order → Type 0
KnowsNames before (order.Publish text) = ⊤
KnowsNames before (order.Act text) = ⊤
KnowsNames before (order.Stop id) = ⊤
KnowsNames before (order.File bytes) = ⊤
KnowsNames before (order.Relay name) = ¬ HasRelay before name
KnowsNames before (order.Computer name relay world) = (¬ HasComputer before name) × HasRelay before relay
KnowsNames before (order.Gather relay) = HasRelay before relay
KnowsNames before (order.Turn name moment) = HasComputer before name
KnowsNames before (order.Restart name) = HasComputer before name
KnowsNames before (order.Send name seq) = HasComputer before name
KnowsNames before (order.Push relay) = HasRelay before relay
KnowsNames before (order.Deliver message) = ⊤
KnowsNames before (order.Report name) = HasComputer before name
KnowsNames before (order.Forward relay) = HasRelay before relay
KnowsNames before (order.Forget relay) = HasRelay before relay
KnowsNames before (order.Analysis analysis) = ⊤
KnowsNames before (order.Group group) = ⊤
KnowsNames before (order.Measure name moment) = HasComputer before name
KnowsNames before (order.Members group) = ⊤
KnowsNames before (order.Target group text) = ⊤

-- the order can follow these
pub record CanFollow (before : List Order) (order : Order) : Type 0 where
  pub form : IsOrder order
  pub names : KnowsNames before order
