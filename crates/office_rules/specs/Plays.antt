-- What an office plays, and what is written of it: the meaning of its orders.
use Rattle.std.specs.Prelude.{◌≡◌, ◌⊎◌, ℕ, List, [], ◌∷◌, ◌++◌, codes}
use Rattle.desk_base.specs.Flow.{IsFront}
use Rattle.office_text.specs.declared.order.Order.{Order}
use Rattle.office_text.specs.declared.order.Order.TheVariants as order
use Rattle.server_text.specs.declared.request.Request.TheVariants as request
use Rattle.office_rules.specs.Offices.{IsSoundOffice, Office, empty_office}
use Rattle.office_rules.specs.Deeds.{Deed, DoesEach}
use Rattle.office_rules.specs.ServerWords.{AsksServer}
use Rattle.office_rules.specs.GroupWords.{KeepsAnalysis, KeepsGroup, Measures, SaysMembers, TargetsGroup}
use Rattle.office_rules.specs.RelayWords.{Forgets, Gathers, NamesRelay}
use Rattle.office_rules.specs.ComputerWords.{NamesComputer, Restarts, Turns}
use Rattle.office_rules.specs.MessageWords.{DeliversAt, Forwards, Pushes, ReportsAll, Sends}
use Rattle.office_rules.specs.Endings.{ending_text}

-- what each order does and prints
abbrev pub Obeys : Order → Deed
Obeys (order.Publish text) = AsksServer (codes "publish") (request.Publish text)
Obeys (order.Act text) = AsksServer (codes "act") (request.Act text)
Obeys (order.Stop id) = AsksServer (codes "stop") (request.Stop id)
Obeys (order.File bytes) = AsksServer (codes "file") (request.File bytes)
Obeys (order.Relay name) = NamesRelay name
Obeys (order.Computer name relay world) = NamesComputer name relay world
Obeys (order.Gather relay) = Gathers relay
Obeys (order.Turn name moment) = Turns name moment
Obeys (order.Restart name) = Restarts name
Obeys (order.Send name seq) = Sends name seq
Obeys (order.Push relay) = Pushes relay
Obeys (order.Deliver message) = DeliversAt message
Obeys (order.Report name) = ReportsAll name
Obeys (order.Forward relay) = Forwards relay
Obeys (order.Forget relay) = Forgets relay
Obeys (order.Analysis analysis) = KeepsAnalysis analysis
Obeys (order.Group group) = KeepsGroup group
Obeys (order.Measure name moment) = Measures name moment
Obeys (order.Members name) = SaysMembers name
Obeys (order.Target name text) = TargetsGroup name text

-- An order is obeyed in an office, which stays sound.
pub record PlaysOrder (order : Order) (old : Office) (said : List ℕ) (new : Office) : Type 0 where
  pub obeys : Obeys order old said new
  pub sound : IsSoundOffice new

-- The orders are played one after another from the beginning, to what is printed of them and an office. They may be any: those of an
-- office text name each relay and each computer once, and before it is used, and the properties of each analysis have distinct names.
abbrev pub PlaysAll : List Order → List ℕ → Office → Type 0
PlaysAll orders said new = DoesEach PlaysOrder orders empty_office said new

-- The orders are played, and then the end is printed.
pub record IsPlayed (orders : List Order) (written : List ℕ) (o : Office) : Type 0 where
  pub said : List ℕ
  pub plays : PlaysAll orders said o
  pub written_is : written ≡ said ++ ending_text o

-- A front of what comes next: of what is printed of the next order, if it is played, or of the end.
abbrev pub IsFrontOfNext : List Order → Office → List ℕ → Type 0
IsFrontOfNext [] o front = IsFront (ending_text o) front
IsFrontOfNext (order ∷ orders) o front =
    (front ≡ []) ⊎ ((said : List ℕ) × (new : Office) × PlaysOrder order o said new × IsFront said front)

-- Some of the orders are played whole, and a front of what comes next is printed.
pub record IsFrontOfPlay (orders : List Order) (written : List ℕ) : Type 0 where
  pub before : List Order
  pub after : List Order
  pub said : List ℕ
  pub front : List ℕ
  pub o : Office
  pub orders_are : orders ≡ before ++ after
  pub plays : PlaysAll before said o
  pub next : IsFrontOfNext after o front
  pub written_is : written ≡ said ++ front
