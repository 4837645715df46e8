-- Played offices as schedules of the delivery of reports.
use Rattle.std.specs.Prelude.{◌≡◌, ◌≢◌, ℕ, List, [], ◌∷◌, filter_map, codes, Some, None, ⊤}
use Rattle.std.specs.declared.option.Option.{Option}
use Rattle.agent_core.specs.Schedules.{IsMailOf}
use Rattle.relay_core.specs.Relays.{desk_queue}
use Rattle.server_core.specs.DeskLimits.{desk_limits}
use Rattle.office_text.specs.declared.order.Order.{Order}
use Rattle.office_text.specs.declared.order.Order.TheVariants as order
use Rattle.delivery.specs.Messages.{Message}
use Rattle.delivery.specs.Schedules.{Computer, Deployment, IsSchedule, Network, Step, reached, start}
use Rattle.office_rules.specs.MessageWords.{answer_word}
use Rattle.office_rules.specs.Offices.{Office, PlayedComputer, carriers_of, empty_office}
use Rattle.office_rules.specs.Plays.{PlaysOrder}
use Rattle.office_rules.specs.WordSteps.{AreOfEach, AreStepsOf}

-- the relay that an order names, with the most reports that it queues
abbrev pub named_relay : Order → Option (List ℕ × ℕ)
named_relay (order.Relay name) = Some (name, desk_queue)
named_relay other = None

-- the computer that an order names, with its relay
abbrev pub named_computer : Order → Option (List ℕ × List ℕ)
named_computer (order.Computer name relay world) = Some (name, relay)
named_computer other = None

-- what the orders give beforehand: the desk's limits, the relays and the computers
abbrev pub deployment_of : List Order → Deployment
deployment_of orders = record {
  limits = desk_limits;
  relays = filter_map named_relay orders;
  computers = filter_map named_computer orders;
}

-- a computer has the same name and the same relay, and what matters of its agent and its pocket is this mail
abbrev pub IsComputerOf : List ℕ × Computer → List ℕ × PlayedComputer → Type 0
IsComputerOf there computer =
    (there.0 ≡ computer.0) × (there.1.relay ≡ computer.1.relay)
    × IsMailOf there.1.mail computer.1.agent (Some computer.1.saved)

-- so is each, in their order
abbrev pub AreComputersOf : List (List ℕ × Computer) → List (List ℕ × PlayedComputer) → Type 0
AreComputersOf [] [] = ⊤
AreComputersOf (there ∷ others) (computer ∷ computers) = IsComputerOf there computer × AreComputersOf others computers
AreComputersOf others computers = ⊥

-- What matters of an office for the delivery of reports is this network.
pub record IsNetworkOf (n : Network) (o : Office) : Type 0 where
  pub accepted : n.accepted ≡ o.accepted
  pub messages : n.messages ≡ o.messages
  pub relays : n.relays ≡ carriers_of o.relays
  pub computers : AreComputersOf n.computers o.computers

-- A schedule, under what the orders give beforehand, is made of the steps of each order, and reaches what matters of an office.
pub record ReachesOffice (orders : List Order) (o : Office) : Type 0 where
  pub steps : List Step
  pub are : AreOfEach PlaysOrder AreStepsOf orders empty_office steps
  pub schedule : IsSchedule desk_limits (start (deployment_of orders)) steps
  pub network : IsNetworkOf (reached desk_limits (start (deployment_of orders)) steps) o

-- the word for what the message brings back, if it brings something back, isn't `conflict`
abbrev pub SaysNoConflict : Message → Type 0
SaysNoConflict message = answer_word message ≢ Some (codes "conflict")
