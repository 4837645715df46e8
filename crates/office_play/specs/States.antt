-- An office as the code keeps it.
use Rattle.std.specs.Prelude.{ℕ, List, map}
use Rattle.std.specs.declared.option.Option.{Option}
use Rattle.bf_world.specs.Worlds.{WorldState}
use Rattle.desk_keep.specs.declared.change.Change.{Change}
use Rattle.group_core.specs.Books.{BookState}
use Rattle.group_sample.specs.Due.{AnalystState}
use Rattle.relay_core.specs.Relays.{RelayState}
use Rattle.agent_core.specs.Agents.{AgentState, shown_state}
use Rattle.delivery.specs.Messages.{Message}
use Rattle.office_rules.specs.Offices.{PlayedComputer}
use Rattle.office_play.specs.Kept.{KeptOffice}

-- a computer, with its agent as the code keeps it
pub record ComputerState : Type 0 where
  pub relay : List ℕ
  pub agent : AgentState
  pub saved : Option (List ℕ)
  pub world : WorldState
  pub again : WorldState
  pub analyst : AnalystState

-- the computer that it is
abbrev pub shown_computer : ComputerState → PlayedComputer
shown_computer c =
    record {
      relay = c.relay;
      agent = shown_state c.agent;
      saved = c.saved;
      world = c.world;
      again = c.again;
      analyst = c.analyst;
    }

-- so it is under its name
abbrev pub shown_entry : List ℕ × ComputerState → List ℕ × PlayedComputer
shown_entry entry = (entry.0, shown_computer entry.1)

-- an office, with its computers so
pub record OfficeState : Type 0 where
  pub rows : List Change
  pub relays : List (List ℕ × RelayState)
  pub relay_places : List (List ℕ × ℕ)
  pub computers : List (List ℕ × ComputerState)
  pub computer_places : List (List ℕ × ℕ)
  pub messages : List Message
  pub book : BookState

-- the office that it is
abbrev pub kept_of : OfficeState → KeptOffice
kept_of o = record {
  rows = o.rows;
  relays = o.relays;
  relay_places = o.relay_places;
  computers = map shown_entry o.computers;
  computer_places = o.computer_places;
  messages = o.messages;
  book = o.book;
}
