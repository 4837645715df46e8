-- An office: what its server accepted, its relays, its computers, the messages that were ever sent, and its book of samples and groups.
use Rattle.std.specs.Prelude.{ℕ, List, [], map, length, All, None}
use Rattle.std.specs.declared.option.Option.{Option}
use Rattle.bf_world.specs.Worlds.{WorldState}
use Rattle.group_sample.specs.Due.{AnalystState, new_analyst}
use Rattle.group_core.specs.Books.{BookState, empty_book}
use Rattle.relay_core.specs.KeptSites.{AreKept}
use Rattle.relay_core.specs.Relays.{RelayState}
use Rattle.agent_state.specs.States.{IsSound, State}
use Rattle.agent_core.specs.Opens.{new_state}
use Rattle.agent_core.specs.Stops.{HeldWaitsBelow}
use Rattle.server_text.specs.Entries.{Entry}
use Rattle.delivery.specs.Messages.{Carrier, Message, carrier_of, changed}

-- A computer: the name of its relay; its agent; the text in its pocket, if one is saved; its world; once more that world, in which its
-- commands are done again for the lines that are printed of them; and who measures it.
pub record PlayedComputer : Type 0 where
  pub relay : List ℕ
  pub agent : State
  pub saved : Option (List ℕ)
  pub world : WorldState
  pub again : WorldState
  pub analyst : AnalystState

-- What the server accepted, the latest first; the relays and the computers by their names, in the order in which they were named; the
-- messages in the order in which they were sent; and the book of what is measured and of groups.
pub record Office : Type 0 where
  pub accepted : List Entry
  pub relays : List (List ℕ × RelayState)
  pub computers : List (List ℕ × PlayedComputer)
  pub messages : List Message
  pub book : BookState

-- the most properties that are measured, and the most groups
abbrev pub most_kept : ℕ
most_kept = 1000

-- an office before its first word
abbrev pub empty_office : Office
empty_office = record { accepted = []; relays = []; computers = []; messages = []; book = empty_book most_kept }

-- a computer of this name, at this relay, in this world, whose agent has done nothing yet and saved nothing, and which was never
-- measured
abbrev pub new_computer : List ℕ → List ℕ → WorldState → PlayedComputer
new_computer name relay world =
    record {
      relay = relay;
      agent = new_state name;
      saved = None;
      world = world;
      again = world;
      analyst = new_analyst name;
    }

-- the office with this in the place of the relay, or of the computer, of this name
abbrev pub with_relay : List ℕ → RelayState → Office → Office
with_relay name relay o = record o { relays = changed name (λ _. relay) o.relays }

abbrev pub with_computer : List ℕ → PlayedComputer → Office → Office
with_computer name computer o = record o { computers = changed name (λ _. computer) o.computers }

-- what of the relays matters for the delivery of reports, by their names
abbrev pub carriers_of : List (List ℕ × RelayState) → List (List ℕ × Carrier)
carriers_of relays = map (λ (entry : List ℕ × RelayState). (entry.0, carrier_of entry.1)) relays

-- ---- what holds of every office that is played
-- The computer's agent is sound, and the program that its held attempt waits for, if it waits for one, is one that its world started.
pub record IsSoundComputer (c : PlayedComputer) : Type 0 where
  pub sound : IsSound c.agent
  pub waits : HeldWaitsBelow (length c.world.started) c.agent.held

-- Each computer is sound, and the sites of each relay are kept ones.
pub record IsSoundOffice (o : Office) : Type 0 where
  pub computers : All (λ (entry : List ℕ × PlayedComputer). IsSoundComputer entry.1) o.computers
  pub relays : All (λ (entry : List ℕ × RelayState). AreKept entry.1.sites) o.relays
