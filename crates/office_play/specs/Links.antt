-- That what speaks of a relay or a computer speaks of one that is there.
use Rattle.std.specs.Prelude.{◌≡◌, ◌<◌, ℕ, suc, bytes_eq, if◌then◌else◌, List, [], ◌∷◌, ◌++◌, length, All, IsSome, Some, None, ⊤}
use Rattle.std.specs.declared.option.Option.{Option}
use Rattle.std.specs.Map.{keys_of}
use Rattle.std.specs.Option.{option_map}
use Rattle.line_forms.specs.Names.{IsName}
use Rattle.bf_world.specs.Maps.{at}
use Rattle.report_text.specs.declared.report.Report.{Report}
use Rattle.report_text.specs.Reports.{IsReport}
use Rattle.relay_core.specs.KeptSites.{AreKept}
use Rattle.relay_core.specs.Relays.{RelayState}
use Rattle.agent_core.specs.Schedules.{HasSaved, IsMailOf, Mail}
use Rattle.agent_state.specs.States.{State}
use Rattle.turn_lines.specs.VerdictWords.{reply_word}
use Rattle.office_text.specs.declared.order.Order.{Order}
use Rattle.office_text.specs.declared.order.Order.TheVariants as order
use Rattle.delivery.specs.Messages.{Message, ReportToRelay, ReportToServer, VerdictToComputer, ReplyToRelay, named}
use Rattle.office_rules.specs.Offices.{IsSoundComputer, PlayedComputer, most_kept}
use Rattle.office_play.specs.Kept.{KeptOffice}

-- ---- names
-- something has this name
abbrev pub IsNamed : {V : Type 0} → List ℕ → List (List ℕ × V) → Type 0
IsNamed name entries = IsSome (named name entries)

-- where the first thing of a name stands, if there is one
abbrev pub place_of : {V : Type 0} → List ℕ → List (List ℕ × V) → Option ℕ
place_of name [] = None
place_of name (entry ∷ entries) = if bytes_eq name entry.0 then Some 0 else option_map suc (place_of name entries)

-- the map finds each name where it stands
abbrev pub FindsPlaces : {V : Type 0} → List (List ℕ × ℕ) → List (List ℕ × V) → Type 0
FindsPlaces places entries = (name : List ℕ) → at name places ≡ place_of name entries

-- the place is that of the name
pub record IsPlaceOf {V : Type 0} (name : List ℕ) (entries : List (List ℕ × V)) (place : ℕ) : Type 0 where
  pub within : place < length entries
  pub first : place_of name entries ≡ Some place

-- These names were added, after those that were there.
pub record AddsNames (relays computers : List (List ℕ)) (old new : KeptOffice) : Type 0 where
  pub relays_are : keys_of new.relays ≡ keys_of old.relays ++ relays
  pub computers_are : keys_of new.computers ≡ keys_of old.computers ++ computers

-- The relays and the computers have the names that they had.
pub record KeepsNames (old new : KeptOffice) : Type 0 where
  pub relays_are : keys_of new.relays ≡ keys_of old.relays
  pub computers_are : keys_of new.computers ≡ keys_of old.computers

-- the names that an order adds
abbrev pub added_relays : Order → List (List ℕ)
added_relays (order.Relay name) = name ∷ []
added_relays other = []

abbrev pub added_computers : Order → List (List ℕ)
added_computers (order.Computer name relay world) = name ∷ []
added_computers other = []

-- ---- what is there
-- The report can be spelled, and its computer is there.
pub record IsReportOf (computers : List (List ℕ × PlayedComputer)) (report : Report) : Type 0 where
  pub good : IsReport report
  pub computer : IsNamed report.computer computers

-- A relay keeps sites, and queues reports of computers that are there.
pub record IsGoodRelay (computers : List (List ℕ × PlayedComputer)) (relay : RelayState) : Type 0 where
  pub sites : AreKept relay.sites
  pub queue : All (IsReportOf computers) relay.queue

-- A pocket has what an agent of this computer saved, or nothing yet.
abbrev pub IsPocketOf : List ℕ → Option (List ℕ) → Type 0
IsPocketOf computer saved = (mail : Mail) × (mail.computer ≡ computer) × HasSaved mail saved

-- What matters of an agent and its pocket for the delivery of reports is a mail of this computer.
abbrev pub HasMail : List ℕ → State → Option (List ℕ) → Type 0
HasMail computer agent saved = (mail : Mail) × (mail.computer ≡ computer) × IsMailOf mail agent (Some saved)

-- A computer is sound, its agent and its pocket are those of its name, and its relay is there.
pub record IsGoodComputer (relays : List (List ℕ × RelayState)) (entry : List ℕ × PlayedComputer) : Type 0 where
  pub sound : IsSoundComputer entry.1
  pub name : IsName entry.0
  pub mail : HasMail entry.0 entry.1.agent entry.1.saved
  pub relay : IsNamed entry.1.relay relays

-- A message is for a relay or a computer that is there, and speaks of a computer that is there. A reply judges its report.
abbrev pub CanArrive : List (List ℕ × RelayState) → List (List ℕ × PlayedComputer) → Message → Type 0
CanArrive relays computers (ReportToRelay relay report) = IsNamed relay relays × IsReportOf computers report
CanArrive relays computers (ReportToServer relay report) = IsNamed relay relays × IsReportOf computers report
CanArrive relays computers (VerdictToComputer computer seq verdict) = IsNamed computer computers
CanArrive relays computers (ReplyToRelay relay key digest answered) = IsNamed relay relays × IsSome (reply_word answered)

-- What holds of an office while it is played.
pub record IsGoodOffice (o : KeptOffice) : Type 0 where
  pub relays : All (λ (entry : List ℕ × RelayState). IsGoodRelay o.computers entry.1) o.relays
  pub relays_found : FindsPlaces o.relay_places o.relays
  pub computers : All (IsGoodComputer o.relays) o.computers
  pub computers_found : FindsPlaces o.computer_places o.computers
  pub messages : All (CanArrive o.relays o.computers) o.messages
  pub book : o.book.limit ≡ most_kept

-- ---- orders
-- A relay or a computer that the order names is new, and one that it speaks of is there.
abbrev pub KnowsNames : KeptOffice → Order → Type 0
KnowsNames o (order.Relay name) = named name o.relays ≡ None
KnowsNames o (order.Computer name relay world) = (named name o.computers ≡ None) × IsNamed relay o.relays
KnowsNames o (order.Gather relay) = IsNamed relay o.relays
KnowsNames o (order.Turn name moment) = IsNamed name o.computers
KnowsNames o (order.Restart name) = IsNamed name o.computers
KnowsNames o (order.Send name seq) = IsNamed name o.computers
KnowsNames o (order.Push relay) = IsNamed relay o.relays
KnowsNames o (order.Report name) = IsNamed name o.computers
KnowsNames o (order.Forward relay) = IsNamed relay o.relays
KnowsNames o (order.Forget relay) = IsNamed relay o.relays
KnowsNames o (order.Measure name moment) = IsNamed name o.computers
KnowsNames o other = ⊤
