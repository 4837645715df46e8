-- What a computer does that turns, over the rows of the server's tables.
use Rattle.std.specs.Prelude.{◌≡◌, ◌≢◌, ℕ, ℤ, List, ◌++◌}
use Rattle.std.specs.declared.option.Option.{Option}
use Rattle.bf_machine.specs.Sure.{SureState}
use Rattle.bf_machine.specs.Sure as machine
use Rattle.fix_site.specs.declared.site.Site.{Site}
use Rattle.desk_keep.specs.declared.change.Change.{Change}
use Rattle.agent_text.specs.PocketStates as pocket
use Rattle.agent_state.specs.States.{State}
use Rattle.agent_core.specs.Devices.{Devices, devices}
use Rattle.agent_core.specs.declared.turned.Turned.{Turned}
use Rattle.agent_core.specs.declared.turned.Turned.TheVariants as turned
use Rattle.server_text.specs.Entries.{Entry}
use Rattle.turn_lines.specs.declared.giver.FileAsked.{FileAsked}
use Rattle.turn_lines.specs.Givers.{GiverView}
use Rattle.turn_lines.specs.TurnsWithFiles.{TurnsWithFiles}
use Rattle.office_rules.specs.ComputerWords.{ServesFiles, TurnsComputer, server_files}
use Rattle.office_rules.specs.Offices.{PlayedComputer}
use Rattle.office_play.specs.Kept.{AreRowsOf}

-- a computer's agent, machine and pocket
pub record Turner : Type 0 where
  pub agent : State
  pub machine : SureState
  pub pocket : Option (List ℕ)

-- what a machine and a pocket tell
abbrev pub told_by : SureState → Option (List ℕ) → Devices
told_by m saved = devices (machine.sure_view m) (pocket.sure_view saved)

-- what its devices tell
abbrev pub told_of : Turner → Devices
told_of t = told_by t.machine t.pocket

-- a giver of files from rows, which was asked for these so far
abbrev pub files_of : List FileAsked → List Change → GiverView (List Change)
files_of asked rows = record { asked = asked; source = rows }

-- Turns were made at a moment, with files from a server that accepted this, of which none ended for want of memory.
pub record MakesTurns (moment : ℤ) (accepted : List Entry) (old : Turner) (answer : Turned) (new : Turner) : Type 0 where
  pub files : GiverView (List Entry)
  pub turns : TurnsWithFiles ServesFiles (record { moment = moment; offset = old.machine.world.offset }) old.agent (told_of old)
      (server_files accepted) answer new.agent (told_of new) files
  pub memory : answer ≢ turned.Memory

-- so it is for whatever the rows are the tables of
abbrev pub MakesTurnsOver : ℤ → List Change → Turner → Turned → Turner → Type 0
MakesTurnsOver moment rows old answer new =
    (accepted : List Entry) → AreRowsOf accepted rows → MakesTurns moment accepted old answer new

-- A computer turns at a moment, with these sites: so it is for whatever the rows are the tables of.
abbrev pub TurnsOver : ℤ → List Change → List Site → List ℕ × PlayedComputer → List ℕ → List ℕ × PlayedComputer → List ℕ → Type 0
TurnsOver moment rows sites old out new then =
    (accepted : List Entry) → AreRowsOf accepted rows
    → (said : List ℕ) × TurnsComputer old.0 moment accepted sites old.1 said new.1 × (then ≡ out ++ said)
