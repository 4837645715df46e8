-- The words `computer`, `turn` and `restart`.
use Rattle.std.specs.Prelude.{◌≡◌, ◌≢◌, ℕ, ℤ, List, [], ◌∷◌, ◌++◌, codes, Some}
use Rattle.bf_world.specs.declared.command.Command.{Command}
use Rattle.bf_world.specs.Worlds.{WorldState}
use Rattle.bf_machine.specs.Steps.{answers_from, world_after}
use Rattle.bf_machine.specs.Sure.{untouched}
use Rattle.bf_machine.specs.Sure as machine
use Rattle.report_text.specs.declared.answer.Gathered.{Gathered}
use Rattle.report_text.specs.declared.answer.Gathered.TheVariants as gathered
use Rattle.fix_site.specs.declared.site.Site.{Site}
use Rattle.script_run.specs.Asking.{When}
use Rattle.agent_text.specs.PocketStates as pocket
use Rattle.agent_state.specs.Changes.{GathersSite}
use Rattle.agent_state.specs.States.{State}
use Rattle.agent_core.specs.declared.opening.Opened.TheVariants as opened
use Rattle.agent_core.specs.declared.turned.Turned.{Turned}
use Rattle.agent_core.specs.declared.turned.Turned.TheVariants as turned
use Rattle.agent_core.specs.Agents.{AgentState, shown_state}
use Rattle.agent_core.specs.Devices.{Devices, devices}
use Rattle.agent_core.specs.Opens.{OpensAgent}
use Rattle.relay_core.specs.Relays.{RelayState}
use Rattle.server_text.specs.declared.reply.Reply.{Reply}
use Rattle.server_text.specs.declared.reply.Reply.TheVariants as told
use Rattle.server_text.specs.Entries.{Entry, FileBytes}
use Rattle.server_core.specs.DeskLimits.{desk_limits}
use Rattle.server_core.specs.Replies.{reply}
use Rattle.delivery.specs.Messages.{named}
use Rattle.turn_lines.specs.declared.giver.Given.{Given}
use Rattle.turn_lines.specs.declared.giver.Given.TheVariants as given
use Rattle.turn_lines.specs.DoLines.{do_lines}
use Rattle.turn_lines.specs.Givers.{Gives, GiverView}
use Rattle.turn_lines.specs.TurnLines.{turn_line}
use Rattle.turn_lines.specs.TurnsWithFiles.{TurnsWithFiles}
use Rattle.office_rules.specs.Deeds.{AtComputer, Deed}
use Rattle.office_rules.specs.Offices.{Office, PlayedComputer, new_computer}
use Rattle.office_rules.specs.OfficeLines.{words_line}

-- ---- computer
-- A computer of this name begins at a relay, in this world.
abbrev pub NamesComputer : List ℕ → List ℕ → WorldState → Deed
NamesComputer name relay world old said new =
    (said ≡ []) × (new ≡ record old { computers = old.computers ++ (name, new_computer name relay world) ∷ [] })

-- ---- turn
-- The agent gathers these sites in turn, which changes it where one is newer.
abbrev pub GathersEach : List Site → State → State → Type 0
GathersEach [] old new = new ≡ old
GathersEach (site ∷ sites) old new =
    (answer : Gathered) × (between : State) × GathersSite old site answer between × (answer ≢ gathered.Memory)
    × GathersEach sites between new

-- what the server's reply to one who asks for a file brings
abbrev pub Brings : Reply → Given → Type 0
Brings (told.Content bytes) answer = answer ≡ given.File bytes
Brings told.NoSuch answer = answer ≡ given.NotServed
Brings other answer = ⊥

-- How files come from a server that accepted this: their bytes, or that they aren't served; or memory is wanting, and none comes.
abbrev pub ServesFiles : Gives (List Entry)
ServesFiles accepted digest given.Memory then = then ≡ accepted
ServesFiles accepted digest answer then = Brings (reply accepted desk_limits (FileBytes digest)) answer × (then ≡ accepted)

-- a giver of the server's files that was asked for none yet
abbrev pub server_files : List Entry → GiverView (List Entry)
server_files accepted = record { asked = []; source = accepted }

-- when a computer turns: at this moment, in the offset of its world
abbrev pub turn_time : ℤ → PlayedComputer → When
turn_time moment c = record { moment = moment; offset = c.world.offset }

-- what the devices of a computer tell as a word begins: its world, that nothing was looked up, done or polled yet, and its pocket's text;
-- no call has failed
abbrev pub devices_of : PlayedComputer → Devices
devices_of c = devices (machine.sure_view (untouched c.world)) (pocket.sure_view c.saved)

-- The devices tell what a computer has as the word ends, that these commands were done, and still that no call has failed.
pub record TellComputer (d : Devices) (commands : List Command) (c : PlayedComputer) : Type 0 where
  pub world : d.machine.world ≡ Some c.world
  pub acted : d.machine.acted ≡ Some commands
  pub saved : d.pocket.saved ≡ Some c.saved
  pub machine_faults : d.machine.faults ≡ 0
  pub pocket_faults : d.pocket.faults ≡ 0

-- The agent of a computer gathers these sites, and makes turns at a moment, with the server's files between them, and memory doesn't run
-- out. Printed are the commands that were done, each with what it is answered in the other world, and then one line for all the turns.
pub record TurnsComputer (name : List ℕ) (moment : ℤ) (accepted : List Entry) (sites : List Site) (old : PlayedComputer)
    (said : List ℕ) (new : PlayedComputer) : Type 0 where
  pub gathered : State
  pub answer : Turned
  pub told : Devices
  pub files : GiverView (List Entry)
  pub commands : List Command
  pub gathers : GathersEach sites old.agent gathered
  pub turns : TurnsWithFiles ServesFiles (turn_time moment old) gathered (devices_of old) (server_files accepted) answer new.agent told
      files
  pub memory : answer ≢ turned.Memory
  pub tells : TellComputer told commands new
  pub relay : new.relay ≡ old.relay
  pub analyst : new.analyst ≡ old.analyst
  pub again : new.again ≡ world_after moment old.again commands
  pub said_is : said ≡ do_lines (answers_from moment old.again commands) ++ turn_line name moment answer

-- A computer turns, and gathers before that what its relay keeps, in byte order of names.
abbrev pub TurnsAt : List ℕ → ℤ → Office → PlayedComputer → List ℕ → PlayedComputer → Type 0
TurnsAt name moment o old said new =
    (relay : RelayState) × (named old.relay o.relays ≡ Some relay) × TurnsComputer name moment o.accepted relay.sites old said new

abbrev pub Turns : List ℕ → ℤ → Deed
Turns name moment old said new = AtComputer name (TurnsAt name moment old) old said new

-- ---- restart
-- An agent is opened again from its pocket, which doesn't fail, and has what was saved there, no site, and no attempt that is held.
abbrev pub RestartsAt : List ℕ → PlayedComputer → List ℕ → PlayedComputer → Type 0
RestartsAt name old said new =
    (agent : AgentState) × OpensAgent name (Some old.saved) (opened.Agent agent) × (said ≡ words_line (codes "restart" ∷ name ∷ []))
    × (new ≡ record old { agent = shown_state agent })

abbrev pub Restarts : List ℕ → Deed
Restarts name = AtComputer name (RestartsAt name)
