-- How questions to a machine or a described world end, a check of a site, and the play of an office. Only private functions cite
-- these definitions.
use Rattle.std.specs.Prelude.{◌⊎◌, ℕ, List, [], length, None, Some}
use Rattle.std.specs.declared.option.Option.{Option}
use Rattle.std.specs.Io.KnownBytes.{Appends}
use Rattle.desk_base.specs.Flow.{AppendsFront}
use Rattle.desk_base.specs.Views.{SourceView, SinkView, ClockView}
use Rattle.bf_world.specs.Worlds.{WorldState}
use Rattle.bf_machine.specs.Views.{MachineView}
use Rattle.agent_text.specs.Pockets.{PocketView}
use Rattle.desk_keep.specs.Views.{KeeperView}
use Rattle.desk_door.specs.Doors.{DoorView}
use Rattle.desk_door.specs.Links.{LinkView}
use Rattle.rel_session.specs.Devices.{Devices}
use Rattle.site_check.specs.declared.finding.Finding.{Finding}
use Rattle.site_check.specs.declared.finding.Finding.TheVariants as finding
use Rattle.office_play.specs.declared.play.PlayEnd.{PlayEnd}
use Rattle.office_play.specs.declared.play.PlayEnd.TheVariants as end
use Rattle.desk_top.specs.declared.command.DeskCommand.{DeskCommand}
use Rattle.desk_top.specs.declared.status.Status.{Status}
use Rattle.desk_top.specs.declared.status.Status.TheVariants.{Done, Refused, Sink, Clock, Memory}
use Rattle.desk_top.specs.AllDevices.{AllDevices, all_devices}
use Rattle.desk_top.specs.Said.{Began, Did, DidDescribed, DidDescribedFront, DidQuestions, DidQuestionsFront, IsGoodInput, IsRefused}
use Rattle.desk_top.specs.WorldInputs.{bad_line}

-- what a machine over a described world tells: the world, and no fault
abbrev pub described : WorldState → MachineView
described w = record { world = Some w; looked = None; acted = None; polled = None; started = length w.started; faults = 0; holds = [] }

-- devices that tell nothing
abbrev pub no_source : SourceView
no_source = record { left = None; reads = None; faults = 0 }

abbrev pub no_machine : MachineView
no_machine = record { world = None; looked = None; acted = None; polled = None; started = 0; faults = 0; holds = [] }

abbrev pub no_pocket : PocketView
no_pocket = record { saved = None; faults = 0 }

abbrev pub no_keeper : KeeperView
no_keeper = record { rows = None; faults = 0 }

abbrev pub no_door : DoorView
no_door = record { ports = None; coming = None; left = None; written = None; ended = None; faults = 0 }

abbrev pub no_link : LinkView
no_link = record { upstream = None; asked = None; replies = None; faults = 0 }

abbrev pub no_clock : ClockView
no_clock = record { given = None; faults = 0 }

-- devices of which only the sink counts
abbrev pub holding : SinkView → AllDevices
holding sink = all_devices no_source sink no_machine no_pocket no_keeper no_door no_link no_clock

-- How questions to this machine end.
abbrev pub MachineEnds : Status → List ℕ → Devices → Devices → Type 0
MachineEnds Done input old new = DidQuestions input old new
MachineEnds Sink input old new = DidQuestionsFront input old new
MachineEnds Clock input old new = DidQuestionsFront input old new
MachineEnds Memory input old new = DidQuestionsFront input old new
MachineEnds _ input old new = ⊥

-- How a command ends that reads its input and asks no device: questions to the described world of an input, a check of a site,
-- or the play of an office.
-- Unwritten says that nothing was written.
abbrev pub TextEnds : DeskCommand → Status → List ℕ → SinkView → SinkView → Type 0 → Type 0
TextEnds command Done input old new Unwritten = Did command input (holding old) (holding new)
TextEnds command Refused input old new Unwritten = IsRefused command input (Appends old.held new.held) × ¬ IsGoodInput command input
TextEnds command Sink input old new Unwritten = Began Sink command input (holding old) (holding new)
TextEnds command Memory input old new Unwritten = Unwritten ⊎ Began Memory command input (holding old) (holding new)
TextEnds command _ input old new Unwritten = ⊥

-- How questions to a described world end that was read.
abbrev pub DescribedEnds : Status → WorldState → List ℕ → SinkView → SinkView → Type 0
DescribedEnds Done world lines old new = DidDescribed world lines old new
DescribedEnds Sink world lines old new = DidDescribedFront world lines old new
DescribedEnds Memory world lines old new = DidDescribedFront world lines old new
DescribedEnds _ world lines old new = ⊥

-- How the refusal of a world text ends.
abbrev pub RefusalEnds : Status → ℕ → SinkView → SinkView → Type 0
RefusalEnds Refused number old new = Appends old.held new.held (bad_line number)
RefusalEnds Sink number old new = AppendsFront old.held new.held (bad_line number)
RefusalEnds Memory number old new = AppendsFront old.held new.held (bad_line number)
RefusalEnds _ number old new = ⊥

-- the status with which a check ends once this finding was written
abbrev pub status_of_finding : Finding → Option Status
status_of_finding (finding.Good fixlets baselines) = Some Done
status_of_finding finding.Memory = None
status_of_finding _ = Some Refused

-- the status of a run that plays an office, where the play ended so
abbrev pub status_of_play : PlayEnd → Status
status_of_play end.Done = Done
status_of_play end.Failed = Sink
status_of_play end.Memory = Memory
