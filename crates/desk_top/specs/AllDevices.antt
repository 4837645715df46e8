-- What all devices of a run tell.
use Rattle.desk_base.specs.Views.{SourceView, SinkView, ClockView}
use Rattle.bf_machine.specs.Views.{MachineView}
use Rattle.agent_text.specs.Pockets.{PocketView}
use Rattle.desk_keep.specs.Views.{KeeperView}
use Rattle.desk_door.specs.Doors.{DoorView}
use Rattle.desk_door.specs.Links.{LinkView}
use Rattle.rel_session.specs.Devices.{Devices, devices}
use Rattle.desk_serve.specs.ServeSteps.{Scene}
use Rattle.session_view.specs.Asking.{TableDevices, table_devices}
use Rattle.desk_top.specs.Relayed.{Relaying, relay_devices}
use Rattle.desk_top.specs.Rounded.{Rounding, agent_devices}

-- what each device tells
pub record AllDevices : Type 0 where
  pub source : SourceView
  pub sink : SinkView
  pub machine : MachineView
  pub pocket : PocketView
  pub keeper : KeeperView
  pub door : DoorView
  pub link : LinkView
  pub clock : ClockView

-- the devices that tell this
abbrev pub all_devices : SourceView → SinkView → MachineView → PocketView → KeeperView → DoorView → LinkView → ClockView → AllDevices
all_devices source sink machine pocket keeper door link clock = record {
  source = source;
  sink = sink;
  machine = machine;
  pocket = pocket;
  keeper = keeper;
  door = door;
  link = link;
  clock = clock;
}

-- those that questions are answered with
abbrev pub asking : AllDevices → Devices
asking all = devices all.sink all.machine all.clock

-- those that questions over what is kept are answered with
abbrev pub tables : AllDevices → TableDevices
tables all = table_devices all.sink all.keeper all.clock

-- those that conversations are served with
abbrev pub scene : DoorView → KeeperView → SinkView → Scene
scene door keeper sink = record { door = door; keeper = keeper; sink = sink }

abbrev pub serving : AllDevices → Scene
serving all = scene all.door all.keeper all.sink

-- those that a relay is at work with
abbrev pub relaying : AllDevices → Relaying
relaying all = relay_devices all.door all.link all.sink

-- those that an agent makes its rounds with
abbrev pub rounding : AllDevices → Rounding
rounding all = agent_devices all.machine all.pocket all.link all.clock all.sink
