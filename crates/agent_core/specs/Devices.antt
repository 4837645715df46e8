-- What an agent's devices tell.
use Rattle.std.specs.Prelude.{◌≡◌, ◌-◌, ◌^◌, ◌<◌, IsSome}
use Rattle.bf_machine.specs.Views.{MachineView}
use Rattle.agent_text.specs.Pockets.{PocketView}

-- what both devices tell
pub record Devices : Type 0 where
  pub machine : MachineView
  pub pocket : PocketView

abbrev pub devices : MachineView → PocketView → Devices
devices machine pocket = record { machine = machine; pocket = pocket }

-- the machine tells its world, what it looked up, did and polled, and the pocket tells its text
pub record TellsWorld (d : Devices) : Type 0 where
  pub world : IsSome d.machine.world
  pub looked : IsSome d.machine.looked
  pub acted : IsSome d.machine.acted
  pub polled : IsSome d.machine.polled
  pub saved : IsSome d.pocket.saved

-- no device failed: their counts aren't at their last value, and stand still
pub record NoFaults (d d2 : Devices) : Type 0 where
  pub machine_counts : d.machine.faults < 2 ^ 64 - 1
  pub pocket_counts : d.pocket.faults < 2 ^ 64 - 1
  pub machine : d2.machine.faults ≡ d.machine.faults
  pub pocket : d2.pocket.faults ≡ d.pocket.faults
