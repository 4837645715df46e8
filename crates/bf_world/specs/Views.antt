-- How a world is seen.
use Rattle.bf_world.specs.declared.world.World.TheInside.{Inside}
use Rattle.bf_world.specs.Sound.{IsSound}
use Rattle.bf_world.specs.Worlds.{WorldState}

abbrev pub world_state : Inside → WorldState
world_state w = record {
  name = w.name;
  system = w.system;
  version = w.version;
  offset = w.offset;
  moment = w.moment;
  paths = w.paths;
  packages = w.packages;
  processes = w.processes;
  settings = w.settings;
  programs = w.programs;
  started = w.started.items;
}

abbrev pub IsSoundInside : Inside → Type 0
IsSoundInside w = IsSound (world_state w)
