-- The machine over a described world of which no call fails, as contracts see it.
use Rattle.std.specs.Prelude.{◌≡◌, ℕ, List, [], length, Some}
use Rattle.std.proofs.Common.{ap}
use Rattle.bf_world.specs.declared.key.Key.{Key}
use Rattle.bf_world.specs.declared.command.Command.{Command}
use Rattle.bf_world.specs.Worlds.{WorldState}
use Rattle.bf_machine.specs.Views.{MachineView}

-- the world, the keys looked up, the commands done and the numbers polled
pub record SureState : Type 0 where
  pub world : WorldState
  pub looked : List Key
  pub acted : List Command
  pub polled : List ℕ

-- a machine on which nothing was asked or done yet
abbrev pub untouched : WorldState → SureState
untouched world = record { world = world; looked = []; acted = []; polled = [] }

-- what it tells: all of it, and that no call failed
abbrev pub sure_view : SureState → MachineView
sure_view m = record {
  world = Some m.world;
  looked = Some m.looked;
  acted = Some m.acted;
  polled = Some m.polled;
  started = length m.world.started;
  faults = 0;
  holds = [];
}

-- A world that is told has as many programs started as this one, which it is.
pub world_counted : (told w : WorldState) → Some told ≡ Some w → length told.started ≡ length w.started
world_counted told w is = let same : told ≡ w = cc in ap (λ (v : WorldState). length v.started) same
