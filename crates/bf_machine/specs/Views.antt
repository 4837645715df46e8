-- What a machine tells of itself, and how two such views stand to each other.
use Rattle.std.specs.Prelude.{◌≡◌, ℕ, ◌≤◌, List}
use Rattle.std.specs.declared.option.Option.{Option}
use Rattle.bf_world.specs.declared.key.Key.{Key}
use Rattle.bf_world.specs.declared.command.Command.{Command}
use Rattle.bf_world.specs.Worlds.{WorldState}

-- its world, the keys of the looks that answered, the commands that were done, started or refused, and the numbers of the programs whose
-- polls answered, where it tells them; how many programs it started, its count of faults, and the references that it holds
pub record MachineView : Type 0 where
  pub world : Option WorldState
  pub looked : Option (List Key)
  pub acted : Option (List Command)
  pub polled : Option (List ℕ)
  pub started : ℕ
  pub faults : ℕ
  pub holds : List ℕ

-- Nothing changed but the keys looked up and the count of faults.
pub record OnlyLooks (old new : MachineView) : Type 0 where
  pub world : new.world ≡ old.world
  pub acted : new.acted ≡ old.acted
  pub polled : new.polled ≡ old.polled
  pub started : new.started ≡ old.started
  pub later : old.faults ≤ new.faults
  pub holds : new.holds ≡ old.holds

-- As many programs or more are started, and as many calls or more have failed.
pub record IsLater (old new : MachineView) : Type 0 where
  pub started : old.started ≤ new.started
  pub faults : old.faults ≤ new.faults
