-- Runs that are told in full. Only the law of what is said cites this.
use Rattle.std.specs.Prelude.{◌≡◌, ◌-◌, ◌^◌, ◌<◌, ℕ, ℤ, List, Some}
use Rattle.bf_world.specs.declared.key.Key.{Key}
use Rattle.bf_world.specs.Worlds.{WorldState}
use Rattle.desk_keep.specs.declared.change.Change.{Change}
use Rattle.rel_session.specs.Devices.{Devices}
use Rattle.session_view.specs.Asking.{TableDevices}

-- The sink tells its bytes, the machine its world, the keys that were looked up and a count of faults that can rise, and the clock the
-- moments that it gave.
pub record TellsAll (old : Devices) : Type 0 where
  pub held : List ℕ
  pub holds : old.sink.held ≡ Some held
  pub world : WorldState
  pub shows : old.machine.world ≡ Some world
  pub looked : List Key
  pub keeps : old.machine.looked ≡ Some looked
  pub rises : old.machine.faults < 2 ^ 64 - 1
  pub given : List ℤ
  pub gives : old.clock.given ≡ Some given

-- No look failed in either of two runs, and the clock gave the same moments in both.
pub record RanAlike (old one other : Devices) : Type 0 where
  pub one_steady : one.machine.faults ≡ old.machine.faults
  pub other_steady : other.machine.faults ≡ old.machine.faults
  pub moments : one.clock.given ≡ other.clock.given

-- The sink tells its bytes, the keeper its rows and a count of faults that can rise, and the clock the moments that it gave.
pub record TellsTables (old : TableDevices) : Type 0 where
  pub held : List ℕ
  pub holds : old.sink.held ≡ Some held
  pub rows : List Change
  pub keeps : old.keeper.rows ≡ Some rows
  pub rises : old.keeper.faults < 2 ^ 64 - 1
  pub given : List ℤ
  pub gives : old.clock.given ≡ Some given

-- No call of the keeper failed in either of two runs, and the clock gave the same moments in both.
pub record AskedAlike (old one other : TableDevices) : Type 0 where
  pub one_steady : one.keeper.faults ≡ old.keeper.faults
  pub other_steady : other.keeper.faults ≡ old.keeper.faults
  pub moments : one.clock.given ≡ other.clock.given
