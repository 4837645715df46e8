-- Runs that are told in full. Only the law of what is served cites this.
use Rattle.std.specs.Prelude.{◌≡◌, ℕ, ◌-◌, ◌^◌, ◌<◌, List, Some}
use Rattle.server_text.specs.Entries.{Entry}
use Rattle.server_core.specs.CallAnswers.{AreTables}
use Rattle.desk_serve.specs.ServeSteps.{Scene}

-- The door tells who is to come and what was written, and the keeper its rows, which are the tables of what was accepted. Their counts of
-- faults can rise.
pub record TellsScene (coming written : List (List ℕ)) (accepted : List Entry) (old : Scene) : Type 0 where
  pub comes : old.door.coming ≡ Some coming
  pub holds : old.door.written ≡ Some written
  pub tables : AreTables old.keeper.rows accepted
  pub keeper_rises : old.keeper.faults < 2 ^ 64 - 1
  pub door_rises : old.door.faults < 2 ^ 64 - 1

-- Neither the keeper nor the door failed.
pub record IsSteady (old new : Scene) : Type 0 where
  pub keeper : new.keeper.faults ≡ old.keeper.faults
  pub door : new.door.faults ≡ old.door.faults

-- What was written to each peer is the same, and so are the tables.
pub record LeaveAlike (one other : Scene) : Type 0 where
  pub written : one.door.written ≡ other.door.written
  pub rows : one.keeper.rows ≡ other.keeper.rows
