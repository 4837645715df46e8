-- What serving does to the counts of faults.
use Rattle.std.specs.Prelude.{◌≡◌, ℕ, ◌+◌, ◌==◌, ◌≤◌, Bool, true, false, if◌then◌else◌, IsErrOf}
use Rattle.std.specs.declared.result.Result.{Result}
use Rattle.desk_base.specs.Counts.{CountsFaults, Rose}
use Rattle.bf_machine.specs.Rises.{RoseBy}
use Rattle.desk_http.specs.declared.talk.Met.{Met}
use Rattle.desk_http.specs.declared.talk.Met.TheVariants as met
use Rattle.desk_serve.specs.declared.step.Stop.{Stop}
use Rattle.desk_serve.specs.declared.step.Stop.TheVariants as stop
use Rattle.desk_serve.specs.ServeSteps.{Scene}
use Rattle.desk_serve.specs.ServeRuns.{Run, Begun, Then}

-- whether a conversation was answered with this status
abbrev pub is_answered : ℕ → Met → Bool
is_answered wanted (met.Answered status) = status == wanted
is_answered wanted met.Closed = false
is_answered wanted met.DoorFault = false
is_answered wanted met.Memory = false

-- whether it ended by a fault of the door
abbrev pub is_door_fault : Met → Bool
is_door_fault (met.Answered status) = false
is_door_fault met.Closed = false
is_door_fault met.DoorFault = true
is_door_fault met.Memory = false

-- how many conversations of a run ended so
abbrev pub ended_so : (Met → Bool) → Run → ℕ
ended_so so Begun = 0
ended_so so (Then run ended) = ended_so so run + (if so ended then 1 else 0)

-- At least as many faults of the keeper were counted as conversations were answered 500, and at least as many of the door as ended by one.
-- The sink's count stayed.
pub record CountsTalks (old : Scene) (run : Run) (new : Scene) : Type 0 where
  pub keeper : RoseBy (ended_so (is_answered 500) run) old.keeper.faults new.keeper.faults
  pub door : RoseBy (ended_so is_door_fault run) old.door.faults new.door.faults
  pub sink : new.sink.faults ≡ old.sink.faults

-- The sink's count of faults rose where that ended the run, and stayed where it didn't. The keeper's and the door's never fell, and the
-- door's rose where that ended the run.
pub record CountsServed (result : Result Unit Stop) (old new : Scene) : Type 0 where
  pub sink : CountsFaults (IsErrOf result stop.Sink) old.sink.faults new.sink.faults
  pub keeper : old.keeper.faults ≤ new.keeper.faults
  pub door : old.door.faults ≤ new.door.faults
  pub rose : IsErrOf result stop.Door → Rose old.door.faults new.door.faults
