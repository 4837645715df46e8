-- What `serve` does: it opens what is kept, then the door, and serves its conversations.
use Rattle.std.specs.Prelude.{◌≡◌, ◌⊎◌}
use Rattle.std.specs.declared.result.Result.{Result}
use Rattle.std.specs.declared.result.Result.TheVariants.{Ok, Err}
use Rattle.desk_base.specs.Counts.{CountsFaults}
use Rattle.desk_base.specs.declared.sink.Put.{Put}
use Rattle.desk_base.specs.declared.sink.Put.TheVariants as put
use Rattle.desk_door.specs.Doors.{OpensAt}
use Rattle.desk_keep.specs.Calls.{Opens}
use Rattle.desk_keep.specs.declared.answer.Applied.TheVariants as applied
use Rattle.server_core.specs.DeskLimits.{desk_limits}
use Rattle.desk_serve.specs.declared.step.Stop.{Stop}
use Rattle.desk_serve.specs.declared.step.Stop.TheVariants as stop
use Rattle.desk_serve.specs.ServeSteps.{Scene}
use Rattle.desk_serve.specs.ServeRuns.{ServesAll}
use Rattle.desk_top.specs.declared.command.ServeWords.{ServeWords}
use Rattle.desk_top.specs.declared.status.Status.{Status}
use Rattle.desk_top.specs.declared.status.Status.TheVariants.{Done, Sink, Keeper, Door, Memory}
use Rattle.desk_top.specs.Counted.{CountsMore}

-- What is kept was opened, and then the door at the port, which answered so.
pub record OpensBoth (asked : ServeWords) (old : Scene) (answer : Put) (new : Scene) : Type 0 where
  pub keeper : Opens old.keeper applied.Done new.keeper
  pub door : OpensAt asked.port old.door answer new.door
  pub sink : new.sink ≡ old.sink

-- Both were opened, and then so many conversations were served, which ended so.
abbrev pub ServesAt : ServeWords → Scene → Result Unit Stop → Scene → Type 0
ServesAt asked old result new =
    (opened : Scene) × OpensBoth asked old put.Done opened × ServesAll desk_limits opened asked.count result new

-- the status of a run of conversations that was cut
abbrev pub status_of_stop : Stop → Status
status_of_stop stop.Door = Door
status_of_stop stop.Sink = Sink
status_of_stop stop.Memory = Memory

-- How `serve` ends. Unwritten says that nothing was written, and Unopened that the door is as it was. Only private functions cite this.
abbrev pub ServeEnds : ServeWords → Status → Scene → Scene → Type 0 → Type 0 → Type 0
ServeEnds asked Done old new Unwritten Unopened = ServesAt asked old (Ok tt) new
ServeEnds asked Sink old new Unwritten Unopened = ServesAt asked old (Err stop.Sink) new
ServeEnds asked Keeper old new Unwritten Unopened = Opens old.keeper applied.Failed new.keeper × Unwritten × Unopened
ServeEnds asked Door old new Unwritten Unopened =
    (OpensBoth asked old put.Failed new × Unwritten) ⊎ ServesAt asked old (Err stop.Door) new
ServeEnds asked Memory old new Unwritten Unopened =
    (Opens old.keeper applied.Memory new.keeper × Unwritten × Unopened) ⊎ ServesAt asked old (Err stop.Memory) new
ServeEnds asked _ old new Unwritten Unopened = ⊥

-- The counts of faults by how `serve` ended. Only private functions cite this.
pub record CountsServe (result : Status) (old new : Scene) : Type 0 where
  pub sink : CountsFaults (result ≡ Sink) old.sink.faults new.sink.faults
  pub keeper : CountsMore (result ≡ Keeper) old.keeper.faults new.keeper.faults
  pub door : CountsMore (result ≡ Door) old.door.faults new.door.faults
