-- The keepers in memory, as contracts see them, and what a call does to one beyond what the trait says.
use Rattle.std.specs.Prelude.{◌≡◌, ℕ, ◌+◌, List, [], Some}
use Rattle.desk_base.specs.CallStates.{CallState, IsListed, no_calls}
use Rattle.desk_base.specs.MemoryStates.{Succeeds, Fails}
use Rattle.desk_keep.specs.declared.change.Change.{Change}
use Rattle.desk_keep.specs.Views.{KeeperView}

-- what a keeper of these rows tells of which no call fails
abbrev pub sure_view : List Change → KeeperView
sure_view rows = record { rows = Some rows; faults = 0 }

-- the rows of all tables, the applies and the reading calls
pub record KeeperState : Type 0 where
  pub rows : List Change
  pub applies : CallState
  pub reads : CallState

-- a keeper of no rows that was asked nothing yet; the calls with these numbers are to fail
abbrev pub empty_keeper : List ℕ → List ℕ → KeeperState
empty_keeper applies reads = record { rows = []; applies = no_calls applies; reads = no_calls reads }

-- what it tells
abbrev pub keeper_view : KeeperState → KeeperView
keeper_view keeper = record { rows = Some keeper.rows; faults = keeper.applies.faults + keeper.reads.faults }

-- A call was made, and failed exactly where it is one of those that are to fail.
pub record CallsAsListed (failed : Type 0) (old new : CallState) : Type 0 where
  pub fails : failed → Fails old new × IsListed new
  pub succeeds : ¬ failed → Succeeds old new

-- A reading call was made, and changed nothing else.
pub record ReadsAsListed (failed : Type 0) (old new : KeeperState) : Type 0 where
  pub calls : CallsAsListed failed old.reads new.reads
  pub rest : new ≡ record old { reads = new.reads }
