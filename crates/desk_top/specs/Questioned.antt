-- What `session` does: it opens what is kept, and answers lines over its tables.
use Rattle.std.specs.Prelude.{◌≡◌, ◌⊎◌, List, ℕ, option_map}
use Rattle.desk_base.specs.Counts.{CountsFaults}
use Rattle.desk_keep.specs.Calls.{Opens}
use Rattle.desk_keep.specs.declared.answer.Applied.TheVariants as applied
use Rattle.desk_keep.specs.Views.{KeeperView}
use Rattle.rel_session.specs.Lines.{lines_of}
use Rattle.session_tables.specs.Worlds.{tables_world}
use Rattle.session_view.specs.Asking.{DidFrontOverTables, DidOverTables, TableDevices, table_devices}
use Rattle.desk_top.specs.declared.status.Status.{Status}
use Rattle.desk_top.specs.declared.status.Status.TheVariants.{Done, Sink, Clock, Keeper, Memory}
use Rattle.desk_top.specs.Counted.{CountsMore}

-- What is kept was opened, and P holds of what the devices told then.
abbrev pub OpensTables : TableDevices → (TableDevices → Type 0) → Type 0
OpensTables old P = (opened : KeeperView) × Opens old.keeper applied.Done opened × P (table_devices old.sink opened old.clock)

-- what is shown of what is kept stays
abbrev pub ShowsSame : TableDevices → TableDevices → Type 0
ShowsSame old new = option_map tables_world new.keeper.rows ≡ option_map tables_world old.keeper.rows

-- It was opened, and then all lines were answered over the world of its tables, each question at a moment of the clock and in the offset 0.
abbrev pub AsksAt : List ℕ → TableDevices → TableDevices → Type 0
AsksAt input old new = OpensTables old (λ opened. DidOverTables (lines_of input) opened new × ShowsSame opened new)

-- A front of that was done.
abbrev pub BeganAsking : List ℕ → TableDevices → TableDevices → Type 0
BeganAsking input old new = OpensTables old (λ opened. DidFrontOverTables (lines_of input) opened new × ShowsSame opened new)

-- How `session` ends once its input was read. Unwritten says that nothing was written and no moment taken. Only private functions cite this.
abbrev pub SessionEnds : Status → List ℕ → TableDevices → TableDevices → Type 0 → Type 0
SessionEnds Done input old new Unwritten = AsksAt input old new
SessionEnds Sink input old new Unwritten = BeganAsking input old new
SessionEnds Clock input old new Unwritten = BeganAsking input old new
SessionEnds Keeper input old new Unwritten = Opens old.keeper applied.Failed new.keeper × Unwritten
SessionEnds Memory input old new Unwritten = (Opens old.keeper applied.Memory new.keeper × Unwritten) ⊎ BeganAsking input old new
SessionEnds _ input old new Unwritten = ⊥

-- The counts of faults by how `session` ended. Only private functions cite this.
pub record CountsSession (result : Status) (old new : TableDevices) : Type 0 where
  pub sink : CountsFaults (result ≡ Sink) old.sink.faults new.sink.faults
  pub clock : CountsFaults (result ≡ Clock) old.clock.faults new.clock.faults
  pub keeper : CountsMore (result ≡ Keeper) old.keeper.faults new.keeper.faults
