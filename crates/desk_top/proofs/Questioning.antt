-- How questions over what is kept end, and which counts rose.
use Rattle.std.proofs.Common.{◌≡◌, ◌≢◌, ◌≤◌, ℕ, List, Result, inr, subst, sym, arith}
use Rattle.std.specs.Result.{IsErrOf}
use Rattle.desk_base.specs.Counts.{CountsFaults, Rose}
use Rattle.desk_keep.specs.Calls.{Opens}
use Rattle.desk_keep.specs.declared.answer.Applied.TheVariants as applied
use Rattle.desk_keep.specs.Views.{KeeperView}
use Rattle.rel_session.specs.declared.halt.Halt.{Halt}
use Rattle.rel_session.specs.declared.halt.Halt.TheVariants as halt
use Rattle.session_view.specs.Asking.{OnlyAsksTables, TableDevices, table_devices}
use Rattle.desk_top.specs.declared.status.Status.{Status}
use Rattle.desk_top.specs.declared.status.Status.TheVariants.{Sink, Clock, Keeper}
use Rattle.desk_top.specs.Questioned.{BeganAsking, CountsSession, SessionEnds}
use Rattle.desk_top.specs.Statuses.{status_of}
use Rattle.desk_top.proofs.Serving.{same_count, same_more}

-- lines that were cut end with the status of what cut them
pub cut_ends : (why : Halt) (status : Status) (input : List ℕ) (old new : TableDevices) (Unwritten : Type 0) → status ≡ status_of why → BeganAsking input old new
    → SessionEnds status input old new Unwritten
cut_ends halt.Sink status input old new Unwritten is began =
    let Ends : Status → Type 0 = λ s. SessionEnds s input old new Unwritten in subst Ends (sym is) began
cut_ends halt.Clock status input old new Unwritten is began =
    let Ends : Status → Type 0 = λ s. SessionEnds s input old new Unwritten in subst Ends (sym is) began
cut_ends halt.Memory status input old new Unwritten is began =
    let Ends : Status → Type 0 = λ s. SessionEnds s input old new Unwritten in subst Ends (sym is) (inr began)

-- nothing but the keeper was opened
pub unopened_counts : (status : Status) (old new : TableDevices) → status ≢ Sink → status ≢ Clock → (status ≡ Keeper → Rose old.keeper.faults new.keeper.faults)
    → old.keeper.faults ≤ new.keeper.faults → new.sink.faults ≡ old.sink.faults → new.clock.faults ≡ old.clock.faults → CountsSession status old new
unopened_counts status old new no_sink no_clock rose later sink clock = record {
  sink = same_count old.sink.faults new.sink.faults (status ≡ Sink) no_sink sink;
  clock = same_count old.clock.faults new.clock.faults (status ≡ Clock) no_clock clock;
  keeper = record { rose = rose; later = later };
}

-- a count by one cause is one by another that is the same
so_counts : (A B : Type 0) (old new : ℕ) → (A → B) → (B → A) → CountsFaults B old new → CountsFaults A old new
so_counts A B old new to from counts =
    record { rose = λ a. counts.rose (to a); steady = λ none. counts.steady (λ b. none (from b)); later = counts.later }

-- it was opened, and lines were answered
pub opened_counts : {U : Type 0} (result : Result U Halt) (status : Status) (old new : TableDevices) (opened : KeeperView) → Opens old.keeper applied.Done opened
    → OnlyAsksTables (IsErrOf result halt.Sink) (IsErrOf result halt.Clock) (table_devices old.sink opened old.clock) new
    → (status ≡ Sink → IsErrOf result halt.Sink) → (IsErrOf result halt.Sink → status ≡ Sink) → (status ≡ Clock → IsErrOf result halt.Clock)
    → (IsErrOf result halt.Clock → status ≡ Clock) → status ≢ Keeper → CountsSession status old new
opened_counts result status old new opened opens only sink_is is_sink clock_is is_clock no_keeper =
    let first = opens.only.counts.later in
    let second = only.later in
    record {
      sink = so_counts (status ≡ Sink) (IsErrOf result halt.Sink) old.sink.faults new.sink.faults sink_is is_sink only.sink;
      clock = so_counts (status ≡ Clock) (IsErrOf result halt.Clock) old.clock.faults new.clock.faults clock_is is_clock only.clock;
      keeper = same_more old.keeper.faults new.keeper.faults (status ≡ Keeper) no_keeper (omega (arith, first, second));
    }
