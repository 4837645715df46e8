-- Drawing a question for its one value. No public contract speaks of it.
use Rattle.std.specs.Prelude.{Bool, true, false, List}
use Rattle.std.specs.declared.option.Option.{Option}
use Rattle.bf_machine.specs.Told.{Grows}
use Rattle.bf_world.specs.declared.key.Key.{Key}
use Rattle.rel_value.specs.Operands.{IsSound}
use Rattle.rel_value.specs.Views.{shown}
use Rattle.rel_trace.specs.Steps.{LooksAt}
use Rattle.rel_trace.specs.Trace.{Error, Trace, Ends, one}
use Rattle.rel_eval.specs.declared.one_value.OneValue.{OneValue}
use Rattle.rel_eval.specs.declared.one_value.OneValue.TheVariants as drawn
use Rattle.rel_eval.specs.Pulls.{Skips}

-- The trace was drawn to its end, or up to a look that failed; or memory ran out after some stretch.
abbrev pub TellsOne : Trace → OneValue → List Key → Type 0
TellsOne t (drawn.Value v) looks = Skips t looks (one (shown v))
TellsOne t (drawn.Error kind place) looks = Skips t looks (Ends (Error kind place))
TellsOne t (drawn.Failed place) looks = (u : Trace) × Skips t looks u × LooksAt place u
TellsOne t drawn.Memory looks = (u : Trace) × Skips t looks u

-- The keys that a machine tells grow by those of the looks that were made.
abbrev pub Ones : Option (List Key) → Trace → OneValue → Option (List Key) → Type 0
Ones old t result new = (looks : List Key) × Grows old new looks × TellsOne t result looks

abbrev pub OneIsSound : OneValue → Type 0
OneIsSound (drawn.Value v) = IsSound (shown v)
OneIsSound _ = Unit {0}

-- a look failed
abbrev pub one_has_failed : OneValue → Bool
one_has_failed (drawn.Failed place) = true
one_has_failed _ = false
