-- Questions that are asked for one truth or one text.
use Rattle.std.specs.Prelude.{ℤ, Bool, true, false, nat_le, if◌then◌else◌, List, length}
use Rattle.std.specs.declared.option.Option.{Option}
use Rattle.bf_machine.specs.Told.{Grows}
use Rattle.bf_world.specs.declared.key.Key.{Key}
use Rattle.rel_lexer.specs.declared.place.Place.{Place}
use Rattle.rel_value.specs.Plain.{Plain, boolean, words}
use Rattle.rel_value.specs.Texts.{text_of}
use Rattle.rel_trace.specs.declared.kind.RelKind.TheVariants.{TextTooLong, Incompatible}
use Rattle.rel_trace.specs.Draws.{single}
use Rattle.rel_trace.specs.Steps.{LooksAt}
use Rattle.rel_trace.specs.Trace.{Error, Trace, Ends, one, each}
use Rattle.rel_eval.specs.declared.told.Truth.{Truth}
use Rattle.rel_eval.specs.declared.told.Truth.TheVariants as truth
use Rattle.rel_eval.specs.declared.told.OneText.{OneText}
use Rattle.rel_eval.specs.declared.told.OneText.TheVariants as one_text
use Rattle.rel_eval.specs.Pulls.{Skips}

-- a truth as it is; anything else is Incompatible at the question's span
abbrev pub judged : Place → Plain → Trace
judged span (boolean b) = one (boolean b)
judged span _ = Ends (Error Incompatible span)

-- the text of a value; one of more than 1,048,576 bytes is TextTooLong at the question's span
abbrev pub worded : Place → ℤ → Plain → Trace
worded span offset v = if nat_le (length (text_of offset v)) 1048576 then one (words (text_of offset v)) else Ends (Error TextTooLong span)

-- the one truth of a question's trace: no value is Nonexistent and a second one NonUnique, at the question's span
abbrev pub truth_of : Place → Trace → Trace
truth_of span t = each (single span t) (judged span)

-- the one text of a question's trace, likewise
abbrev pub one_text_of : Place → ℤ → Trace → Trace
one_text_of span offset t = each (single span t) (worded span offset)

-- The trace was drawn to its end, which is this truth or this error, with all its looks; or up to a look that failed; or memory ran
-- out after some stretch.
abbrev pub TellsTruth : Trace → Truth → List Key → Type 0
TellsTruth t truth.True looks = Skips t looks (one (boolean true))
TellsTruth t truth.False looks = Skips t looks (one (boolean false))
TellsTruth t (truth.Error kind place) looks = Skips t looks (Ends (Error kind place))
TellsTruth t (truth.Failed place) looks = (u : Trace) × Skips t looks u × LooksAt place u
TellsTruth t truth.Memory looks = (u : Trace) × Skips t looks u

abbrev pub TellsText : Trace → OneText → List Key → Type 0
TellsText t (one_text.Text text) looks = Skips t looks (one (words text))
TellsText t (one_text.Error kind place) looks = Skips t looks (Ends (Error kind place))
TellsText t (one_text.Failed place) looks = (u : Trace) × Skips t looks u × LooksAt place u
TellsText t one_text.Memory looks = (u : Trace) × Skips t looks u

-- The keys that a machine tells grow by those of the looks that were made.
abbrev pub Judges : Option (List Key) → Trace → Truth → Option (List Key) → Type 0
Judges old t result new = (looks : List Key) × Grows old new looks × TellsTruth t result looks

abbrev pub Words : Option (List Key) → Trace → OneText → Option (List Key) → Type 0
Words old t result new = (looks : List Key) × Grows old new looks × TellsText t result looks

-- a look failed
abbrev pub truth_has_failed : Truth → Bool
truth_has_failed (truth.Failed place) = true
truth_has_failed _ = false

abbrev pub text_has_failed : OneText → Bool
text_has_failed (one_text.Failed place) = true
text_has_failed _ = false
