-- The aggregates: folds of the values of a trace.
use Rattle.std.specs.Prelude.{Bool, true, false, pos, [], if◌then◌else◌, Option, Some, None}
use Rattle.rel_lexer.specs.declared.place.Place.{Place}
use Rattle.rel_lexer.specs.declared.operator.BinarySign.{BinarySign}
use Rattle.rel_lexer.specs.declared.operator.BinarySign.TheVariants as sign
use Rattle.rel_value.specs.Operands.{stretch}
use Rattle.rel_value.specs.Outcomes.{Outcome, gives, fails, no_row}
use Rattle.rel_value.specs.Plain.{Plain, boolean, integer, words, part, interval}
use Rattle.rel_value.specs.Signs.{op}
use Rattle.rel_trace.specs.declared.fold.Fold.{Fold}
use Rattle.rel_trace.specs.declared.fold.Fold.TheVariants.{Number, IntegerSum, IntervalSum, Maximum, Minimum, Conjunction, Disjunction, Concatenation, Separated}
use Rattle.rel_trace.specs.Kinds.{fault_kind}
use Rattle.rel_trace.specs.Trace.{Stop, Error, Look, Turn, Give, Trace, Ends, After, none, one, result_at, is_true, is_false}

-- a part stands for its text
abbrev pub in_full : Plain → Plain
in_full (part w from to) = words (stretch w from to)
in_full v = v

-- what an aggregate holds before the first value
abbrev pub held_first : Fold → Option Plain
held_first Number = Some (integer (pos 0))
held_first IntegerSum = Some (integer (pos 0))
held_first IntervalSum = Some (interval (pos 0))
held_first Conjunction = Some (boolean true)
held_first Disjunction = Some (boolean false)
held_first _ = None

-- a sign between what is held and a value; the value alone where nothing is held
abbrev pub signed : BinarySign → Option Plain → Plain → Outcome
signed s None v = gives v
signed s (Some h) v = op s h v

-- the later value where a comparison holds, and else the earlier one
abbrev pub later_if : Plain → Plain → Outcome → Outcome
later_if earlier later (gives b) = gives (if is_true b then later else earlier)
later_if earlier later outcome = outcome

-- the value that lies beyond the other under a sign; of equals the first
abbrev pub beyond : BinarySign → Option Plain → Plain → Outcome
beyond s None v = gives v
beyond s (Some h) v = later_if h v (op s h v)

-- a text behind what a join gave
abbrev pub and_joined : Outcome → Plain → Outcome
and_joined (gives t) v = op sign.Join t v
and_joined outcome v = outcome

-- a text behind what is held, and between them the separator, if there is one
abbrev pub joined_by : Option Plain → Option Plain → Plain → Outcome
joined_by separator None v = op sign.Join (words []) v
joined_by None (Some h) v = op sign.Join h v
joined_by (Some s) (Some h) v = and_joined (op sign.Join h s) v

-- what an aggregate holds after one more value; the separator is its argument
abbrev pub more : Fold → Option Plain → Option Plain → Plain → Outcome
more Number separator held v = signed sign.Plus held (integer (pos 1))
more IntegerSum separator held v = signed sign.Plus held v
more IntervalSum separator held v = signed sign.Plus held v
more Maximum separator held v = beyond sign.Less held v
more Minimum separator held v = beyond sign.Greater held v
more Conjunction separator held v = signed sign.And held v
more Disjunction separator held v = signed sign.Or held v
more Concatenation separator held v = joined_by None held v
more Separated separator held v = joined_by separator held v

-- no further value can change it: a conjunction that is False, a disjunction that is True
abbrev pub is_settled : Fold → Plain → Bool
is_settled Conjunction h = is_false h
is_settled Disjunction h = is_true h
is_settled _ h = false

-- what an aggregate gives at the end: what it holds, in full; over nothing a concatenation is empty, and a maximum or minimum gives nothing
abbrev pub ending : Fold → Option Plain → Outcome
ending f (Some h) = gives (in_full h)
ending Concatenation None = gives (words [])
ending Separated None = gives (words [])
ending f None = no_row

-- how an aggregate goes on: it gives what it holds before anything further is drawn where that is settled, and a fault is an error at its head
abbrev pub onward : Fold → Place → Outcome → (Plain → Trace) → Trace
onward f p (gives h) rest = if is_settled f h then one h else rest h
onward f p (fails why) rest = Ends (Error (fault_kind why) p)
onward f p no_row rest = none

-- an aggregate from what it holds on, with its head at the place
abbrev pub folded : Fold → Option Plain → Place → Option Plain → Trace → Trace
folded f separator p held (Ends Stop) = result_at p (ending f held)
folded f separator p held (Ends (Error k q)) = Ends (Error k q)
folded f separator p held (After (Look q k) t) = After (Look q k) (folded f separator p held t)
folded f separator p held (After (Turn q) t) = After (Turn q) (folded f separator p held t)
folded f separator p held (After (Give v) t) = onward f p (more f separator held v) (λ h. folded f separator p (Some h) t)
