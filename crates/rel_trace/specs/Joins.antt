-- What two traces make together: signs, `and`, `or`, `|`, `if` and tuples.
use Rattle.std.specs.Prelude.{Bool, not, if◌then◌else◌, Option, None, Some}
use Rattle.rel_lexer.specs.declared.place.Place.{Place}
use Rattle.rel_lexer.specs.declared.operator.BinarySign.{BinarySign}
use Rattle.rel_value.specs.Outcomes.{Outcome, gives, no_row}
use Rattle.rel_value.specs.Plain.{Plain, boolean, tuple, Parts, no_parts, more_parts}
use Rattle.rel_value.specs.Signs.{op}
use Rattle.rel_trace.specs.declared.logic.Logic.{Logic}
use Rattle.rel_trace.specs.declared.logic.Logic.TheVariants.{And, Or}
use Rattle.rel_trace.specs.declared.joining.Joining.{Joining}
use Rattle.rel_trace.specs.declared.joining.Joining.TheVariants.{Pair, Push, Append}
use Rattle.rel_trace.specs.Kinds.{is_caught}
use Rattle.rel_trace.specs.Trace.{Stop, Error, Trace, Ends, After, one, each, turned, result_at, is_true}

-- a sign's left value with each value of its right side
abbrev pub with_right : BinarySign → Place → Trace → Plain → Trace
with_right s p right x = each right (λ y. result_at p (op s x y))

-- the same of the left value in scope; where there is none, nothing
abbrev pub op_left : BinarySign → Option Plain → Plain → Outcome
op_left s None y = no_row
op_left s (Some x) y = op s x y

-- `and` is decided by a left side that is not True, and `or` by one that is
abbrev pub decides : Logic → Bool → Bool
decides And left = not left
decides Or left = left

-- `and` and `or`: the left side where it decides, and else the right side
abbrev pub decided : Logic → Trace → Plain → Trace
decided l right x = if decides l (is_true x) then one (boolean (is_true x)) else right

-- `|`: the first, and where it ends in an error that is caught, then the second
abbrev pub barred : Trace → Trace → Trace
barred (Ends Stop) u = Ends Stop
barred (Ends (Error k p)) u = if is_caught k then u else Ends (Error k p)
barred (After e t) u = After e (barred t u)

-- `if`: the one branch where the test is True, and else the other
abbrev pub chosen : Trace → Trace → Plain → Trace
chosen t u x = if is_true x then t else u

-- some parts and then others
abbrev pub parts_then : Parts → Parts → Parts
parts_then ps no_parts = ps
parts_then ps (more_parts qs v) = more_parts (parts_then ps qs) v

-- some parts and then those of a tuple
abbrev pub appended : Parts → Plain → Outcome
appended ps (tuple qs) = gives (tuple (parts_then ps qs))
appended ps _ = no_row

-- two values as a tuple, a tuple with a value at its end, or the parts of two tuples as one
abbrev pub tied : Joining → Plain → Plain → Outcome
tied Pair x y = gives (tuple (more_parts (more_parts no_parts x) y))
tied Push (tuple ps) y = gives (tuple (more_parts ps y))
tied Push _ y = no_row
tied Append (tuple ps) y = appended ps y
tied Append _ y = no_row

-- the same of the left value in scope; where there is none, nothing
abbrev pub tied_left : Joining → Option Plain → Plain → Outcome
tied_left j None y = no_row
tied_left j (Some x) y = tied j x y

-- an earlier part's value with each value of the later part
abbrev pub with_later : Joining → Place → Trace → Plain → Trace
with_later j p later x = each later (λ y. result_at p (tied j x y))

-- a turn at the earlier part's span, and then its value with each value of the later part
abbrev pub tupled : Joining → Place → Trace → Plain → Trace
tupled j p later x = turned p (with_later j p later x)
