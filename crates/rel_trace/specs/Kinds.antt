-- The kinds of errors: their numbers, and what forms make of them.
use Rattle.std.specs.Prelude.{ℕ, Bool, true, false}
use Rattle.rel_value.specs.declared.fault.ValueFault.{ValueFault}
use Rattle.rel_value.specs.declared.fault.ValueFault.TheVariants as fault
use Rattle.rel_trace.specs.declared.kind.RelKind.{RelKind}
use Rattle.rel_trace.specs.declared.kind.RelKind.TheVariants.{BadByte, BadEscape, UnclosedString, UnclosedComment, TooLong, NoParse, TooDeep, DivideByZero, OutOfRange, TextTooLong, NotDefined, NotSingular, Incompatible, Nonexistent, NonUnique, Steps, BadNumber}

-- the number by which tables name a kind
abbrev pub number_of : RelKind → ℕ
number_of BadByte = 1
number_of BadEscape = 2
number_of UnclosedString = 3
number_of UnclosedComment = 4
number_of TooLong = 5
number_of NoParse = 6
number_of TooDeep = 7
number_of DivideByZero = 8
number_of OutOfRange = 9
number_of TextTooLong = 11
number_of NotDefined = 12
number_of NotSingular = 13
number_of Incompatible = 14
number_of Nonexistent = 15
number_of NonUnique = 16
number_of Steps = 17
number_of BadNumber = 18

-- `exists` and filters count it as false
abbrev pub is_nonexistent : RelKind → Bool
is_nonexistent Nonexistent = true
is_nonexistent _ = false

-- where the left side of `|` ends in it, the right side is drawn
abbrev pub is_caught : RelKind → Bool
is_caught TextTooLong = false
is_caught Steps = false
is_caught _ = true

-- the error of a fault of a row: a text without the form that is asked for is Nonexistent; no row fails for want of memory
abbrev pub fault_kind : ValueFault → RelKind
fault_kind fault.DivideByZero = DivideByZero
fault_kind fault.OutOfRange = OutOfRange
fault_kind fault.TextTooLong = TextTooLong
fault_kind _ = Nonexistent
