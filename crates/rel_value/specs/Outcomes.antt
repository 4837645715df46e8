-- What a row gives, and what a call answers for it.
use Rattle.std.specs.Prelude.{◌≡◌, ℕ, ◌<◌, ◌≤◌, ◌^◌, ℤ, pos, negsuc, Bool, false, nat_lt, nat_le, if◌then◌else◌, List, ◌++◌, ◌+◌, length}
use Rattle.std.specs.declared.result.Result.{Result}
use Rattle.std.specs.declared.result.Result.TheVariants.{Ok, Err}
use Rattle.rel_value.specs.declared.fault.ValueFault.{ValueFault}
use Rattle.rel_value.specs.declared.fault.ValueFault.TheVariants.{OutOfRange, TextTooLong, Memory}
use Rattle.rel_value.specs.declared.value.Value.{Value}
use Rattle.rel_value.specs.Plain.{Plain, integer, interval, time, words}
use Rattle.rel_value.specs.Views.{shown}

-- a row gives a value or a fault, or there is no row
pub data Outcome : Type 0 where
  gives : Plain → Outcome
  fails : ValueFault → Outcome
  no_row : Outcome

-- The answer is the row's. Memory may run out at any row.
abbrev pub Answers : Outcome → Result Value ValueFault → Type 0
Answers no_row answer = Unit {0}
Answers (gives v) (Ok answer) = shown answer ≡ v
Answers (gives v) (Err fault) = fault ≡ Memory
Answers (fails why) (Ok answer) = ⊥
Answers (fails why) (Err Memory) = Unit {0}
Answers (fails why) (Err fault) = fault ≡ why

-- The answer is the text, or the fault of its length.
abbrev pub AnswersText : List ℕ → Result (List ℕ) ValueFault → Type 0
AnswersText text (Ok answer) = (answer ≡ text) × (length text ≤ 1048576)
AnswersText text (Err TextTooLong) = 1048576 < length text
AnswersText text (Err fault) = fault ≡ Memory

-- What a writer of a value does: it appends the text, or stops where there is too much.
abbrev pub Writes : {A : Type 0} → List ℕ → List ℕ → List ℕ → Result A ValueFault → Type 0
Writes old text new (Ok done) = new ≡ old ++ text
Writes old text new (Err TextTooLong) = 1048576 < length old + length text
Writes old text new (Err fault) = fault ≡ Memory

-- whether a number is an i64
abbrev pub fits_i64 : ℤ → Bool
fits_i64 (pos n) = nat_lt n (2 ^ 63)
fits_i64 (negsuc n) = nat_lt n (2 ^ 63)

-- whether a number of seconds is a moment
abbrev pub is_moment : ℤ → Bool
is_moment (pos n) = nat_le n (2 ^ 37)
is_moment (negsuc n) = false

-- an integer, in range
abbrev pub whole : ℤ → Outcome
whole z = if fits_i64 z then gives (integer z) else fails OutOfRange

-- an interval, in range
abbrev pub span : ℤ → Outcome
span z = if fits_i64 z then gives (interval z) else fails OutOfRange

-- a time, in range
abbrev pub moment : ℤ → Outcome
moment z = if is_moment z then gives (time z) else fails OutOfRange

-- a text, within the limit
abbrev pub bounded : List ℕ → Outcome
bounded text = if nat_le (length text) 1048576 then gives (words text) else fails TextTooLong
