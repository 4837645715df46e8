-- What checking answers: a value, or the first fault.
use Rattle.std.specs.Prelude.{◌≡◌, ◌≢◌, ℕ, List, Option, Some, None, Result, Ok, Err}
use Rattle.rel_lexer.specs.declared.place.Place.{Place}
use Rattle.rel_types.specs.declared.error.TypeError.{TypeError}
use Rattle.rel_types.specs.declared.error.TypeError.TheVariants.{NotDefined, Incompatible, Memory}

abbrev pub Checked : Type 0 → Type 0
Checked A = Result A TypeError

-- The next step takes what the first gives. A fault ends all.
unfoldable pub after : {A B : Type 0} → Checked A → (A → Checked B) → Checked B
after (Ok a) next = next a
after (Err e) next = Err e

-- what there is, or the fault that nothing is defined of these words here
unfoldable pub defined : {A : Type 0} → Place → List ℕ → Option A → Checked A
defined at words (Some a) = Ok a
defined at words None = Err (NotDefined at words)

-- what there is, or the fault that the kinds do not fit
unfoldable pub fitting : {A : Type 0} → Place → Option A → Checked A
fitting at (Some a) = Ok a
fitting at None = Err (Incompatible at)

-- This fault is the answer. Want of memory may come whatever the answer is.
unfoldable pub Fails : {A : Type 0} → Checked A → TypeError → Type 0
Fails answer e = e ≢ Memory → answer ≡ Err e

-- The code's answer is the one wanted, or its want of memory.
abbrev pub Answers : {A B : Type 0} → (B → A) → Checked A → Result B TypeError → Type 0
Answers shows wanted (Ok b) = wanted ≡ Ok (shows b)
Answers shows wanted (Err e) = Fails wanted e

-- the fault that nothing is defined of these words here, or want of memory
abbrev pub IsNotDefined : Place → List ℕ → TypeError → Type 0
IsNotDefined at words e = e ≢ Memory → e ≡ NotDefined at words
