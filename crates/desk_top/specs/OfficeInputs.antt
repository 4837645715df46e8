-- An input that is the text of an office, and its play.
use Rattle.std.specs.Prelude.{ℕ, List, Ok, Err}
use Rattle.std.specs.declared.option.Option.{Option}
use Rattle.desk_base.specs.Flow.{AppendsSome}
use Rattle.office_text.specs.declared.order.Order.{Order}
use Rattle.office_text.specs.declared.error.OfficeError.TheVariants.{BadLine}
use Rattle.office_text.specs.Offices.{ReadsOffice}
use Rattle.office_rules.specs.Offices.{Office}
use Rattle.office_rules.specs.Plays.{IsFrontOfPlay, IsPlayed}

-- the input is the text of an office
abbrev pub IsOfficeInput : List ℕ → Type 0
IsOfficeInput input = (orders : List Order) × ReadsOffice input (Ok orders)

-- the input is outside the grammar of office texts, and this is its first bad line
abbrev pub IsBadOffice : List ℕ → ℕ → Type 0
IsBadOffice input number = ReadsOffice input (Err (BadLine number))

-- The orders of the input were played, and all that is printed of them was written.
abbrev pub PlaysInput : List ℕ → Option (List ℕ) → Option (List ℕ) → Type 0
PlaysInput input old new =
    (orders : List Order) × ReadsOffice input (Ok orders) × AppendsSome old new (λ written. (o : Office) × IsPlayed orders written o)

-- Some of that was written.
abbrev pub BeginsPlay : List ℕ → Option (List ℕ) → Option (List ℕ) → Type 0
BeginsPlay input old new = (orders : List Order) × ReadsOffice input (Ok orders) × AppendsSome old new (IsFrontOfPlay orders)
