-- Office texts.
use Rattle.std.specs.Prelude.{◌≡◌, ℕ, List, [], ◌∷◌, ◌++◌, codes, ⊤}
use Rattle.std.specs.declared.result.Result.{Result}
use Rattle.std.specs.Prelude.{Ok, Err}
use Rattle.line_forms.specs.BadLines.{AnswersBadLine}
use Rattle.line_forms.specs.LineStates.{lines_of, unended_of}
use Rattle.line_forms.specs.Readers.{EachCan}
use Rattle.office_text.specs.declared.order.Order.{Order}
use Rattle.office_text.specs.declared.error.OfficeError.{OfficeError}
use Rattle.office_text.specs.declared.error.OfficeError.TheVariants.{BadLine, Memory}
use Rattle.office_text.specs.Orders.{CanFollow}
use Rattle.office_text.specs.OrderLines.{AreLinesOf}

-- the lines are those of an office with these orders, each of which can follow those before it
pub record IsOffice (orders : List Order) (lines : List (List ℕ)) : Type 0 where
  pub between : List (List ℕ)
  pub each : EachCan CanFollow orders
  pub between_are : AreLinesOf orders between
  pub lines_are : lines ≡ codes "office" ∷ between ++ codes "end" ∷ []

-- the lines are those of some office
abbrev pub AreOfficeLines : List (List ℕ) → Type 0
AreOfficeLines lines = (orders : List Order) × IsOffice orders lines

-- The answer is the one list of orders whose text this is, or else the number of its first bad line.
abbrev pub ReadsOffice : List ℕ → Result (List Order) OfficeError → Type 0
ReadsOffice text (Ok orders) =
    (unended_of text ≡ []) × IsOffice orders (lines_of text)
    × ((other : List Order) → IsOffice other (lines_of text) → other ≡ orders)
ReadsOffice text (Err (BadLine line)) = AnswersBadLine AreOfficeLines text line
ReadsOffice text (Err Memory) = ⊤
