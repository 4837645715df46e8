-- An office that is read: its orders one after another, and its end.
use Rattle.std.proofs.Common.{ℕ, ◌≡◌, List, [], ◌∷◌, ◌++◌, Some, None, Ok, Err, refl, sym, ap, subst, ◌∙◌, ◌⊎◌, inl, inr}
use Rattle.std.specs.Prelude.{codes}
use Rattle.std.specs.declared.result.Result.{Result}
use Rattle.line_forms.specs.BadLines.{AnswersBadLine}
use Rattle.line_forms.specs.LineStates.{LineState, before_lines, lines_of, unended_of}
use Rattle.line_forms.specs.Readers.{IsOver, IsStuck, Passes}
use Rattle.line_forms.proofs.BadLines.{StandsBehind-start, first_bad_line-none}
use Rattle.line_forms.proofs.Passing.{all_lines, left_answers, passes_none, passes_then, stands_behind, stuck_answers}
use Rattle.office_text.specs.declared.error.OfficeError.{OfficeError}
use Rattle.office_text.specs.declared.error.OfficeError.TheVariants as error
use Rattle.office_text.specs.declared.order.Order.{Order}
use Rattle.office_text.specs.OrderLines.{first_line}
use Rattle.office_text.specs.Offices.{IsOffice, AreOfficeLines, ReadsOffice}
use Rattle.office_text.specs.OrderReadings.{HasOrders, IsInText, TakesOrder, TakesOrders}
use Rattle.office_text.specs.Orders.{CanFollow}
use Rattle.office_text.proofs.Fronts.{Lines}
use Rattle.line_forms.proofs.Sequences.{each_more, each_none}
use Rattle.office_text.proofs.OrderLists.{lines_more, office_one}
use Rattle.office_text.proofs.Stops.{office_ends, stops_between, stops_first, stops_inside}

pub at_first : (text : List ℕ) → IsInText (before_lines text)
at_first text = (text, [], StandsBehind-start text)

-- a cursor that began before the first line
pub from_first : (text : List ℕ) (start new : LineState) (lines : Lines) → start ≡ before_lines text → Passes start new lines → Passes (before_lines text) new lines
from_first text start new lines is passes = let P : LineState → Type 0 = λ s. Passes s new lines in subst P is passes

-- ---- the orders
pub has_none : (state : LineState) → HasOrders state state []
has_none state = record { lines = []; each = each_none CanFollow; are = refl; passes = passes_none state }

pub has_more : (old mid new : LineState) (orders : List Order) (order : Order) → HasOrders old mid orders → TakesOrder orders mid new (Ok (Some order)) → HasOrders old new (orders ++ order ∷ [])
has_more old mid new orders order has (body, can, is, passes) = record {
  lines = has.lines ++ first_line order ∷ body;
  each = each_more CanFollow orders order has.each can;
  are = lines_more orders has.lines order body has.are is;
  passes = passes_then old mid new has.lines (first_line order ∷ body) has.passes passes;
}

pub has_all : (old mid new : LineState) (orders : List Order) → HasOrders old mid orders → TakesOrder orders mid new (Ok None) → TakesOrders old new (Ok orders)
has_all old mid new orders has none =
    let P : LineState → Type 0 = λ s. TakesOrders old s (Ok orders) in
    subst P (sym none.0) (has, none.1)

-- ---- the whole
pub no_office : (text : List ℕ) (new : LineState) → (new ≡ before_lines text) × ((more : Lines) → ¬ (lines_of text ≡ codes "office" ∷ more)) → AnswersBadLine AreOfficeLines text new.number
no_office text new none =
    let P : LineState → Type 0 = λ s. IsStuck AreOfficeLines (before_lines text) s in
    stuck_answers AreOfficeLines text new (subst P (sym none.0) ([], passes_none (before_lines text), stops_first (before_lines text) none.1))

pub bad_order : (text : List ℕ) (a new : LineState) (e : OfficeError) → Passes (before_lines text) a (codes "office" ∷ []) → TakesOrders a new (Err e) → ReadsOffice text (Err e)
bad_order text a new (error.BadLine line) one (orders, mid, has, (bad, part, some, passes, stops, is)) =
    let P : ℕ → Type 0 = AnswersBadLine AreOfficeLines text in
    let road = passes_then (before_lines text) mid bad (codes "office" ∷ has.lines) part (passes_then (before_lines text) a mid (codes "office" ∷ []) has.lines one has.passes) passes in
    subst P (sym is) (stuck_answers AreOfficeLines text bad (codes "office" ∷ has.lines ++ part, road, stops_inside orders has.lines part bad has.each has.are some stops))
bad_order text a new error.Memory one bad = tt

pub no_end : (text : List ℕ) (a b new : LineState) (orders : List Order) → Passes (before_lines text) a (codes "office" ∷ []) → TakesOrders a b (Ok orders) → (new ≡ b) × ((more : Lines) → ¬ (b.lines ≡ codes "end" ∷ more)) → AnswersBadLine AreOfficeLines text new.number
no_end text a b new orders one (has, none) missing =
    let P : LineState → Type 0 = λ s. IsStuck AreOfficeLines (before_lines text) s in
    let road = passes_then (before_lines text) a b (codes "office" ∷ []) has.lines one has.passes in
    stuck_answers AreOfficeLines text new (subst P (sym missing.0) (codes "office" ∷ has.lines, road, stops_between orders has.lines b has.each has.are none missing.1))

-- all lines of an office were taken
all_taken : (text : List ℕ) (a b new : LineState) (orders : List Order) (has : HasOrders a b orders) → Passes (before_lines text) a (codes "office" ∷ []) → Passes b new (codes "end" ∷ []) → Passes (before_lines text) new (codes "office" ∷ has.lines ++ codes "end" ∷ [])
all_taken text a b new orders has one last = passes_then (before_lines text) b new (codes "office" ∷ has.lines) (codes "end" ∷ []) (passes_then (before_lines text) a b (codes "office" ∷ []) has.lines one has.passes) last

pub something_left : (text : List ℕ) (a b new : LineState) (orders : List Order) → Passes (before_lines text) a (codes "office" ∷ []) → TakesOrders a b (Ok orders) → Passes b new (codes "end" ∷ []) → ¬ IsOver new → AnswersBadLine AreOfficeLines text new.number
something_left text a b new orders one (has, none) last left =
    left_answers AreOfficeLines text (codes "office" ∷ has.lines ++ codes "end" ∷ []) new (all_taken text a b new orders has one last)
    (orders, record { between = has.lines; each = has.each; between_are = has.are; lines_are = refl }) (office_ends orders has.lines has.each has.are) left

pub office_is : (text : List ℕ) (a b new : LineState) (orders : List Order) → Passes (before_lines text) a (codes "office" ∷ []) → TakesOrders a b (Ok orders) → Passes b new (codes "end" ∷ []) → IsOver new → ReadsOffice text (Ok orders)
office_is text a b new orders one (has, none) last over =
    let stands = stands_behind text (codes "office" ∷ has.lines ++ codes "end" ∷ []) new (all_taken text a b new orders has one last) in
    let lines : lines_of text ≡ codes "office" ∷ has.lines ++ codes "end" ∷ [] = all_lines text (codes "office" ∷ has.lines ++ codes "end" ∷ []) new stands over.0 in
    let office : IsOffice orders (lines_of text) = record { between = has.lines; each = has.each; between_are = has.are; lines_are = lines } in
    (stands.unended ∙ over.1, office, λ other is. office_one (lines_of text) orders other office is)

-- ---- the law that an office is read
pub office_read : (text : List ℕ) (orders : List Order) (answer : Result (List Order) OfficeError) → unended_of text ≡ [] → IsOffice orders (lines_of text) → ReadsOffice text answer → (answer ≡ Ok orders) ⊎ (answer ≡ Err error.Memory)
office_read text orders (Ok others) ended is reads = inl (ap (λ l. Ok l) (sym (reads.2 orders is)))
office_read text orders (Err (error.BadLine line)) ended is (n, bad, e) = absurd (first_bad_line-none AreOfficeLines text n (ended, (orders, is)) bad)
office_read text orders (Err error.Memory) ended is reads = inr refl
