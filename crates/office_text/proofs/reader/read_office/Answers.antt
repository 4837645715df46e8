use Rattle.std.proofs.Common.{Bool, ℕ, [], ◌∷◌, subst, sym, ap, ◌∙◌}
use Rattle.std.specs.Prelude.{codes}
use Rattle.std.proofs.lemmas.Result.{err_from_is_err_and}
use Rattle.std.proofs.lemmas.Bool.{iff_false}
use Rattle.line_forms.specs.BadLines.{AnswersBadLine}
use Rattle.line_forms.specs.LineStates.{LineState}
use Rattle.line_forms.specs.Readers.{TakesExactly}
use Rattle.office_text.specs.Offices.{AreOfficeLines}
use Rattle.office_text.proofs.OfficeReading.{at_first, bad_order, from_first, no_end, no_office, office_is, something_left}
use Rattle.office_text.proofs.PartLemmas.{in_text}
use Rattle.office_text.proofs.reader.read_office.Goals as goal

pub returns-then-not-take_exactly : goal.returns-then-not-take_exactly
returns-then-not-take_exactly c =
    let T : Bool → Type 0 = TakesExactly (codes "office") c.new-lines.result c.take_exactly.new.self in
    let A : ℕ → Type 0 = AnswersBadLine AreOfficeLines c.args.text.now in
    let missing = subst T c.if-not-take_exactly.true c.take_exactly.ensures in
    subst A (sym c.number.ensures) (no_office c.args.text.now c.take_exactly.new.self (missing.0 ∙ c.new-lines.ensures, λ more e. missing.1 more (ap (λ (s : LineState). s.lines) c.new-lines.ensures ∙ e)))

pub take_orders-requires : goal.take_orders-requires
take_orders-requires c =
    let T : Bool → Type 0 = TakesExactly (codes "office") c.new-lines.result c.take_exactly.new.self in
    let first = from_first c.args.text.now c.new-lines.result c.take_exactly.new.self (codes "office" ∷ []) c.new-lines.ensures (subst T c.if-not-take_exactly.false c.take_exactly.ensures) in
    in_text _ c.take_exactly.new.self (codes "office" ∷ []) (at_first c.args.text.now) first

pub returns-in_err-orders : goal.returns-in_err-orders
returns-in_err-orders c =
    let T : Bool → Type 0 = TakesExactly (codes "office") c.new-lines.result c.take_exactly.new.self in
    let first = from_first c.args.text.now c.new-lines.result c.take_exactly.new.self (codes "office" ∷ []) c.new-lines.ensures (subst T c.if-not-take_exactly.false c.take_exactly.ensures) in
    let p = err_from_is_err_and c.from_residual.result c.from_residual.ensures.1 in
    rw (p.1, p.2) (bad_order c.args.text.now c.take_exactly.new.self c.take_orders.new.lines _ first c.in_err-orders.ensures)

pub returns-then-not-take_exactly-2 : goal.returns-then-not-take_exactly-2
returns-then-not-take_exactly-2 c =
    let T : Bool → Type 0 = TakesExactly (codes "office") c.new-lines.result c.take_exactly.new.self in
    let first = from_first c.args.text.now c.new-lines.result c.take_exactly.new.self (codes "office" ∷ []) c.new-lines.ensures (subst T c.if-not-take_exactly.false c.take_exactly.ensures) in
    let E : Bool → Type 0 = TakesExactly (codes "end") c.take_orders.new.lines c.take_exactly-2.new.self in
    let A : ℕ → Type 0 = AnswersBadLine AreOfficeLines c.args.text.now in
    subst A (sym c.number-then-not-take_exactly-2.ensures)
    (no_end c.args.text.now c.take_exactly.new.self c.take_orders.new.lines c.take_exactly-2.new.self c.in_ok-orders.orders first c.in_ok-orders.ensures (subst E c.if-not-take_exactly-2.true c.take_exactly-2.ensures))

pub returns-then-not-is_over : goal.returns-then-not-is_over
returns-then-not-is_over c =
    let T : Bool → Type 0 = TakesExactly (codes "office") c.new-lines.result c.take_exactly.new.self in
    let first = from_first c.args.text.now c.new-lines.result c.take_exactly.new.self (codes "office" ∷ []) c.new-lines.ensures (subst T c.if-not-take_exactly.false c.take_exactly.ensures) in
    let E : Bool → Type 0 = TakesExactly (codes "end") c.take_orders.new.lines c.take_exactly-2.new.self in
    let A : ℕ → Type 0 = AnswersBadLine AreOfficeLines c.args.text.now in
    subst A (sym c.number-then-not-is_over.ensures)
    (something_left c.args.text.now c.take_exactly.new.self c.take_orders.new.lines c.take_exactly-2.new.self c.in_ok-orders.orders first c.in_ok-orders.ensures (subst E c.if-not-take_exactly-2.false c.take_exactly-2.ensures)
    (iff_false c.is_over.ensures c.if-not-is_over.true))

pub returns : goal.returns
returns c =
    let T : Bool → Type 0 = TakesExactly (codes "office") c.new-lines.result c.take_exactly.new.self in
    let first = from_first c.args.text.now c.new-lines.result c.take_exactly.new.self (codes "office" ∷ []) c.new-lines.ensures (subst T c.if-not-take_exactly.false c.take_exactly.ensures) in
    let E : Bool → Type 0 = TakesExactly (codes "end") c.take_orders.new.lines c.take_exactly-2.new.self in
    office_is c.args.text.now c.take_exactly.new.self c.take_orders.new.lines c.take_exactly-2.new.self c.in_ok-orders.orders first c.in_ok-orders.ensures (subst E c.if-not-take_exactly-2.false c.take_exactly-2.ensures)
    (c.is_over.ensures.0 c.if-not-is_over.false)
