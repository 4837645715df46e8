use Rattle.std.proofs.Common.{sym, ◌∙◌}
use Rattle.std.proofs.lemmas.Bool.{iff_false}
use Rattle.line_forms.proofs.FieldReading.{spelled_by}
use Rattle.agent_text.specs.AttemptLines.{attempt_fields}
use Rattle.agent_text.proofs.AttemptReading.{no_fields, no_more, other_row, row_good}
use Rattle.agent_text.proofs.attempt_reader.read_attempt_fields.Goals as goal

pub returns-in_default : goal.returns-in_default
returns-in_default c = λ row is e. no_fields c.args.form c.args.rest.now row (λ row more fine h. c.in_default.ensures row more fine (c.new-fields.ensures ∙ h)) is e

pub returns-then-not-is_over : goal.returns-then-not-is_over
returns-then-not-is_over c = λ row is e.
    no_more c.args.form c.args.rest.now row c.in-Some.row c.take_attempt_fields.new.fields (sym c.new-fields.ensures ∙ c.in-Some.ensures.1)
    (iff_false c.is_over.ensures c.if-not-is_over.true) is e

pub returns-then-not-is_saved_row : goal.returns-then-not-is_saved_row
returns-then-not-is_saved_row c = λ row is e.
    other_row c.args.form c.args.rest.now row c.in-Some.row c.take_attempt_fields.new.fields c.is_saved_row.result (sym c.new-fields.ensures ∙ c.in-Some.ensures.1) (c.is_over.ensures.0 c.if-not-is_over.false)
    c.in-Some.ensures.0 c.if-not-is_saved_row.true c.is_saved_row.ensures is e

pub returns : goal.returns
returns c = (
  row_good c.args.form c.in-Some.row c.is_saved_row.result c.in-Some.ensures.0 c.if-not-is_saved_row.false c.is_saved_row.ensures,
  spelled_by c.args.rest.now (attempt_fields c.args.form c.in-Some.row) c.take_attempt_fields.new.fields (sym c.new-fields.ensures ∙ c.in-Some.ensures.1) (c.is_over.ensures.0 c.if-not-is_over.false),
)
