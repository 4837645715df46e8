use Rattle.std.proofs.Common.{[], sym, ◌∙◌, append-nil}
use Rattle.std.proofs.lemmas.Bool.{iff_false}
use Rattle.line_forms.proofs.FieldReading.{spelled_by}
use Rattle.report_text.specs.RowLines.{row_fields}
use Rattle.report_text.proofs.RowReading.{no_more, spelled}
use Rattle.report_text.proofs.row_reader.read_row_fields.Goals as goal

pub returns-in_default : goal.returns-in_default
returns-in_default c = λ row is e.
    c.in_default.ensures row [] is (c.new-fields.ensures ∙ spelled c.args.form c.args.rest.now row is e ∙ sym (append-nil (row_fields c.args.form row)))

pub returns-then-not-is_over : goal.returns-then-not-is_over
returns-then-not-is_over c = λ row is e.
    no_more c.args.form c.args.rest.now row c.in-Some.row c.take_row.new.fields (sym c.new-fields.ensures ∙ c.in-Some.ensures.1)
    (iff_false c.is_over.ensures c.if-not-is_over.true) is e

pub returns : goal.returns
returns c = (
  c.in-Some.ensures.0,
  spelled_by c.args.rest.now (row_fields c.args.form c.in-Some.row) c.take_row.new.fields (sym c.new-fields.ensures ∙ c.in-Some.ensures.1) (c.is_over.ensures.0 c.if-not-is_over.false),
)
