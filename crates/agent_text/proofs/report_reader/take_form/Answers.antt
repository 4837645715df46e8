use Rattle.std.proofs.Common.{refl}
use Rattle.std.proofs.lemmas.Bool.{iff_false}
use Rattle.line_forms.proofs.Passing.{other_ahead, takes_it}
use Rattle.report_text.specs.Reports.{form_line}
use Rattle.report_text.proofs.ReportParts.{form_one}
use Rattle.agent_text.specs.PartReadings.{IsFormIn}
use Rattle.agent_text.proofs.report_reader.take_form.Goals as goal

pub returns-then-not-is_form_in : goal.returns-then-not-is_form_in
returns-then-not-is_form_in c = (
  refl,
  other_ahead (IsFormIn c.args.around) form_line c.args.lines.now c.in_ok-line_ahead.field-0.now c.in_ok-line_ahead.ensures.0 c.in_ok-form.form
      (λ form is e. form_one form c.in_ok-form.form e) c.in_ok-line_ahead.ensures.1 c.in_ok-form.ensures.1
      (λ fits. iff_false c.is_form_in.ensures c.if-not-is_form_in.true fits),
)

pub returns : goal.returns
returns c = (
  c.is_form_in.ensures.0 c.if-not-is_form_in.false,
  takes_it form_line c.args.lines.now c.skip_line.new.self c.in_ok-line_ahead.field-0.now c.in_ok-line_ahead.ensures.0 c.in_ok-form.form c.in_ok-line_ahead.ensures.1 c.in_ok-form.ensures.1 c.skip_line.ensures,
)
