use Rattle.line_forms.proofs.Passing.{takes_it}
use Rattle.report_text.specs.Reports.{form_line}
use Rattle.report_text.proofs.head.take_form.Goals as goal

pub returns : goal.returns
returns c = (
  tt,
  takes_it form_line c.args.lines.now c.skip_line.new.self c.in_ok-line_ahead.field-0.now c.in_ok-line_ahead.ensures.0 c.in_ok-form.form c.in_ok-line_ahead.ensures.1 c.in_ok-form.ensures.1 c.skip_line.ensures,
)
