use Rattle.line_forms.proofs.Passing.{takes_it}
use Rattle.report_text.specs.Reports.{seq_line}
use Rattle.report_text.proofs.head.take_seq.Goals as goal

pub returns : goal.returns
returns c = (
  c.in_ok-seq.ensures.0,
  takes_it seq_line c.args.lines.now c.skip_line.new.self c.in_ok-line_ahead.field-0.now c.in_ok-line_ahead.ensures.0 c.in_ok-seq.seq c.in_ok-line_ahead.ensures.1 c.in_ok-seq.ensures.1 c.skip_line.ensures,
)
