use Rattle.line_forms.proofs.Passing.{takes_it}
use Rattle.world_text.specs.Readings.{name_line}
use Rattle.world_text.proofs.head.take_name.Goals as goal

pub returns : goal.returns
returns c = (
  c.in_ok-name.ensures.0,
  takes_it name_line c.args.lines.now c.skip_line.new.self c.in_ok-line_ahead.field-0.now c.in_ok-line_ahead.ensures.0 c.in_ok-name.name.now c.in_ok-line_ahead.ensures.1 c.in_ok-name.ensures.1 c.skip_line.ensures,
)
