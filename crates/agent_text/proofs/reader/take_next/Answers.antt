use Rattle.std.specs.Prelude.{codes, decimal}
use Rattle.line_forms.proofs.Passing.{takes_rest}
use Rattle.agent_text.proofs.reader.take_next.Goals as goal

pub returns : goal.returns
returns c = (
  c.in_ok-next.ensures.0,
  takes_rest c.args.lines.now c.skip_line.new.self (codes "next") c.in_ok-rest_ahead.field-0.now (decimal c.in_ok-next.next) c.in_ok-rest_ahead.ensures.0 c.in_ok-rest_ahead.ensures.1 c.in_ok-next.ensures.1 c.skip_line.ensures,
)
