use Rattle.line_forms.proofs.Parts.{second_taken}
use Rattle.fix_site.proofs.action_reader.take_choice.Goals as goal

pub returns-then-take_exactly-2 : goal.returns-then-take_exactly-2
returns-then-take_exactly-2 c = (
  tt,
  second_taken c.args.first.now c.args.second.now c.args.lines.now c.take_exactly.new.self c.take_exactly-2.new.self c.take_exactly.result c.take_exactly-2.result
      c.take_exactly.ensures c.if-take_exactly.false c.take_exactly-2.ensures c.if-take_exactly-2.true,
)
