use Rattle.std.proofs.Common.{true, false}
use Rattle.line_forms.proofs.Parts.{second_taken}
use Rattle.group_text.specs.Groups.{match_line}
use Rattle.group_text.proofs.group_reader.take_match.Goals as goal

pub returns-then-take_exactly-2 : goal.returns-then-take_exactly-2
returns-then-take_exactly-2 c = (
  tt,
  second_taken (match_line true) (match_line false) c.args.lines.now c.take_exactly.new.self c.take_exactly-2.new.self c.take_exactly.result c.take_exactly-2.result c.take_exactly.ensures c.if-take_exactly.false
      c.take_exactly-2.ensures c.if-take_exactly-2.true,
)
