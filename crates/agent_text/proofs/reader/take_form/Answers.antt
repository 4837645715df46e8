use Rattle.report_text.specs.declared.form.Form.TheVariants.{One, Two}
use Rattle.agent_text.specs.SavedTexts.{agent_line}
use Rattle.line_forms.proofs.Parts.{second_taken}
use Rattle.agent_text.proofs.reader.take_form.Goals as goal

pub returns-then-take_exactly-2 : goal.returns-then-take_exactly-2
returns-then-take_exactly-2 c = (
  tt,
  second_taken (agent_line One) (agent_line Two) c.args.lines.now c.take_exactly.new.self c.take_exactly-2.new.self c.take_exactly.result c.take_exactly-2.result c.take_exactly.ensures c.if-take_exactly.false
      c.take_exactly-2.ensures c.if-take_exactly-2.true,
)
