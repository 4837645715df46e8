use Rattle.std.proofs.Common.{◌∙◌}
use Rattle.std.specs.Prelude.{codes}
use Rattle.line_forms.proofs.Passing.{takes_rest}
use Rattle.agent_text.proofs.report_reader.take_computer.Goals as goal

pub returns : goal.returns
returns c =
    takes_rest c.args.lines.now c.skip_line.new.self (codes "computer") c.in-Some.name.now c.args.computer.now c.in-Some.ensures.0 c.in-Some.ensures.1
    (c.is_same.ensures.0 c.if-not-is_same.false ∙ c.as_bytes.ensures.value ∙ c.as_str.ensures) c.skip_line.ensures
