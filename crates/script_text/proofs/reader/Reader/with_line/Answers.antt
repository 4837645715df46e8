use Rattle.std.proofs.Common.{refl, sym, ◌∙◌}
use Rattle.script_text.proofs.Steps.{command_read, line_refused}
use Rattle.script_text.proofs.reader.Reader.with_line.Goals as goal

pub returns-in-Ok : goal.returns-in-Ok
returns-in-Ok c = λ p s. command_read p c.args.number c.args.line.now c.args.self _ c.in-Ok.command c.with_command.result s (sym c.in_default.is ∙ c.take.ensures.value) refl refl refl c.take.ensures.after c.in-Ok.ensures c.with_command.ensures

pub returns-in-Err : goal.returns-in-Err
returns-in-Err c = λ p s. rw c.at.ensures (line_refused p c.args.number c.args.line.now c.args.self c.in-Err.refusal s (sym c.in_default.is ∙ c.take.ensures.value) c.in-Err.ensures)
