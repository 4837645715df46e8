use Rattle.script_run.proofs.Preparing.{awaits_line}
use Rattle.script_run.proofs.lines.awaits.Goals as goal

pub returns : goal.returns
returns g c = awaits_line _ _ c.args.hidden c.args.command.now c.in_ok-line.line _ c.in_ok-line.ensures
