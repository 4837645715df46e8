use Rattle.script_run.proofs.Preparing.{starts_line}
use Rattle.script_run.proofs.lines.starts.Goals as goal

pub returns : goal.returns
returns g c = starts_line _ _ c.args.hidden c.args.command.now _ c.in_ok-line.line _ c.does.ensures c.in_ok-line.ensures
