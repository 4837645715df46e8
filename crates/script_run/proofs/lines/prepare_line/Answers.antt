use Rattle.script_run.proofs.Preparing.{line_as}
use Rattle.script_run.proofs.lines.prepare_line.Goals as goal

pub returns-in-ContinueIf : goal.returns-in-ContinueIf
returns-in-ContinueIf g c = line_as _ c.args.what.now _ _ _ _ c.in-ContinueIf.is c.continues.ensures

pub returns-in-PauseWhile : goal.returns-in-PauseWhile
returns-in-PauseWhile g c = line_as _ c.args.what.now _ _ _ _ c.in-PauseWhile.is c.pauses.ensures
