use Rattle.script_text.proofs.Bounds.{verdict_within}
use Rattle.script_text.proofs.law.an_error_tells_one_of_the_lines.Goals as goal

pub returns : goal.returns
returns c = verdict_within
