use Rattle.group_text.proofs.Ends.{analysis_ends}
use Rattle.group_text.proofs.law.an_analysis_ends_once.Goals as goal

pub returns : goal.returns
returns c = analysis_ends
