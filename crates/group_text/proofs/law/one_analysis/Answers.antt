use Rattle.group_text.proofs.AnalysisParts.{one_of_lines}
use Rattle.group_text.proofs.law.one_analysis.Goals as goal

pub returns : goal.returns
returns c = one_of_lines
