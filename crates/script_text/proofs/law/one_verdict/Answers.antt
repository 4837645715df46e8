use Rattle.script_text.proofs.OneVerdict.{verdict_one}
use Rattle.script_text.proofs.law.one_verdict.Goals as goal

pub returns : goal.returns
returns c = verdict_one
