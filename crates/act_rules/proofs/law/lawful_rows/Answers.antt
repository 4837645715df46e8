use Rattle.act_rules.proofs.LawLemmas.{bounded}
use Rattle.act_rules.proofs.law.lawful_rows.Goals as goal

pub returns : goal.returns
returns c = bounded
