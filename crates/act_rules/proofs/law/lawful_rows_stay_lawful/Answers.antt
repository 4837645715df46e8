use Rattle.act_rules.proofs.LawLemmas.{lawful_none, lawful_snoc, lawful_with}
use Rattle.act_rules.proofs.law.lawful_rows_stay_lawful.Goals as goal

pub returns-clause-none : goal.returns-clause-none
returns-clause-none c = lawful_none

pub returns-clause-begun : goal.returns-clause-begun
returns-clause-begun c = lawful_snoc

pub returns-clause-changed : goal.returns-clause-changed
returns-clause-changed c = lawful_with
