use Rattle.std.proofs.Common.{refl}
use Rattle.act_rules.proofs.Counting.{stands_running}
use Rattle.act_rules.proofs.Ends.{stands_with}
use Rattle.act_rules.proofs.law.a_tally_counts_ended_rows.Goals as goal

pub returns-clause-running : goal.returns-clause-running
returns-clause-running c = stands_running

pub returns-clause-cleared : goal.returns-clause-cleared
returns-clause-cleared c = λ tally retries rows moment stands. stands_with tally retries rows _ (λ row. refl) stands
