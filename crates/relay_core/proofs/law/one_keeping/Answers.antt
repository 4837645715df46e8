use Rattle.relay_core.proofs.OneKeeping.{keeps_once, stays_kept}
use Rattle.relay_core.proofs.law.one_keeping.Goals as goal

pub returns-clause-one : goal.returns-clause-one
returns-clause-one c = λ old new other site answer otherwise are p q ample ample'. keeps_once old new other site answer otherwise are p q ample ample'

pub returns-clause-kept : goal.returns-clause-kept
returns-clause-kept c = λ old new site answer are good p. stays_kept old new site answer are good p
