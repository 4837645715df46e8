use Rattle.agent_text.proofs.HistoryLemmas.{begun_kept, cleared_kept, ended_kept, reported_kept}
use Rattle.agent_text.proofs.law.changed_histories_can_be_saved.Goals as goal

pub returns-clause-begun : goal.returns-clause-begun
returns-clause-begun c = begun_kept

pub returns-clause-ended : goal.returns-clause-ended
returns-clause-ended c = ended_kept

pub returns-clause-cleared : goal.returns-clause-cleared
returns-clause-cleared c = cleared_kept

pub returns-clause-reported : goal.returns-clause-reported
returns-clause-reported c = reported_kept
