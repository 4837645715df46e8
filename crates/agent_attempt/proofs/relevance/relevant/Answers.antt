use Rattle.std.proofs.Common.{Some}
use Rattle.agent_attempt.specs.declared.found.Found.TheVariants.{No}
use Rattle.agent_attempt.specs.FoundContents.{shown_content}
use Rattle.agent_attempt.proofs.Quiet.{content_quiet, still_quiet}
use Rattle.agent_attempt.proofs.relevance.relevant.Goals as goal

pub returns-in-None-clause-asked : goal.returns-in-None-clause-asked
returns-in-None-clause-asked g c = still_quiet No _ (λ e. absurd (cc))

pub returns-in-Some-clause-asked : goal.returns-in-Some-clause-asked
returns-in-Some-clause-asked g c = content_quiet c.args.time.now (Some (shown_content c.in-Some.content)) _ _ _ c.content_relevant.ensures
