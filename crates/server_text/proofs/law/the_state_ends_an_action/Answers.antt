use Rattle.server_text.proofs.ActionTexts.{same_head, stopped_known, stops_text}
use Rattle.server_text.proofs.law.the_state_ends_an_action.Goals as goal

pub returns-clause-stopped : goal.returns-clause-stopped
returns-clause-stopped c = stopped_known

pub returns-clause-stops : goal.returns-clause-stops
returns-clause-stops c = stops_text

pub returns-clause-same : goal.returns-clause-same
returns-clause-same c = same_head c.one_action.ensures
