use Rattle.agent_core.specs.Agents.{shown_state}
use Rattle.agent_core.proofs.Mailing.{opens_mail, turn_steps}
use Rattle.agent_core.proofs.law.turns_are_steps.Goals as goal

pub returns-clause-turn : goal.returns-clause-turn
returns-clause-turn c = λ at s s2 d d2 answer m turn is fault none mail. turn_steps at s s2 d d2 answer m turn is fault none mail

pub returns-clause-opened : goal.returns-clause-opened
returns-clause-opened c = λ computer told s agent m some opens mail own.
    opens_mail c.one_saved.ensures c.lines_are_read_again.ensures.lines computer told s (shown_state agent) m opens.0 some opens.1 opens.2 mail own
