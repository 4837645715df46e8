use Rattle.agent_core.specs.Agents.{shown_state}
use Rattle.agent_core.proofs.Begun.{ChangedHistories}
use Rattle.agent_core.proofs.Showing.{gathered_shown, opened_shown, settled_shown, supplied_shown, turn_shown}
use Rattle.agent_core.proofs.law.shown_reports_are_saved.Goals as goal

pub returns-clause-opened : goal.returns-clause-opened
returns-clause-opened c = λ computer told agent opens. opened_shown computer opens.0 told (shown_state agent) opens.1 opens.2

pub returns-clause-turn : goal.returns-clause-turn
returns-clause-turn c = λ at s s2 d d2 answer time is is2 turn shows.
    let law = c.changed_histories_can_be_saved.ensures in
    let histories : ChangedHistories = record { begun = law.begun; ended = law.ended; cleared = law.cleared } in
    turn_shown histories at time s s2 d d2 answer turn is is2 shows

pub returns-clause-settled : goal.returns-clause-settled
returns-clause-settled c = λ seq verdict s s2 answer told is settles shows. settled_shown seq verdict s s2 answer told is settles shows

pub returns-clause-gathered : goal.returns-clause-gathered
returns-clause-gathered c = λ site s s2 answer told gathers shows. gathered_shown site s s2 answer told gathers shows

pub returns-clause-supplied : goal.returns-clause-supplied
returns-clause-supplied c = λ digest bytes s s2 answer told supplies shows. supplied_shown digest bytes s s2 answer told supplies shows
