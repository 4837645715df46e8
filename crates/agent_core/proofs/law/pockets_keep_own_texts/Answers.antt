use Rattle.agent_core.proofs.Begun.{ChangedHistories}
use Rattle.agent_core.proofs.OwnTexts.{mail_of_text, never_bad, turn_saves}
use Rattle.agent_core.proofs.law.pockets_keep_own_texts.Goals as goal

pub returns-clause-turn : goal.returns-clause-turn
returns-clause-turn c = λ at s s2 d d2 answer time is is2 turn.
    let law = c.changed_histories_can_be_saved.ensures in
    let histories : ChangedHistories = record { begun = law.begun; ended = law.ended; cleared = law.cleared } in
    turn_saves histories at time s s2 d d2 answer turn is is2

pub returns-clause-saved : goal.returns-clause-saved
returns-clause-saved c = mail_of_text

pub returns-clause-opened : goal.returns-clause-opened
returns-clause-opened c = λ m now line has opens. never_bad c.lines_are_read_again.ensures.lines c.lines_are_read_again.ensures.unended m now line has opens
