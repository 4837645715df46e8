use Rattle.rel_session.specs.Waiting.{IsRead}
use Rattle.rel_session.proofs.opening.open_question.Goals as goal

pub returns-in-Err : goal.returns-in-Err
returns-in-Err g c = c.in-Err.ensures

pub returns-in-Ok-started : goal.returns-in-Ok-started
returns-in-Ok-started g c = (c.in-Ok.question, c.in-Ok.ensures, c.in-Ok-started.ensures)

pub returns-in-Err-started : goal.returns-in-Err-started
unfolding IsRead
returns-in-Err-started g c = tt
