use Rattle.rel_session.specs.Waiting.{IsRead}
use Rattle.rel_session.proofs.opening.read_question.Goals as goal

pub returns : goal.returns
unfolding IsRead
returns g c = c.read.ensures
