use Rattle.agent_text.proofs.SavedAnswers.{text_one}
use Rattle.agent_text.proofs.law.one_saved.Goals as goal

pub returns : goal.returns
returns c = text_one c.lines_are_read_again.ensures.lines
