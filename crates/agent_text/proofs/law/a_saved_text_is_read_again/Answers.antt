use Rattle.agent_text.proofs.SavedAnswers.{read_again}
use Rattle.agent_text.proofs.law.a_saved_text_is_read_again.Goals as goal

pub returns : goal.returns
returns c = read_again c.lines_are_read_again.ensures.lines c.lines_are_read_again.ensures.unended
