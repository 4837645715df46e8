use Rattle.agent_text.proofs.SavedBytes.{saved_short}
use Rattle.agent_text.proofs.law.saved_texts_are_short.Goals as goal

pub returns : goal.returns
returns c = saved_short c.reports_are_short.ensures.report
