use Rattle.server_core.proofs.Holding.{says_another, says_held}
use Rattle.server_core.proofs.law.a_reply_says_what_is_held.Goals as goal

pub returns-clause-held : goal.returns-clause-held
returns-clause-held c = λ accepted limits report are taken. says_held accepted limits report are taken

pub returns-clause-another : goal.returns-clause-another
returns-clause-another c = λ accepted limits report digest are is. says_another accepted limits report digest are is
