use Rattle.desk_http.proofs.AskBack.{asked_heard}
use Rattle.desk_http.proofs.law.what_is_asked_is_heard.Goals as goal

pub returns : goal.returns
returns c = asked_heard
