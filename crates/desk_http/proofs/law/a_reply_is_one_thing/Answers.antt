use Rattle.desk_http.proofs.Laws.{one_reply}
use Rattle.desk_http.proofs.law.a_reply_is_one_thing.Goals as goal

pub returns : goal.returns
returns c = one_reply
