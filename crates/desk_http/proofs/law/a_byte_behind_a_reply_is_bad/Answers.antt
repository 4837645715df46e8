use Rattle.desk_http.proofs.Laws.{no_more}
use Rattle.desk_http.proofs.law.a_byte_behind_a_reply_is_bad.Goals as goal

pub returns : goal.returns
returns c = no_more
