use Rattle.desk_http.proofs.ReadBack.{spoken_read}
use Rattle.desk_http.proofs.law.what_is_spoken_is_read.Goals as goal

pub returns : goal.returns
returns c = spoken_read
