use Rattle.desk_serve.proofs.Counting.{never_503}
use Rattle.desk_serve.proofs.law.want_of_memory_is_told_last.Goals as goal

pub returns : goal.returns
returns c = never_503
