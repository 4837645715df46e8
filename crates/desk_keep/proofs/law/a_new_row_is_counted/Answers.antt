use Rattle.desk_keep.proofs.Counting.{count-new}
use Rattle.desk_keep.proofs.law.a_new_row_is_counted.Goals as goal

pub returns : goal.returns
returns c = count-new
