use Rattle.desk_keep.proofs.Putting.{row_at-put}
use Rattle.desk_keep.proofs.law.a_row_is_found_where_it_was_put.Goals as goal

pub returns : goal.returns
returns c = row_at-put
