use Rattle.desk_keep.proofs.Putting.{AreRows-put_all}
use Rattle.desk_keep.proofs.law.rows_stay_rows.Goals as goal

pub returns : goal.returns
returns c = AreRows-put_all
