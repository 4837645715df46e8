use Rattle.std.proofs.Common.{rules}
use Rattle.desk_keep.specs.Tables.{is_of, AreRows}
use Rattle.desk_sql.proofs.Telling.{lists_untold, nothing_told}
use Rattle.desk_sql.proofs.keeper.SqlKeeperKeeper.list.Goals as goal

pub returns : goal.returns
returns g c = record {
  lists = lists_untold (is_of c.args.table) c.rows_of-rows.result c.listed.result c.rows_of-rows.ensures.rows c.rows_of-rows.ensures.asked c.listed.ensures.ok c.listed.ensures.err;
  good = nothing_told AreRows;
  only = search rules;
}
