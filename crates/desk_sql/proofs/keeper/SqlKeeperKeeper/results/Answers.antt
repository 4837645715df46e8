use Rattle.std.proofs.Common.{rules}
use Rattle.desk_keep.specs.Tables.{is_result_of, AreRows}
use Rattle.desk_sql.proofs.Telling.{lists_untold, nothing_told}
use Rattle.desk_sql.proofs.keeper.SqlKeeperKeeper.results.Goals as goal

pub returns : goal.returns
returns g c = record {
  lists = lists_untold (is_result_of c.args.computer.now) c.results_of-rows.result c.listed.result c.results_of-rows.ensures.rows c.results_of-rows.ensures.asked c.listed.ensures.ok c.listed.ensures.err;
  good = nothing_told AreRows;
  only = search rules;
}
