use Rattle.std.proofs.Common.{rules}
use Rattle.desk_keep.specs.Tables.{AreRows}
use Rattle.desk_sql.proofs.Telling.{nothing_told, versions_untold}
use Rattle.desk_sql.proofs.keeper.SqlKeeperKeeper.versions.Goals as goal

pub returns : goal.returns
returns g c = record {
  lists = versions_untold c.versions_of_sites-rows.result c.listed.result c.versions_of_sites-rows.ensures.rows c.versions_of_sites-rows.ensures.asked c.listed.ensures.ok c.listed.ensures.err;
  good = nothing_told AreRows;
  only = search rules;
}
