use Rattle.std.proofs.Common.{rules, ◌≡◌, ◌∙◌, filter, subst, List, IfOk}
use Rattle.desk_keep.specs.declared.change.Change.{Change}
use Rattle.desk_keep.specs.Tables.{is_of, AreRows}
use Rattle.desk_keep.proofs.Answering.{lists_rows}
use Rattle.desk_keep.proofs.sure.SureKeeperKeeper.list.Goals as goal

pub returns-clause-lists : goal.returns-clause-lists
returns-clause-lists c =
    let same : c.self.inside.rows ≡ c.args.self.now = c.self.view_is in
    record {
      lists = lists_rows c.args.self.now (is_of c.args.table) c.rows_of.result c.listed.result (subst AreRows same c.self.invariant)
          (subst (λ (rows : List Change). IfOk c.rows_of.result (λ list. list ≡ filter (is_of c.args.table) rows)) same c.rows_of.ensures) c.listed.ensures.ok c.listed.ensures.err;
      good = search rules;
      only = search rules;
    }
