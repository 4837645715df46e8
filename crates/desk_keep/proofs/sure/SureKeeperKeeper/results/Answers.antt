use Rattle.std.proofs.Common.{rules, ◌≡◌, ◌∙◌, filter, subst, List, IfOk}
use Rattle.desk_keep.specs.declared.change.Change.{Change}
use Rattle.desk_keep.specs.Tables.{is_result_of, AreRows}
use Rattle.desk_keep.proofs.Answering.{lists_rows}
use Rattle.desk_keep.proofs.sure.SureKeeperKeeper.results.Goals as goal

pub returns-clause-lists : goal.returns-clause-lists
returns-clause-lists c =
    let same : c.self.inside.rows ≡ c.args.self.now = c.self.view_is in
    record {
      lists = lists_rows c.args.self.now (is_result_of c.args.computer.now) c.results_of.result c.listed.result (subst AreRows same c.self.invariant)
          (subst (λ (rows : List Change). IfOk c.results_of.result (λ list. list ≡ filter (is_result_of c.args.computer.now) rows)) same c.results_of.ensures) c.listed.ensures.ok c.listed.ensures.err;
      good = search rules;
      only = search rules;
    }
