use Rattle.std.proofs.Common.{rules, ◌≡◌, ◌∙◌, filter, map, subst, List, IfOk}
use Rattle.desk_keep.specs.declared.table.Table.TheVariants.{Sites}
use Rattle.desk_keep.specs.declared.change.Change.{Change}
use Rattle.desk_keep.specs.Tables.{is_of, without_text, AreRows}
use Rattle.desk_keep.proofs.Answering.{lists_versions}
use Rattle.desk_keep.proofs.sure.SureKeeperKeeper.versions.Goals as goal

pub returns-clause-lists : goal.returns-clause-lists
returns-clause-lists c =
    let same : c.self.inside.rows ≡ c.args.self.now = c.self.view_is in
    record {
      lists = lists_versions c.args.self.now c.versions.result c.listed.result (subst AreRows same c.self.invariant)
          (subst (λ (rows : List Change). IfOk c.versions.result (λ list. list ≡ map without_text (filter (is_of Sites) rows))) same c.versions.ensures) c.listed.ensures.ok c.listed.ensures.err;
      good = search rules;
      only = search rules;
    }
