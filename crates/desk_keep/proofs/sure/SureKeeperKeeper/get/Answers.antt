use Rattle.std.proofs.Common.{rules, ◌≡◌, Some, None, sym, ap, ◌∙◌, subst}
use Rattle.desk_keep.specs.Keys.{asked_key}
use Rattle.desk_keep.specs.Tables.{row_at, AreRows}
use Rattle.desk_keep.specs.Calls.{Finds}
use Rattle.desk_keep.proofs.Answering.{finds_row, if_told}
use Rattle.desk_keep.proofs.sure.SureKeeperKeeper.get.Goals as goal
use Rattle.desk_keep.proofs.sure.SureKeeperKeeper.get.Goals.{in-Some, in-None}

pub returns-clause-gets : goal.returns-clause-gets
returns-clause-gets c =
    let rows = c.args.self.now in
    let key = asked_key c.args.find.now in
    let same : c.self.inside.rows ≡ rows = c.self.view_is in
    record {
      finds = elim c.match-get.branch as (λ _. Finds (Some rows) key c.match-get.result) [
        | in-Some w ↦
            subst (Finds (Some rows) key) (sym w.result-is)
            (finds_row rows key w.in-Some.row.now w.found.result (subst AreRows same c.self.invariant) (w.in-Some.ensures ∙ ap (row_at key) same) w.found.ensures)
        | in-None w ↦
            subst (Finds (Some rows) key) (sym w.result-is)
            (if_told rows (λ all. row_at key all ≡ None) (sym (w.in-None.ensures ∙ ap (row_at key) same)))
      ];
      good = search rules;
      only = search rules;
    }
