use Rattle.std.proofs.Common.{rules, ◌∙◌, ap, arith}
use Rattle.std.proofs.lemmas.Grind.{common_steps}
use Rattle.server_core.proofs.reporting.full_of_reports.Goals as goal
use Rattle.server_core.proofs.reporting.full_of_reports.Goals.{else-not-known-via-then-not-known+in_ok-count_of+else-branch, else-not-known-via-else-not-known}

pub returns-then-branch-clause-learns : goal.returns-then-branch-clause-learns
returns-then-branch-clause-learns g c = record {
  is = λ rows told.
      grind (arith, common_steps, c.in_ok-copy.ensures, c.in_ok-known.ensures.is rows told, c.in_ok-count_of.ensures.is rows (c.in_ok-known.ensures.only.rows ∙ told));
  only = search rules;
}

pub returns-then-branch-2-clause-learns : goal.returns-then-branch-2-clause-learns
returns-then-branch-2-clause-learns g c = elim c.else-not-known.branch [
  | else-not-known-via-then-not-known+in_ok-count_of+else-branch w ↦ record {
    is = λ rows told.
        let told2 = c.in_ok-known.ensures.only.rows ∙ told in
        let told3 = ap (λ k. (g.K.Keeper.told k).rows) w.keeper-is ∙ w.in_ok-count_of.ensures.only.rows ∙ told2 in
        grind (arith, common_steps, c.in_ok-copy.ensures, c.in_ok-known.ensures.is rows told, w.in_ok-count_of.ensures.is rows told2, c.in_ok-count_of-2.ensures.is rows told3);
    only = search rules;
  }
  | else-not-known-via-else-not-known w ↦ record {
    is = λ rows told.
        let told2 = ap (λ k. (g.K.Keeper.told k).rows) w.keeper-is ∙ c.in_ok-known.ensures.only.rows ∙ told in
        grind (arith, common_steps, c.in_ok-copy.ensures, c.in_ok-known.ensures.is rows told, c.in_ok-count_of-2.ensures.is rows told2);
    only = search rules;
  }
]

pub returns-clause-learns : goal.returns-clause-learns
returns-clause-learns g c = elim c.else-not-known.branch [
  | else-not-known-via-then-not-known+in_ok-count_of+else-branch w ↦ record {
    is = λ rows told.
        let told2 = c.in_ok-known.ensures.only.rows ∙ told in
        let told3 = ap (λ k. (g.K.Keeper.told k).rows) w.keeper-is ∙ w.in_ok-count_of.ensures.only.rows ∙ told2 in
        grind (arith, common_steps, c.in_ok-copy.ensures, c.in_ok-known.ensures.is rows told, w.in_ok-count_of.ensures.is rows told2, c.in_ok-count_of-2.ensures.is rows told3);
    only = search rules;
  }
  | else-not-known-via-else-not-known w ↦ record {
    is = λ rows told.
        let told2 = ap (λ k. (g.K.Keeper.told k).rows) w.keeper-is ∙ c.in_ok-known.ensures.only.rows ∙ told in
        grind (arith, common_steps, c.in_ok-copy.ensures, c.in_ok-known.ensures.is rows told, c.in_ok-count_of-2.ensures.is rows told2);
    only = search rules;
  }
]
