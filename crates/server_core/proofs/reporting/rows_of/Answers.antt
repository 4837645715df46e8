use Rattle.std.proofs.Common.{rules, ◌∙◌, arith}
use Rattle.std.proofs.lemmas.Grind.{common_steps}
use Rattle.server_core.proofs.reporting.rows_of.Goals as goal

pub loop-row-preserved : goal.loop-row-preserved
loop-row-preserved g c =
    let so_far = c.loop-row.invariant in
    let more = c.in_ok-push_later.ensures in
    record {
      kept = more.only.rows ∙ so_far.kept;
      steady = more.only.counts.steady (λ is. cc) ∙ so_far.steady;
      fit = more.fit so_far.fit;
      batch = λ rows told. grind (arith, common_steps, so_far.batch rows told, more.pushed rows (so_far.kept ∙ told));
    }

pub returns-clause-learns : goal.returns-clause-learns
returns-clause-learns g c = record {
  is = λ rows told. grind (arith, common_steps, c.loop-row.invariant.batch rows told);
  only = search rules;
}
