use Rattle.std.proofs.Common.{rules, ◌∙◌, arith}
use Rattle.std.proofs.lemmas.Grind.{common_steps}
use Rattle.server_core.proofs.publishing.site_count.Goals as goal

pub returns-then-branch : goal.returns-then-branch
returns-then-branch g c = record {
  is = λ rows told.
      grind (arith, common_steps, c.in_ok-count.ensures.is rows told, c.in_ok-has_row.ensures.is rows (c.in_ok-count.ensures.only.rows ∙ told));
  only = search rules;
}

pub returns : goal.returns
returns g c = record {
  is = λ rows told.
      grind (arith, common_steps, c.in_ok-count.ensures.is rows told, c.in_ok-has_row.ensures.is rows (c.in_ok-count.ensures.only.rows ∙ told));
  only = search rules;
}
