use Rattle.std.proofs.Common.{rules, ◌∙◌, refl, arith}
use Rattle.std.proofs.lemmas.Grind.{common_steps}
use Rattle.server_core.proofs.filing.keep_file.Goals as goal

pub returns-then-branch-2 : goal.returns-then-branch-2
returns-then-branch-2 g c = record {
  plain = refl;
  answers = λ rows told.
      let told2 = c.in_ok-has_row.ensures.only.rows ∙ told in
      grind (arith, common_steps, c.in_ok-has_row.ensures.is rows told, c.in_ok-count_of.ensures.is rows told2, c.in_ok-count_of.ensures.only.rows ∙ told2);
  ends = search rules;
}

pub returns : goal.returns
returns g c = record {
  plain = refl;
  answers = λ rows told.
      let told2 = c.in_ok-has_row.ensures.only.rows ∙ told in
      let told3 = c.in_ok-count_of.ensures.only.rows ∙ told2 in
      grind (arith, common_steps, c.in_ok-has_row.ensures.is rows told, c.in_ok-count_of.ensures.is rows told2, c.in_ok-put.ensures.ok rows told3);
  ends = search rules;
}
