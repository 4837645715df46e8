use Rattle.std.proofs.Common.{rules, ◌<◌, ◌≤◌, ◌∙◌, arith}
use Rattle.std.proofs.lemmas.Grind.{common_steps}
use Rattle.server_core.proofs.Deciding.{room_for_action, too_many_bytes}
use Rattle.server_core.proofs.issuing.full_of_actions.Goals as goal

pub returns-then-longest_actionsite-gt-LONGEST_SITE-clause-learns : goal.returns-then-longest_actionsite-gt-LONGEST_SITE-clause-learns
returns-then-longest_actionsite-gt-LONGEST_SITE-clause-learns g c = record {
  is = λ rows told.
      let few : c.in_ok-count_of.field-0 < c.args.limits.actions = search (arith, c.if-branch.false) in
      let long : 4194304 < c.longest_actionsite.result = search (arith, c.if-longest_actionsite-gt-LONGEST_SITE.true) in
      too_many_bytes c.args.limits rows c.as_slice.result.now c.args.text.now c.in_ok-count_of.field-0 c.longest_actionsite.result (c.in_ok-count_of.ensures.is rows told)
      (c.as_slice.ensures ∙ c.in_ok-actions.ensures.is rows (c.in_ok-count_of.ensures.only.rows ∙ told)) c.longest_actionsite.ensures few long;
  only = search rules;
}

pub returns-clause-learns : goal.returns-clause-learns
returns-clause-learns g c = record {
  is = λ rows told.
      let few : c.in_ok-count_of.field-0 < c.args.limits.actions = search (arith, c.if-branch.false) in
      let short : c.longest_actionsite.result ≤ 4194304 = search (arith, c.if-longest_actionsite-gt-LONGEST_SITE.false) in
      room_for_action c.args.limits rows c.as_slice.result.now c.args.text.now c.in_ok-count_of.field-0 c.longest_actionsite.result (c.in_ok-count_of.ensures.is rows told)
      (c.as_slice.ensures ∙ c.in_ok-actions.ensures.is rows (c.in_ok-count_of.ensures.only.rows ∙ told)) c.longest_actionsite.ensures few short;
  only = search rules;
}

pub returns-then-branch-clause-learns : goal.returns-then-branch-clause-learns
returns-then-branch-clause-learns g c = record {
  is = λ rows told. grind (arith, common_steps, c.in_ok-count_of.ensures.is rows told);
  only = search rules;
}
