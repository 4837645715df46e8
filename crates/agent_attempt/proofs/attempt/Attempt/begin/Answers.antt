use Rattle.std.proofs.Common.{None, SFits, w64, sym, ap, subst, ◌∙◌}
use Rattle.std.proofs.lemmas.Int.{to_z-of_z}
use Rattle.agent_attempt.specs.declared.read_site.Content.{Content}
use Rattle.agent_attempt.specs.Attempts.{new_attempt, coming, starting}
use Rattle.agent_attempt.specs.FoundContents.{shown_content}
use Rattle.agent_attempt.specs.Stages.{FirstHasScript, shown_attempt}
use Rattle.agent_attempt.proofs.attempt.Attempt.begin.Goals as goal

pub of-requires-clause-stage : goal.of-requires-clause-stage
of-requires-clause-stage c = subst FirstHasScript (sym c.in_ok-left-in-Fixlet.ensures) (c.requires.script c.in-Fixlet.fixlet.now (ap shown_content c.in-Fixlet.is))

pub returns-in_ok-left-in-Fixlet-clause-begun : goal.returns-in_ok-left-in-Fixlet-clause-begun
returns-in_ok-left-in-Fixlet-clause-begun c =
    let fits : SFits w64 c.args.offset = c.ranges.offset in
    ap shown_attempt (simp to_z-of_z at c.of.ensures)
    ∙ (λ i. record { action = c.in_ok-own.ensures.0 i; row = c.args.row; offset = c.args.offset; left = c.in_ok-left-in-Fixlet.ensures i; stage = starting; past = record { failure = None; exit = None } })
    ∙ sym (ap (λ (x : Content). new_attempt c.args.action.now (shown_content x) c.args.row c.args.offset) c.in-Fixlet.is)

pub returns-in_ok-left-in-Baseline-clause-begun : goal.returns-in_ok-left-in-Baseline-clause-begun
returns-in_ok-left-in-Baseline-clause-begun c =
    let fits : SFits w64 c.args.offset = c.ranges.offset in
    ap shown_attempt (simp to_z-of_z at c.of-in-Baseline.ensures)
    ∙ (λ i. record { action = c.in_ok-own.ensures.0 i; row = c.args.row; offset = c.args.offset; left = c.in_ok-left-in-Baseline.ensures i; stage = coming; past = record { failure = None; exit = None } })
    ∙ sym (ap (λ (x : Content). new_attempt c.args.action.now (shown_content x) c.args.row c.args.offset) c.in-Baseline.is)
