use Rattle.std.proofs.Common.{◌≡◌, get_or, length, sym, ap, ◌∙◌, arith}
use Rattle.script_text.specs.Runs.{passes}
use Rattle.script_text.proofs.Cutting.{run_boundary, splits_at}
use Rattle.script_text.proofs.run.split_run.Goals as goal

pub split_at-requires : goal.split_at-requires
split_at-requires c =
    run_boundary c.args.run c.args.text.now c.loop-at.at c.utf8.text (let e = c.as_bytes-byte-items.ensures.len in omega arith) c.loop-at.invariant
    (ap (λ l. passes c.args.run (get_or l c.loop-at.at 0)) (sym c.as_bytes-byte-items.ensures.value) ∙ sym c.passes.ensures ∙ c.if-not-passes.true)

pub returns-then-not-passes : goal.returns-then-not-passes
returns-then-not-passes c =
    splits_at (passes c.args.run) c.args.text.now c.split_at.result.0.now c.split_at.result.1.now c.loop-at.at (let e = c.as_bytes-byte-items.ensures.len in omega arith) c.loop-at.invariant
    (λ l. ap (λ l. passes c.args.run (get_or l c.loop-at.at 0)) (sym c.as_bytes-byte-items.ensures.value) ∙ sym c.passes.ensures ∙ c.if-not-passes.true)
    c.split_at.ensures.front c.split_at.ensures.back

pub returns : goal.returns
returns c =
    let e = c.as_bytes-byte-items.ensures.len in
    let at_end : c.loop-at.at ≡ length c.args.text.now = omega arith in
    splits_at (passes c.args.run) c.args.text.now c.split_at-2.result.0.now c.split_at-2.result.1.now (length c.args.text.now) (omega arith)
    (λ k h. c.loop-at.invariant k (omega arith)) (λ h. absurd (omega arith))
    c.split_at-2.ensures.front c.split_at-2.ensures.back
