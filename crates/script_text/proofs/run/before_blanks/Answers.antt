use Rattle.std.proofs.Common.{◌-◌, get_or, sym, ap, ◌∙◌, arith}
use Rattle.script_text.specs.Bytes.{is_blank}
use Rattle.script_text.proofs.Cutting.{drops_blanks}
use Rattle.script_text.proofs.run.before_blanks.Goals as goal
use Rattle.script_text.proofs.run.before_blanks.Goals.{then-loop-end-test+else-is_blank, else-loop-end-test}

pub returns : goal.returns
returns c =
    let e = c.as_bytes-bytes.ensures.value in
    let n = c.as_bytes-bytes.ensures.len in
    drops_blanks c.args.text.now c.split_at.result.0.now c.loop-end.end (omega arith)
    (λ k h l. ap (λ x. is_blank (get_or x k 0)) (sym e) ∙ c.loop-end.invariant.blank k h (omega arith))
    (λ p. ap (λ x. is_blank (get_or x (c.loop-end.end - 1) 0)) (sym e) ∙ elim c.loop-end-test.branch [
      | then-loop-end-test+else-is_blank w ↦ sym w.is_blank.ensures ∙ w.if-is_blank.false
      | else-loop-end-test w ↦ absurd (omega arith)
    ])
    c.split_at.ensures.front
