use Rattle.std.proofs.Common.{◌<◌, false, get_or, length, take, sym, ap, ◌∙◌, inl, inr, arith}
use Rattle.script_text.specs.Templates.{in_literal, turned}
use Rattle.script_text.proofs.Literals.{ends_at, none_more, literal_more, turned_is, none_all}
use Rattle.script_text.proofs.expression.split_expression.Goals as goal

pub returns-then-not-in_literal : goal.returns-then-not-in_literal
returns-then-not-in_literal c =
    let e = c.as_bytes-byte-items.ensures.value in
    let n = c.as_bytes-byte-items.ensures.len in
    ends_at c.args.inner.now c.cut_around.result.0.now c.cut_around.result.1.now c.loop-at.at (omega arith)
    (ap (λ x. get_or x c.loop-at.at 0) (sym e) ∙ c.if-byte-eq125.true) c.loop-at.invariant.none
    (sym c.loop-at.invariant.state ∙ c.if-not-in_literal.true) c.cut_around.ensures.front c.cut_around.ensures.back

pub loop-at-preserved : goal.loop-at-preserved
loop-at-preserved c =
    let e = c.as_bytes-byte-items.ensures.value in
    let n = c.as_bytes-byte-items.ensures.len in
    let l : c.loop-at.at < length c.args.inner.now = omega arith in
    let s = c.loop-at.invariant.state in
    record {
      none = none_more c.args.inner.now c.loop-at.at l c.loop-at.invariant.none
          (λ h. elim c.else-byte-eq125.either [ inl w ↦ sym s ∙ w.1 | inr w ↦ absurd (w (ap (λ x. get_or x c.loop-at.at 0) e ∙ h)) ]);
      state = turned_is c.loop-at.in_literal (get_or c.as_bytes-byte-items.result.now c.loop-at.at 0)
          ∙ ap (λ t. turned t (get_or c.as_bytes-byte-items.result.now c.loop-at.at 0)) s
          ∙ ap (λ x. turned (in_literal false (take c.loop-at.at c.args.inner.now)) (get_or x c.loop-at.at 0)) e
          ∙ sym (literal_more c.args.inner.now c.loop-at.at l);
    }

pub returns : goal.returns
returns c =
    let n = c.as_bytes-byte-items.ensures.len in
    none_all c.args.inner.now c.loop-at.at (omega arith) c.loop-at.invariant.none
