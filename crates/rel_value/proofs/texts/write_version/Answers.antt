use Rattle.std.proofs.Common.{◌++◌, ap, ◌∙◌, take_all, get_or, decimal}
use Rattle.rel_value.specs.Texts.{version_text}
use Rattle.rel_value.proofs.Joined.{written-first, written-more}
use Rattle.rel_value.proofs.texts.write_version.Goals as goal
use Rattle.rel_value.proofs.texts.write_version.Goals.{then-i-gt0+in_ok-push, else-i-gt0}

pub loop-i-preserved : goal.loop-i-preserved
loop-i-preserved c =
    elim c.if-i-gt0.branch [
      | then-i-gt0+in_ok-push w ↦
          written-more c.args.out.now c.loop-i.out c.if-i-gt0.out c.write_number.new.out c.as_slice-numbers.result.now c.loop-i.i w.if-i-gt0.true c.loop-i-test.true c.loop-i.invariant (w.out-is ∙ w.in_ok-push.ensures.ok) c.in_ok-write_number.ensures
      | else-i-gt0 w ↦
          written-first c.args.out.now c.loop-i.out c.write_number.new.out c.as_slice-numbers.result.now c.loop-i.i w.if-i-gt0.false c.loop-i-test.true c.loop-i.invariant (c.in_ok-write_number.ensures ∙ ap (λ l. l ++ decimal (get_or c.as_slice-numbers.result.now c.loop-i.i 0)) w.out-is)
    ]

pub returns : goal.returns
returns c =
    c.loop-i.invariant
    ∙ ap (λ l. c.args.out.now ++ version_text l) (take_all c.loop-i.i c.as_slice-numbers.result.now c.loop-i-test.false ∙ c.as_slice-numbers.ensures)
