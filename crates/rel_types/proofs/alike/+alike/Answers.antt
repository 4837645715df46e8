use Rattle.std.proofs.Common.{arith}
use Rattle.rel_types.proofs.SameKinds.{other_count_shown, same_count_shown}
use Rattle.rel_types.proofs.alike.+alike.Goals as goal

pub same_kinds-returns-then-lefts-rights : goal.same_kinds-returns-then-lefts-rights
same_kinds-returns-then-lefts-rights t c = other_count_shown c.args.ones.now c.args.others.now c.as_slice-lefts.result.now c.as_slice-rights.result.now c.as_slice-lefts.ensures c.as_slice-rights.ensures (λ e. omega (arith, e))

pub same_kinds-loop-number-init : goal.same_kinds-loop-number-init
same_kinds-loop-number-init t c = same_count_shown c.args.ones.now c.args.others.now c.as_slice-lefts.result.now c.as_slice-rights.result.now c.as_slice-lefts.ensures c.as_slice-rights.ensures (omega arith)
