use Rattle.std.proofs.Common.{arith, subst, sym}
use Rattle.rel_value.specs.Operands.{AreSound}
use Rattle.rel_value.specs.Plain.{Parts}
use Rattle.rel_value.specs.Views.{shown_parts}
use Rattle.rel_trace.proofs.Tuples.{both-sound, parted-all, parted-more}
use Rattle.rel_trace.proofs.joining.together.Goals as goal

pub loop-value-preserved : goal.loop-value-preserved
loop-value-preserved c =
    parted-more (shown_parts c.loop-value.parts) (shown_parts c.push.new.self) (shown_parts c.args.earlier.now) c.as_slice-value-items.result.now c.loop-value.value-index c.value-item.result c.in_ok-copied.copied
    c.loop-value.invariant (omega arith) c.value-item.is c.in_ok-copied.ensures c.in_ok-push.ensures.ok

pub returns-clause-same : goal.returns-clause-same
returns-clause-same c =
    parted-all (shown_parts c.loop-value.parts) (shown_parts c.args.earlier.now) c.args.later.now c.as_slice-value-items.result.now c.loop-value.value-index
    c.loop-value.invariant (λ h. omega (arith, h)) c.as_slice-value-items.ensures

pub returns-clause-sound : goal.returns-clause-sound
returns-clause-sound c =
    let same =
    parted-all (shown_parts c.loop-value.parts) (shown_parts c.args.earlier.now) c.args.later.now c.as_slice-value-items.result.now c.loop-value.value-index
    c.loop-value.invariant (λ h. omega (arith, h)) c.as_slice-value-items.ensures in
    subst (λ (ps : Parts). AreSound ps) (sym same) (both-sound (shown_parts c.args.earlier.now) (shown_parts c.args.later.now) c.requires.earlier c.requires.later)
