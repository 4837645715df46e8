use Rattle.std.proofs.Common.{arith}
use Rattle.std.proofs.lemmas.List.{take_more}
use Rattle.rel_nodes.specs.Core.{casted_core}
use Rattle.rel_nodes.specs.Nodes.{boxed_shape}
use Rattle.rel_nodes.specs.Runs.{run_core}
use Rattle.rel_nodes.proofs.Alikes.{alike_same, on_alike}
use Rattle.rel_nodes.proofs.Lists.{casted_all, casted_more}
use Rattle.rel_nodes.proofs.arrows.casted.Goals as goal

pub loop-step-init : goal.loop-step-init
loop-step-init c = alike_same (run_core c.new-run.result) (boxed_shape c.args.part) c.new-run.ensures.first

pub loop-step-preserved : goal.loop-step-preserved
loop-step-preserved c =
    casted_more (boxed_shape c.args.part) (run_core c.loop-step.run) (boxed_shape c.in_ok-arrow.arrow) (run_core c.in_ok-run.run') c.as_slice-step-items.result.now c.loop-step.step-index _
    (take_more c.as_slice-step-items.result.now c.loop-step.step-index _ (omega arith)) c.loop-step.invariant c.in_ok-arrow.ensures c.in_ok-run.ensures

pub returns : goal.returns
returns c =
    let run = run_core c.loop-step.run in
    on_alike c.whole.result run (casted_core c.args.casts.now (boxed_shape c.args.part)) c.whole.ensures
    (casted_all (boxed_shape c.args.part) run c.as_slice-step-items.result.now c.args.casts.now c.loop-step.step-index c.as_slice-step-items.ensures (λ i. omega (arith, i)) c.loop-step.invariant)
