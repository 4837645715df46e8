use Rattle.std.proofs.Common.{subst, sym}
use Rattle.rel_types.specs.Plans.{PlainNode}
use Rattle.rel_types.specs.WellTyped.{IsWellTyped}
use Rattle.rel_types.proofs.plan.Plan.copy.Goals as goal

pub invariant_of-result : goal.invariant_of-result
invariant_of-result c = record { well_typed = subst (λ (n : PlainNode). IsWellTyped n) (sym c.in_ok-root.ensures) c.args.self.now.well_typed }
