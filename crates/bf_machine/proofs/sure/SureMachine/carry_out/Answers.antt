use Rattle.std.proofs.Common.{sym, subst}
use Rattle.bf_world.specs.Answers.{HasMoment}
use Rattle.bf_machine.proofs.Keeping.{moments_kept}
use Rattle.bf_machine.proofs.sure.SureMachine.carry_out.Goals as goal

pub invariant_of-self-in-Done : goal.invariant_of-self-in-Done
invariant_of-self-in-Done c =
    moments_kept _ _ _ _ c.push.ensures.items c.self.invariant (subst HasMoment (sym c.in-Ok.ensures) c.requires.date)

pub invariant_of-self-in-Refused : goal.invariant_of-self-in-Refused
invariant_of-self-in-Refused c =
    moments_kept _ _ _ _ c.push.ensures.items c.self.invariant (subst HasMoment (sym c.in-Ok.ensures) c.requires.date)
