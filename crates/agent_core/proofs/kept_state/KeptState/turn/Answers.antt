use Rattle.std.proofs.Common.{◌≡◌, sym, ap, subst, ◌∙◌}
use Rattle.agent_core.specs.Inside.{state_of}
use Rattle.agent_state.specs.States.{State}
use Rattle.agent_core.specs.Stops.{HeldWaitsBelow}
use Rattle.agent_core.proofs.Flowing.{turn_clean, turn_failed, turn_memory, turn_saved}
use Rattle.agent_core.proofs.Starting.{saved_same}
use Rattle.agent_core.proofs.kept_state.KeptState.turn.Goals as goal

pub returns-then-not-self-clause-turns : goal.returns-then-not-self-clause-turns
returns-then-not-self-clause-turns g c = turn_clean _ _ _ _ _ _ c.if-not-self.true c.step.ensures.steps

pub step-requires-in-Done : goal.step-requires-in-Done
step-requires-in-Done g c =
    let s = state_of c.args.self.now in
    let held : (state_of c.save.new.self).held ≡ s.held = ap (λ (x : State). x.held) c.save.ensures.state ∙ saved_same (λ x. x.held) (λ x. λ i. x.held) c.save.result s in
    record { sound = c.save.ensures.sound; waits = subst (λ h. HeldWaitsBelow (g.M.Machine.told c.args.machine.now).started h) (sym held) c.requires.waits }

pub returns-in-Done-clause-turns : goal.returns-in-Done-clause-turns
returns-in-Done-clause-turns g c =
    turn_saved _ (state_of c.args.self.now) (state_of c.save.new.self) _ c.save.result _ _ _ _ c.if-not-self.false c.in-Done.is c.save.ensures.saves c.save.ensures.state c.step-in-Done.ensures.steps

pub returns-in-Failed-clause-turns : goal.returns-in-Failed-clause-turns
returns-in-Failed-clause-turns g c =
    turn_failed _ (state_of c.args.self.now) (state_of c.save.new.self) _ c.save.result _ c.if-not-self.false c.in-Failed.is c.save.ensures.saves c.save.ensures.state

pub returns-in-Failed-clause-sound : goal.returns-in-Failed-clause-sound
returns-in-Failed-clause-sound g c =
    let s = state_of c.args.self.now in
    let held : (state_of c.save.new.self).held ≡ s.held = ap (λ (x : State). x.held) c.save.ensures.state ∙ saved_same (λ x. x.held) (λ x. λ i. x.held) c.save.result s in
    record { sound = c.save.ensures.sound; waits = subst (λ h. HeldWaitsBelow (g.M.Machine.told c.args.machine.now).started h) (sym held) c.requires.waits }

pub returns-in-Memory-clause-turns : goal.returns-in-Memory-clause-turns
returns-in-Memory-clause-turns g c =
    turn_memory _ (state_of c.args.self.now) (state_of c.save.new.self) _ c.save.result _ c.if-not-self.false c.in-Memory.is c.save.ensures.saves c.save.ensures.state

pub returns-in-Memory-clause-sound : goal.returns-in-Memory-clause-sound
returns-in-Memory-clause-sound g c =
    let s = state_of c.args.self.now in
    let held : (state_of c.save.new.self).held ≡ s.held = ap (λ (x : State). x.held) c.save.ensures.state ∙ saved_same (λ x. x.held) (λ x. λ i. x.held) c.save.result s in
    record { sound = c.save.ensures.sound; waits = subst (λ h. HeldWaitsBelow (g.M.Machine.told c.args.machine.now).started h) (sym held) c.requires.waits }
