use Rattle.std.proofs.Common.{◌≡◌, None, Some, Option, sym, ap, subst, ◌∙◌}
use Rattle.std.specs.Option.{option_map}
use Rattle.agent_attempt.specs.ActionContents.{actions_of}
use Rattle.agent_attempt.specs.Stages.{AttemptState, shown_attempt}
use Rattle.agent_core.specs.declared.kept_state.KeptState.{KeptState}
use Rattle.agent_core.specs.Inside.{IsSoundKept, state_of}
use Rattle.agent_state.specs.States.{HeldRuns, broken_action}
use Rattle.agent_core.specs.Devices.{devices}
use Rattle.agent_core.specs.Stops.{HeldWaitsBelow}
use Rattle.agent_core.specs.Turns.{Tries}
use Rattle.agent_core.proofs.Flowing.{none_is, steps_broken, steps_held, steps_tries}
use Rattle.agent_core.proofs.Sounding.{sound_unheld}
use Rattle.agent_core.proofs.kept_state.KeptState.step.Goals as goal

pub interrupt_broken-requires-clause-broken : goal.interrupt_broken-requires-clause-broken
interrupt_broken-requires-clause-broken g c = sym c.in-Some.ensures

pub returns-in-Some-clause-steps : goal.returns-in-Some-clause-steps
returns-in-Some-clause-steps g c = steps_broken _ _ _ c.in-Some.id _ _ _ (sym c.in-Some.ensures) (c.interrupt_broken.ensures.interrupts _)

pub returns-in-Some-clause-sound : goal.returns-in-Some-clause-sound
returns-in-Some-clause-sound g c = record {
  sound = c.interrupt_broken.ensures.sound;
  waits = subst (λ h. HeldWaitsBelow (g.M.Machine.told c.args.machine.now).started h) (sym c.interrupt_broken.ensures.held) c.requires.waits;
}

pub resume_held-requires : goal.resume_held-requires
resume_held-requires g c =
    let a : KeptState = c.args.self.now in
    let held : a.held ≡ Some c.in-Some-take.attempt = sym c.in-Some-take.ensures.value in
    record {
      sound = subst (λ (o : Option AttemptState). IsSoundKept (record a { held = o })) (sym c.take.ensures.after) (record { sound = sound_unheld (state_of a) c.requires.sound.sound; tallies = c.requires.sound.tallies });
      free = c.take.ensures.after;
      runs = subst (λ (o : Option AttemptState). HeldRuns (option_map shown_attempt o) a.histories) held c.requires.sound.sound.held;
      waits = subst (λ (o : Option AttemptState). HeldWaitsBelow (g.M.Machine.told c.args.machine.now).started (option_map shown_attempt o)) held c.requires.waits;
    }

pub try_actions-requires-clause-sound : goal.try_actions-requires-clause-sound
try_actions-requires-clause-sound g c =
    let a : KeptState = c.args.self.now in
    subst (λ (o : Option AttemptState). IsSoundKept (record a { held = o })) (sym c.take.ensures.after) (record { sound = sound_unheld (state_of a) c.requires.sound.sound; tallies = c.requires.sound.tallies })

pub try_actions-requires-clause-ended : goal.try_actions-requires-clause-ended
try_actions-requires-clause-ended g c =
    let a : KeptState = c.args.self.now in
    let none : broken_action (state_of a) ≡ None = sym c.broken_action.ensures ∙ none_is c.broken_action.result c.in_default.not-Some in
    let held : c.take.new.self ≡ a.held = c.take.ensures.after ∙ c.in-None.ensures.value in
    subst (λ (o : Option AttemptState). broken_action (state_of (record a { held = o })) ≡ None) (sym held) none

pub returns-in-Some-take-clause-steps : goal.returns-in-Some-take-clause-steps
returns-in-Some-take-clause-steps g c =
    let a : KeptState = c.args.self.now in
    let none : broken_action (state_of a) ≡ None = sym c.broken_action.ensures ∙ none_is c.broken_action.result c.in_default.not-Some in
    let held : (state_of a).held ≡ Some (shown_attempt c.in-Some-take.attempt) = ap (option_map shown_attempt) (sym c.in-Some-take.ensures.value) in
    steps_held _ (state_of a) _ (shown_attempt c.in-Some-take.attempt) _ _ _ none held c.resume_held.ensures.goes

pub returns-in-None-clause-steps : goal.returns-in-None-clause-steps
returns-in-None-clause-steps g c =
    let a : KeptState = c.args.self.now in
    let none : broken_action (state_of a) ≡ None = sym c.broken_action.ensures ∙ none_is c.broken_action.result c.in_default.not-Some in
    let held : c.take.new.self ≡ a.held = c.take.ensures.after ∙ c.in-None.ensures.value in
    steps_tries _ (state_of a) _ _ _ _ none (ap (option_map shown_attempt) (sym c.in-None.ensures.value))
    (subst (λ (o : Option AttemptState). Tries c.args.time.now (state_of (record a { held = o })) (actions_of a.sites)
    (devices (g.M.Machine.told c.args.machine.now)
    (g.P.Pocket.told c.args.pocket.now)) c.try_actions.result (state_of c.try_actions.new.self)
    (devices (g.M.Machine.told c.try_actions.new.machine)
    (g.P.Pocket.told c.try_actions.new.pocket))) held c.try_actions.ensures.tries)
