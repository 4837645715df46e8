use Rattle.std.proofs.Common.{ap, sym, subst, ◌∙◌, inl, inr, refl, Some}
use Rattle.std.specs.Option.{option_map}
use Rattle.agent_attempt.specs.Attempts.{PlainAttempt}
use Rattle.agent_attempt.specs.Stages.{shown_attempt}
use Rattle.agent_core.specs.declared.kept_state.KeptState.{KeptState}
use Rattle.agent_core.specs.Inside.{state_of}
use Rattle.agent_state.specs.States.{HeldRuns, State, with_held}
use Rattle.agent_core.proofs.HeldAttempt.{none_shown}
use Rattle.agent_core.proofs.Sounding.{sound_held}
use Rattle.agent_core.proofs.kept_state.KeptState.resume_held.Goals as goal

pub go_on_and_finish-requires-clause-can : goal.go_on_and_finish-requires-clause-can
go_on_and_finish-requires-clause-can g c =
    let b : KeptState = c.take_spare.new.self in
    record {
      sound = c.take_spare.ensures.sound;
      free = none_shown b.held (ap (λ (s : State). s.held) c.take_spare.ensures.state ∙ ap (option_map shown_attempt) c.requires.free);
      runs = subst (HeldRuns (Some (shown_attempt c.args.attempt))) (sym (ap (λ (s : State). s.histories) c.take_spare.ensures.state)) c.requires.runs;
      waits = c.requires.waits;
    }

pub returns-in-Ok-clause-goes : goal.returns-in-Ok-clause-goes
returns-in-Ok-clause-goes g c =
    let a : KeptState = c.args.self.now in
    let attempt : PlainAttempt = shown_attempt c.args.attempt in
    inr (c.go_on_and_finish.ensures.goes (with_held (Some attempt) (state_of a)) (ap (λ o. with_held (option_map shown_attempt o) (state_of a)) (sym c.requires.free) ∙ sym c.take_spare.ensures.state))

pub returns-in-Err-clause-goes : goal.returns-in-Err-clause-goes
returns-in-Err-clause-goes g c =
    let attempt : PlainAttempt = shown_attempt c.args.attempt in
    inl (refl, ap (with_held (Some attempt)) c.take_spare.ensures.state, refl)

pub returns-in-Err-clause-sound : goal.returns-in-Err-clause-sound
returns-in-Err-clause-sound g c =
    let b : KeptState = c.take_spare.new.self in
    let attempt : PlainAttempt = shown_attempt c.args.attempt in
    record {
      sound = record {
        sound = sound_held attempt (state_of b) (subst (HeldRuns (Some attempt)) (sym (ap (λ (s : State). s.histories) c.take_spare.ensures.state)) c.requires.runs) c.take_spare.ensures.sound.sound;
        tallies = c.take_spare.ensures.sound.tallies;
      };
      waits = c.requires.waits;
    }
