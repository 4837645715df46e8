use Rattle.std.proofs.Common.{◌≡◌, length, ap, ◌∙◌, inl, refl, None}
use Rattle.act_rules.specs.declared.row.Outcome.TheVariants.{Interrupted}
use Rattle.act_rules.specs.declared.row.Row.{Row}
use Rattle.act_rules.specs.Notes.{no_note}
use Rattle.agent_core.specs.declared.kept_state.KeptState.{KeptState}
use Rattle.agent_core.specs.Inside.{state_of}
use Rattle.agent_state.specs.States.{State, broken_action, interrupted, saved_of, text_of}
use Rattle.agent_core.specs.Devices.{devices}
use Rattle.agent_core.proofs.Flowing.{breaks_done, breaks_failed, breaks_memory, within_more}
use Rattle.agent_core.proofs.HeldAttempt.{kept_held}
use Rattle.agent_core.proofs.Sounding.{broken_runs}
use Rattle.agent_core.proofs.Sufficing.{suffices_ended, suffices_saved}
use Rattle.agent_core.proofs.kept_state.KeptState.interrupt_broken.Goals as goal

pub end_attempt-requires-clause-running : goal.end_attempt-requires-clause-running
end_attempt-requires-clause-running g c =
    let b : KeptState = c.take_spare.new.self in
    (broken_runs (state_of b) c.args.id c.take_spare.ensures.sound.sound (ap broken_action c.take_spare.ensures.state ∙ c.requires.broken)).0

pub end_attempt-requires-clause-free : goal.end_attempt-requires-clause-free
end_attempt-requires-clause-free g c =
    let b : KeptState = c.take_spare.new.self in
    (broken_runs (state_of b) c.args.id c.take_spare.ensures.sound.sound (ap broken_action c.take_spare.ensures.state ∙ c.requires.broken)).1

pub save_in-requires-clause-within : goal.save_in-requires-clause-within
save_in-requires-clause-within g c =
    let b : KeptState = c.take_spare.new.self in
    let e : KeptState = c.end_attempt.new.self in
    let running = (broken_runs (state_of b) c.args.id c.take_spare.ensures.sound.sound (ap broken_action c.take_spare.ensures.state ∙ c.requires.broken)).0 in
    let enough = suffices_ended c.in-Ok.spare b e c.args.id c.args.time.now.moment Interrupted no_note (λ (row : Row). row.end ≡ None) c.take_spare.ensures.sound running c.end_attempt.ensures.state c.end_attempt.ensures.room c.in-Ok.ensures.spare in
    within_more (length (text_of (state_of e))) _ _ _ (c.saved_texts_are_short.ensures (saved_of (state_of e)) c.end_attempt.ensures.sound.sound.saved) enough.text

pub finish-requires-clause-spare : goal.finish-requires-clause-spare
finish-requires-clause-spare g c =
    let b : KeptState = c.take_spare.new.self in
    let e : KeptState = c.end_attempt.new.self in
    let running = (broken_runs (state_of b) c.args.id c.take_spare.ensures.sound.sound (ap broken_action c.take_spare.ensures.state ∙ c.requires.broken)).0 in
    suffices_saved 0 c.in-Ok.spare c.save_in.new.room e c.save_in.new.self c.save_in.result c.save_in.ensures.kept.state c.save_in.ensures.kept.room c.save_in.ensures.text
    (suffices_ended c.in-Ok.spare b e c.args.id c.args.time.now.moment Interrupted no_note (λ (row : Row). row.end ≡ None) c.take_spare.ensures.sound running c.end_attempt.ensures.state c.end_attempt.ensures.room c.in-Ok.ensures.spare)

pub returns-in-Done-clause-interrupts : goal.returns-in-Done-clause-interrupts
returns-in-Done-clause-interrupts g c machine =
    let old = g.P.Pocket.told c.args.pocket.now in
    let mid = g.P.Pocket.told c.save_in.new.pocket in
    let new = g.P.Pocket.told c.finish.new.pocket in
    let is = c.end_attempt.ensures.state ∙ ap (interrupted c.args.id c.args.time.now.moment) c.take_spare.ensures.state in
    breaks_done c.args.time.now c.args.id (state_of c.args.self.now) (state_of c.end_attempt.new.self) (state_of c.save_in.new.self) (devices machine old) c.save_in.result mid c.finish.result (state_of c.finish.new.self) (devices machine new)
    is c.in-Done.is c.save_in.ensures.kept.saves c.save_in.ensures.kept.state (c.finish.ensures.finishes machine)

pub returns-in-Failed-clause-interrupts : goal.returns-in-Failed-clause-interrupts
returns-in-Failed-clause-interrupts g c machine =
    let old = g.P.Pocket.told c.args.pocket.now in
    let mid = g.P.Pocket.told c.save_in.new.pocket in
    let is = c.end_attempt.ensures.state ∙ ap (interrupted c.args.id c.args.time.now.moment) c.take_spare.ensures.state in
    breaks_failed c.args.time.now c.args.id (state_of c.args.self.now) (state_of c.end_attempt.new.self) (state_of c.save_in.new.self) (devices machine old) c.save_in.result mid is c.in-Failed.is c.save_in.ensures.kept.saves
    c.save_in.ensures.kept.state

pub returns-in-Memory-clause-interrupts : goal.returns-in-Memory-clause-interrupts
returns-in-Memory-clause-interrupts g c machine =
    let old = g.P.Pocket.told c.args.pocket.now in
    let mid = g.P.Pocket.told c.save_in.new.pocket in
    let is = c.end_attempt.ensures.state ∙ ap (interrupted c.args.id c.args.time.now.moment) c.take_spare.ensures.state in
    breaks_memory c.args.time.now c.args.id (state_of c.args.self.now) (state_of c.end_attempt.new.self) (state_of c.save_in.new.self) (devices machine old) c.save_in.result mid is c.in-Memory.is c.save_in.ensures.kept.saves
    c.save_in.ensures.kept.state

pub returns-in-Done-clause-held : goal.returns-in-Done-clause-held
returns-in-Done-clause-held g c =
    let held = λ (s : State). s.held in
    c.finish.ensures.held ∙ ap held c.save_in.ensures.kept.state ∙ kept_held c.save_in.result (state_of c.end_attempt.new.self) ∙ ap held c.end_attempt.ensures.state ∙ ap held c.take_spare.ensures.state

pub returns-in-Failed-clause-held : goal.returns-in-Failed-clause-held
returns-in-Failed-clause-held g c =
    let held = λ (s : State). s.held in
    ap held c.save_in.ensures.kept.state ∙ kept_held c.save_in.result (state_of c.end_attempt.new.self) ∙ ap held c.end_attempt.ensures.state ∙ ap held c.take_spare.ensures.state

pub returns-in-Memory-clause-held : goal.returns-in-Memory-clause-held
returns-in-Memory-clause-held g c =
    let held = λ (s : State). s.held in
    ap held c.save_in.ensures.kept.state ∙ kept_held c.save_in.result (state_of c.end_attempt.new.self) ∙ ap held c.end_attempt.ensures.state ∙ ap held c.take_spare.ensures.state

pub returns-in_default-clause-interrupts : goal.returns-in_default-clause-interrupts
returns-in_default-clause-interrupts g c machine = inl (refl, c.take_spare.ensures.state, refl)

pub returns-in_default-clause-held : goal.returns-in_default-clause-held
returns-in_default-clause-held g c = ap (λ (s : State). s.held) c.take_spare.ensures.state
