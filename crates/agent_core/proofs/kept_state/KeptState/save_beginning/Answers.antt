use Rattle.std.proofs.Common.{◌≡◌, true, length, refl, ap, sym, subst, ◌∙◌, Some, inl}
use Rattle.agent_attempt.specs.Attempts.{PlainAttempt}
use Rattle.agent_attempt.specs.Stages.{shown_attempt}
use Rattle.agent_core.specs.declared.kept_state.KeptState.{KeptState}
use Rattle.agent_core.specs.Inside.{IsSoundKept, state_of}
use Rattle.agent_core.specs.Marked.{undone}
use Rattle.agent_state.specs.States.{HeldRuns, saved_of, text_of}
use Rattle.agent_core.proofs.Flowing.{within_more}
use Rattle.agent_core.proofs.MarkedTurns.{without_marks}
use Rattle.agent_core.proofs.Starting.{begun_runs, saved_same}
use Rattle.agent_core.proofs.TakingBack.{begun_state, failed_sound, histories_of, marks_sound, marks_state, memory_sound, saves_failed, saves_memory}
use Rattle.agent_core.proofs.kept_state.KeptState.save_beginning.Goals as goal

pub returns-in_default-clause-sound : goal.returns-in_default-clause-sound
returns-in_default-clause-sound g c =
    let before = c.args.before.items in
    let same : c.add_row.new.self ≡ c.args.self.now = c.in_default.ensures.err in
    subst IsSoundKept (sym c.unmark.ensures) (subst (λ (x : KeptState). IsSoundKept (record x { histories = undone before x.histories })) (sym same) (without_marks before c.args.self.now c.requires.marks))

pub returns-in_default-take_spare-clause-saves : goal.returns-in_default-take_spare-clause-saves
returns-in_default-take_spare-clause-saves g c =
    let a : KeptState = c.args.self.now in
    let attempt : PlainAttempt = shown_attempt c.args.attempt.now in
    let begun = c.take_spare.ensures.state ∙ begun_state a c.add_row.new.self attempt.action.id attempt.row c.args.time.now.moment c.requires.begins.number c.in-Ok.ensures.ok.1 in
    inl (refl, ap state_of c.take_back.ensures ∙ marks_state a attempt.action.id c.args.time.now.moment c.in-Ok.row c.args.before.items c.requires.marks c.in-Ok.ensures.ok.0 c.take_spare.new.self begun, refl)

pub returns-in_default-take_spare-clause-sound : goal.returns-in_default-take_spare-clause-sound
returns-in_default-take_spare-clause-sound g c =
    let a : KeptState = c.args.self.now in
    let attempt : PlainAttempt = shown_attempt c.args.attempt.now in
    let begun = c.take_spare.ensures.state ∙ begun_state a c.add_row.new.self attempt.action.id attempt.row c.args.time.now.moment c.requires.begins.number c.in-Ok.ensures.ok.1 in
    subst IsSoundKept (sym c.take_back.ensures)
    (marks_sound a attempt.action.id c.args.time.now.moment c.in-Ok.row c.args.before.items c.requires.marks c.in-Ok.ensures.ok.0 c.take_spare.new.self begun c.take_spare.ensures.sound)

pub save_in-requires-clause-within : goal.save_in-requires-clause-within
save_in-requires-clause-within g c =
    let b : KeptState = c.take_spare.new.self in
    within_more (length (text_of (state_of b))) _ _ _ (c.saved_texts_are_short.ensures (saved_of (state_of b)) c.take_spare.ensures.sound.sound.saved) c.in-Ok-take_spare.ensures.spare.text

pub returns-in-Done-clause-runs : goal.returns-in-Done-clause-runs
returns-in-Done-clause-runs g c =
    let attempt : PlainAttempt = shown_attempt c.args.attempt.now in
    let kept = ap histories_of c.save_in.ensures.kept.state ∙ saved_same histories_of (λ s. refl) c.save_in.result (state_of c.take_spare.new.self) ∙ ap histories_of c.take_spare.ensures.state in
    subst (HeldRuns (Some attempt)) (sym kept) (begun_runs c.args.self.now.histories c.add_row.new.self.histories attempt c.args.time.now (ap (λ (x : KeptState). x.histories) c.in-Ok.ensures.ok.1))

pub returns-in-Failed-clause-saves : goal.returns-in-Failed-clause-saves
returns-in-Failed-clause-saves g c =
    let a : KeptState = c.args.self.now in
    let attempt : PlainAttempt = shown_attempt c.args.attempt.now in
    let e : KeptState = c.save_in.new.self in
    let begun = c.take_spare.ensures.state ∙ begun_state a c.add_row.new.self attempt.action.id attempt.row c.args.time.now.moment c.requires.begins.number c.in-Ok.ensures.ok.1 in
    saves_failed a attempt.action.id c.args.time.now.moment c.in-Ok.row c.args.before.items c.requires.marks c.in-Ok.ensures.ok.0 c.take_spare.new.self e c.save_in.result _ _ begun c.save_in.ensures.kept _ c.in-Failed.is
    (ap (λ hs. record e { histories = hs; unsaved = true }) c.put_back.ensures)

pub returns-in-Failed-clause-sound : goal.returns-in-Failed-clause-sound
returns-in-Failed-clause-sound g c =
    let a : KeptState = c.args.self.now in
    let attempt : PlainAttempt = shown_attempt c.args.attempt.now in
    let e : KeptState = c.save_in.new.self in
    let begun = c.take_spare.ensures.state ∙ begun_state a c.add_row.new.self attempt.action.id attempt.row c.args.time.now.moment c.requires.begins.number c.in-Ok.ensures.ok.1 in
    failed_sound a attempt.action.id c.args.time.now.moment c.in-Ok.row c.args.before.items c.requires.marks c.in-Ok.ensures.ok.0 c.take_spare.new.self e c.save_in.result _ _ begun c.save_in.ensures.kept _ c.in-Failed.is
    (ap (λ hs. record e { histories = hs; unsaved = true }) c.put_back.ensures)

pub returns-in-Memory-clause-saves : goal.returns-in-Memory-clause-saves
returns-in-Memory-clause-saves g c =
    let a : KeptState = c.args.self.now in
    let attempt : PlainAttempt = shown_attempt c.args.attempt.now in
    let begun = c.take_spare.ensures.state ∙ begun_state a c.add_row.new.self attempt.action.id attempt.row c.args.time.now.moment c.requires.begins.number c.in-Ok.ensures.ok.1 in
    saves_memory a attempt.action.id c.args.time.now.moment c.in-Ok.row c.args.before.items c.requires.marks c.in-Ok.ensures.ok.0 c.take_spare.new.self c.save_in.new.self c.save_in.result _ _ begun c.save_in.ensures.kept _ c.in-Memory.is c.take_back-in-Memory.ensures

pub returns-in-Memory-clause-sound : goal.returns-in-Memory-clause-sound
returns-in-Memory-clause-sound g c =
    let a : KeptState = c.args.self.now in
    let attempt : PlainAttempt = shown_attempt c.args.attempt.now in
    let begun = c.take_spare.ensures.state ∙ begun_state a c.add_row.new.self attempt.action.id attempt.row c.args.time.now.moment c.requires.begins.number c.in-Ok.ensures.ok.1 in
    memory_sound a attempt.action.id c.args.time.now.moment c.in-Ok.row c.args.before.items c.requires.marks c.in-Ok.ensures.ok.0 c.take_spare.new.self c.save_in.new.self c.save_in.result _ _ begun c.save_in.ensures.kept _ c.in-Memory.is c.take_back-in-Memory.ensures
