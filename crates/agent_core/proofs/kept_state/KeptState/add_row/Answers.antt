use Rattle.std.proofs.Common.{◌≡◌, List, None, SFits, refl, sym, subst, ◌∙◌, w64, rules}
use Rattle.std.proofs.lemmas.Int.{to_z-of_z}
use Rattle.desk_base.specs.Moments.{IsMoment}
use Rattle.act_rules.specs.declared.row.Row.{Row}
use Rattle.act_rules.specs.Notes.{no_note}
use Rattle.agent_text.specs.Histories.{AreHistories, PlainHistory, with_begun}
use Rattle.agent_attempt.specs.Attempts.{PlainAttempt}
use Rattle.agent_attempt.specs.Stages.{shown_attempt}
use Rattle.agent_core.specs.declared.kept_state.KeptState.{KeptState}
use Rattle.agent_core.specs.Inside.{IsSoundKept}
use Rattle.agent_state.specs.States.{new_row}
use Rattle.agent_core.proofs.Keeping.{sound_with, standing_begun}
use Rattle.agent_core.proofs.kept_state.KeptState.add_row.Goals as goal

pub returns-clause-sound : goal.returns-clause-sound
returns-clause-sound c =
    let a : KeptState = c.args.self.now in
    let attempt : PlainAttempt = shown_attempt c.args.attempt.now in
    let begins = c.requires.begins in
    let row : Row = new_row attempt.row c.args.time.now.moment in
    let hs : List PlainHistory = with_begun attempt.action.id row a.histories in
    let time : SFits w64 c.moment.result = search rules in
    let moment = to_z-of_z w64 c.moment.result time ∙ c.moment.ensures.value in
    let same : c.begin.new.self ≡ hs =
    c.in_ok-begin.ensures.ok ∙ (λ j. with_begun (c.action_id-id.ensures j) (record { number = c.row.ensures j; begun = moment j; end = None; cleared = None; note = no_note }) a.histories) in
    let is : IsMoment c.args.time.now.moment = subst IsMoment c.moment.ensures.value c.moment.ensures.moment in
    let good : AreHistories hs = c.changed_histories_can_be_saved.ensures.begun a.histories attempt.action.id row c.requires.sound.sound.saved.histories begins.action begins.ended begins.few begins.number (is, tt, tt) (refl, refl) in
    subst (λ l. IsSoundKept (record a { histories = l })) (sym same) (sound_with a hs good c.requires.free (standing_begun attempt.action.id row a.histories refl) c.requires.sound)
