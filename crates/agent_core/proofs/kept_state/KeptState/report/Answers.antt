use Rattle.std.proofs.Common.{◌≡◌, ◌∷◌, ◌++◌, [], ap, sym, subst, ◌∙◌}
use Rattle.report_text.specs.declared.form.Form.TheVariants.{Two}
use Rattle.report_text.specs.declared.report.Report.{Report}
use Rattle.agent_text.specs.Histories.{rows_at}
use Rattle.agent_core.specs.declared.kept_state.KeptState.{KeptState}
use Rattle.agent_core.specs.Inside.{state_of}
use Rattle.agent_state.specs.States.{IsSound, State, next_report, with_report}
use Rattle.agent_state.proofs.RowsAt.{rows_reported}
use Rattle.agent_core.proofs.SoundReport.{sound_reported}
use Rattle.agent_core.proofs.Standing.{stand_alike}
use Rattle.agent_core.proofs.kept_state.KeptState.report.Goals as goal

pub returns-clause-state : goal.returns-clause-state
returns-clause-state c =
    let a : KeptState = c.args.self.now in
    let s : State = state_of a in
    let pushed : c.push.new.self.reports ≡ a.outbox.reports ++ next_report s ∷ [] =
    c.push.ensures.reports ∙ (λ j. let r : Report = record { form = Two; computer = c.requires.computer j; seq = a.next; rows = (c.from_vec.ensures ∙ c.add_rows.ensures) j } in a.outbox.reports ++ r ∷ []) in
    λ j. record (with_report s) { histories = c.report.ensures j; reports = pushed j; shown = c.push.ensures.shown j }

pub returns-clause-sound : goal.returns-clause-sound
returns-clause-sound c =
    let a : KeptState = c.args.self.now in
    record {
      sound = subst IsSound (sym (returns-clause-state c))
          (sound_reported (state_of a) c.requires.can (c.changed_histories_can_be_saved.ensures.reported a.histories 500 c.requires.sound.sound.saved.histories) c.requires.sound.sound);
      tallies = stand_alike _ _ a.histories c.report.new.self (λ action. ap (rows_at action) c.report.ensures ∙ rows_reported action 500 a.histories) c.requires.sound.tallies;
    }
