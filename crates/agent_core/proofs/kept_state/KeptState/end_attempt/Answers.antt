use Rattle.std.proofs.Common.{◌≡◌, ℤ, FitsSigned, w64, ap, sym, subst, ◌∙◌}
use Rattle.std.proofs.lemmas.Int.{to_z-of_z}
use Rattle.agent_text.specs.Histories.{rows_at, with_ended}
use Rattle.agent_attempt.specs.ActionContents.{actions_of}
use Rattle.desk_base.specs.Moments.{IsMoment}
use Rattle.agent_core.specs.declared.kept_state.KeptState.{KeptState}
use Rattle.agent_core.specs.Inside.{state_of}
use Rattle.agent_state.specs.States.{IsSound, State, with_histories}
use Rattle.agent_core.proofs.Sounding.{sound_ended}
use Rattle.agent_core.proofs.Standing.{stand_alike}
use Rattle.agent_core.proofs.kept_state.KeptState.end_attempt.Goals as goal

pub returns-clause-state : goal.returns-clause-state
returns-clause-state c =
    let a : KeptState = c.args.self.now in
    let fits : FitsSigned w64 c.moment.result = record { sfits = c.moment.type_inv } in
    let ended : c.end.new.self ≡ with_ended c.args.id c.moment.result c.args.outcome c.args.note a.histories = simp to_z-of_z at c.end.ensures in
    λ j. with_histories ((ended ∙ (λ i. with_ended c.args.id (c.moment.ensures.value i) c.args.outcome c.args.note a.histories)) j) (state_of a)

pub returns-clause-sound : goal.returns-clause-sound
returns-clause-sound c =
    let a : KeptState = c.args.self.now in
    let moment : ℤ = c.args.time.now.moment in
    let time : IsMoment moment = subst IsMoment c.moment.ensures.value c.moment.ensures.moment in
    let are = c.requires.sound.sound.saved.histories in
    let ended = with_ended c.args.id moment c.args.outcome c.args.note a.histories in
    let hs : c.end.new.self ≡ ended = ap (λ (s : State). s.histories) (returns-clause-state c) in
    record {
      sound = subst IsSound (sym (returns-clause-state c))
          (sound_ended c.changed_histories_can_be_saved.ensures.ended (state_of a) c.args.id moment c.args.outcome c.args.note time c.requires.running c.requires.note c.requires.free c.requires.sound.sound);
      tallies = stand_alike _ _ ended c.end.new.self (λ action. ap (rows_at action) hs)
          (c.end-2.ensures (actions_of a.sites) a.histories moment c.args.note are c.requires.running c.requires.sound.tallies);
    }
