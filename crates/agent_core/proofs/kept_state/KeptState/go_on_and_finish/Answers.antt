use Rattle.std.proofs.Common.{◌≡◌, ap, sym, subst, ◌∙◌, Some, None}
use Rattle.std.specs.Prelude.{IsSomeAnd}
use Rattle.std.specs.Option.{option_map}
use Rattle.act_rules.specs.declared.row.Row.{Row}
use Rattle.act_rules.specs.Rows.{last_row}
use Rattle.bf_machine.specs.Views.{MachineView}
use Rattle.agent_text.specs.SavedRows.{IsSavedNote}
use Rattle.agent_text.specs.Histories.{rows_at, with_ended}
use Rattle.agent_attempt.specs.Attempts.{PlainAttempt}
use Rattle.agent_attempt.specs.Going.{HasNote}
use Rattle.agent_attempt.specs.Stages.{shown_attempt}
use Rattle.agent_core.specs.declared.kept_state.KeptState.{KeptState}
use Rattle.agent_core.specs.declared.turned.Turned.TheVariants.{Ended, Held, Memory, Wants}
use Rattle.agent_core.specs.Inside.{state_of}
use Rattle.agent_state.specs.States.{State, is_of_another, with_end, with_histories, with_held}
use Rattle.agent_core.specs.Devices.{devices}
use Rattle.agent_core.specs.Turns.{TurnGoesOn, outcome_of}
use Rattle.agent_core.proofs.Flowing.{finishes_as, goes_ended, goes_held, goes_memory, goes_wants}
use Rattle.agent_core.proofs.HeldAttempt.{held_runs, runs_on, waits_as}
use Rattle.agent_core.proofs.Sounding.{sound_held}
use Rattle.agent_core.proofs.Sufficing.{suffices_ended, suffices_held}
use Rattle.agent_core.proofs.kept_state.KeptState.go_on_and_finish.Goals as goal

-- ---- the attempt is held again
pub finish-requires-clause-sound : goal.finish-requires-clause-sound
finish-requires-clause-sound g c =
    let a : KeptState = c.args.self.now in
    record {
      sound = sound_held (shown_attempt c.go_on.new.self) (state_of a) (runs_on (shown_attempt c.args.attempt) (shown_attempt c.go_on.new.self) a.histories c.go_on.ensures.same c.requires.can.runs) c.requires.can.sound.sound;
      tallies = c.requires.can.sound.tallies;
    }

pub finish-requires-clause-spare : goal.finish-requires-clause-spare
finish-requires-clause-spare g c = suffices_held c.args.spare c.args.self.now (Some c.go_on.new.self) c.requires.spare

pub returns-in-Held-clause-goes : goal.returns-in-Held-clause-goes
returns-in-Held-clause-goes g c s e =
    let began : MachineView = g.M.Machine.told c.args.machine.now in
    let now : MachineView = g.M.Machine.told c.go_on.new.machine in
    let old = g.P.Pocket.told c.args.pocket.now in
    let new = g.P.Pocket.told c.finish.new.pocket in
    let attempt : PlainAttempt = shown_attempt c.args.attempt in
    let after : PlainAttempt = shown_attempt c.go_on.new.self in
    goes_held c.args.time.now c.args.began attempt after s (devices began old) c.go_on.result c.in-Held.component c.in-Held.line now c.finish.result (state_of c.finish.new.self) (devices now new) c.in-Held.is c.go_on.ensures.goes
    (finishes_as _ _ _ (with_held (Some after) s) _ _ _ _ _ (λ j. Held (c.action_id-id.ensures j) c.args.began c.in-Held.component c.in-Held.line) (ap (with_held (Some after)) (sym e)) (c.finish.ensures.finishes now))

pub returns-in-Held-clause-sound : goal.returns-in-Held-clause-sound
returns-in-Held-clause-sound g c = record {
  sound = c.finish.ensures.sound;
  waits = waits_as _ _ (Some (shown_attempt c.go_on.new.self)) c.finish.ensures.held c.go_on.ensures.waits;
}

pub finish-requires-in-Wants-clause-sound : goal.finish-requires-in-Wants-clause-sound
finish-requires-in-Wants-clause-sound g c =
    let a : KeptState = c.args.self.now in
    record {
      sound = sound_held (shown_attempt c.go_on.new.self) (state_of a) (runs_on (shown_attempt c.args.attempt) (shown_attempt c.go_on.new.self) a.histories c.go_on.ensures.same c.requires.can.runs) c.requires.can.sound.sound;
      tallies = c.requires.can.sound.tallies;
    }

pub finish-requires-in-Wants-clause-spare : goal.finish-requires-in-Wants-clause-spare
finish-requires-in-Wants-clause-spare g c = suffices_held c.args.spare c.args.self.now (Some c.go_on.new.self) c.requires.spare

pub returns-in-Wants-clause-goes : goal.returns-in-Wants-clause-goes
returns-in-Wants-clause-goes g c s e =
    let began : MachineView = g.M.Machine.told c.args.machine.now in
    let now : MachineView = g.M.Machine.told c.go_on.new.machine in
    let old = g.P.Pocket.told c.args.pocket.now in
    let new = g.P.Pocket.told c.finish-in-Wants.new.pocket in
    let attempt : PlainAttempt = shown_attempt c.args.attempt in
    let after : PlainAttempt = shown_attempt c.go_on.new.self in
    goes_wants c.args.time.now c.args.began attempt after s (devices began old) c.go_on.result c.in-Wants.digest now c.finish-in-Wants.result (state_of c.finish-in-Wants.new.self) (devices now new) c.in-Wants.is c.go_on.ensures.goes
    (finishes_as _ _ _ (with_held (Some after) s) _ _ _ _ _ (λ j. Wants (c.action_id-id.ensures j) c.args.began c.in-Wants.digest) (ap (with_held (Some after)) (sym e)) (c.finish-in-Wants.ensures.finishes now))

pub returns-in-Wants-clause-sound : goal.returns-in-Wants-clause-sound
returns-in-Wants-clause-sound g c = record {
  sound = c.finish-in-Wants.ensures.sound;
  waits = waits_as _ _ (Some (shown_attempt c.go_on.new.self)) c.finish-in-Wants.ensures.held c.go_on.ensures.waits;
}

pub returns-in-Memory-clause-goes : goal.returns-in-Memory-clause-goes
returns-in-Memory-clause-goes g c s e =
    let began : MachineView = g.M.Machine.told c.args.machine.now in
    let now : MachineView = g.M.Machine.told c.go_on.new.machine in
    let old = g.P.Pocket.told c.args.pocket.now in
    let attempt : PlainAttempt = shown_attempt c.args.attempt in
    let after : PlainAttempt = shown_attempt c.go_on.new.self in
    subst (λ (x : State). TurnGoesOn c.args.time.now c.args.began attempt s (devices began old) Memory x (devices now old)) (ap (with_held (Some after)) e) (goes_memory c.args.time.now c.args.began attempt after s (devices began old) c.go_on.result now c.in-Memory.is c.go_on.ensures.goes)

pub returns-in-Memory-clause-sound : goal.returns-in-Memory-clause-sound
returns-in-Memory-clause-sound g c =
    let a : KeptState = c.args.self.now in
    record {
      sound = record {
        sound = sound_held (shown_attempt c.go_on.new.self) (state_of a) (runs_on (shown_attempt c.args.attempt) (shown_attempt c.go_on.new.self) a.histories c.go_on.ensures.same c.requires.can.runs) c.requires.can.sound.sound;
        tallies = c.requires.can.sound.tallies;
      };
      waits = c.go_on.ensures.waits;
    }

-- ---- it has ended
pub end_attempt-requires-clause-running : goal.end_attempt-requires-clause-running
end_attempt-requires-clause-running g c =
    let a : KeptState = c.args.self.now in
    subst (λ id. IsSomeAnd (last_row (rows_at id a.histories)) (λ (row : Row). row.end ≡ None)) (sym c.action_id-id.ensures) (held_runs (shown_attempt c.args.attempt) a.histories c.requires.can.runs)

pub end_attempt-requires-clause-free : goal.end_attempt-requires-clause-free
end_attempt-requires-clause-free g c = ap (λ o. is_of_another c.action_id-id.result (option_map shown_attempt o)) c.requires.can.free

pub note_fits-requires : goal.note_fits-requires
note_fits-requires g c = subst HasNote c.in-Ended.is c.go_on.ensures.note

pub end_attempt-requires-clause-note : goal.end_attempt-requires-clause-note
end_attempt-requires-clause-note g c = subst (λ o. IsSavedNote o c.in-Ended.note) (sym c.outcome_of-outcome.ensures) c.note_fits.ensures

pub finish-requires-in-Ended-clause-spare : goal.finish-requires-in-Ended-clause-spare
finish-requires-in-Ended-clause-spare g c =
    let a : KeptState = c.args.self.now in
    let running = subst (λ id. IsSomeAnd (last_row (rows_at id a.histories)) (λ (row : Row). row.end ≡ None)) (sym c.action_id-id.ensures) (held_runs (shown_attempt c.args.attempt) a.histories c.requires.can.runs) in
    suffices_ended c.args.spare a c.end_attempt.new.self c.action_id-id.result c.args.time.now.moment c.outcome_of-outcome.result c.in-Ended.note (λ (row : Row). row.end ≡ None) c.requires.can.sound running c.end_attempt.ensures.state c.end_attempt.ensures.room c.requires.spare

pub returns-in-Ended-clause-goes : goal.returns-in-Ended-clause-goes
returns-in-Ended-clause-goes g c s e =
    let began : MachineView = g.M.Machine.told c.args.machine.now in
    let now : MachineView = g.M.Machine.told c.go_on.new.machine in
    let old = g.P.Pocket.told c.args.pocket.now in
    let new = g.P.Pocket.told c.finish-in-Ended.new.pocket in
    let attempt : PlainAttempt = shown_attempt c.args.attempt in
    let after : PlainAttempt = shown_attempt c.go_on.new.self in
    let fail = c.in-Ended.fail in
    let note = c.in-Ended.note in
    let moment = c.args.time.now.moment in
    goes_ended c.args.time.now c.args.began attempt after s (devices began old) c.go_on.result fail note now c.finish-in-Ended.result (state_of c.finish-in-Ended.new.self) (devices now new) c.in-Ended.is c.go_on.ensures.goes
    (finishes_as _ _ _ (with_end attempt.action.id moment (outcome_of fail) note s) _ _ _ _ _ (λ j. Ended (c.action_id-id.ensures j) c.args.began (c.outcome_of-outcome.ensures j) fail)
    (c.end_attempt.ensures.state ∙ (λ j. with_histories (with_ended (c.action_id-id.ensures j) moment (c.outcome_of-outcome.ensures j) note (sym e j).histories) (sym e j))) (c.finish-in-Ended.ensures.finishes now))

pub returns-in-Ended-clause-sound : goal.returns-in-Ended-clause-sound
returns-in-Ended-clause-sound g c =
    let held = λ (s : State). s.held in
    record {
      sound = c.finish-in-Ended.ensures.sound;
      waits = waits_as _ _ None (c.finish-in-Ended.ensures.held ∙ ap held c.end_attempt.ensures.state ∙ ap (option_map shown_attempt) c.requires.can.free) tt;
    }
