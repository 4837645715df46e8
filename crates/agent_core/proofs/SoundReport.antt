-- A state with a report more stays sound.
use Rattle.std.proofs.Common.{ℕ, ◌≡◌, List, length-append, true, refl, sym, subst, arith, Some, None}
use Rattle.std.specs.declared.option.Option.{Option}
use Rattle.std.specs.Prelude.{◌∷◌, [], IsSomeAnd}
use Rattle.act_rules.specs.declared.row.Row.{Row}
use Rattle.act_rules.specs.Rows.{last_row}
use Rattle.agent_text.specs.Histories.{AreHistories, PlainHistory, with_reported}
use Rattle.agent_attempt.specs.Attempts.{PlainAttempt}
use Rattle.agent_state.specs.States.{HeldRuns, IsSound, State, can_report, next_report, with_report}
use Rattle.agent_core.proofs.Reporting.{can_room, outbox_with, told_are}
use Rattle.agent_state.proofs.RowsAt.{rows_reported}

held_reported : (held : Option PlainAttempt) (most : ℕ) (hs : List PlainHistory) → HeldRuns held hs → HeldRuns held (with_reported most hs)
held_reported None most hs runs = tt
held_reported (Some attempt) most hs runs =
    subst (λ (rows : List Row). IsSomeAnd (last_row rows) (λ row. (row.end ≡ None) × (row.number ≡ attempt.row))) (sym (rows_reported attempt.action.id most hs)) runs

pub sound_reported : (s : State) → can_report s ≡ true → AreHistories (with_reported 500 s.histories) → IsSound s → IsSound (with_report s)
sound_reported s can kept is =
    let room = can_room s can in
    let saved = is.saved in
    let report = next_report s in
    record {
      saved = record {
        computer = saved.computer;
        next = (omega arith, omega (arith, room.1));
        histories = kept;
        reports = outbox_with s.computer s.next s.reports report room.0 (record { computer = saved.computer; seq = saved.next; rows = told_are s.histories saved.histories }) refl refl saved.reports;
      };
      shown = omega (arith, is.shown, length-append s.reports (report ∷ []));
      held = held_reported s.held 500 s.histories is.held;
      sites = is.sites;
    }
