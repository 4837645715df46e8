-- The state of a turn stays one that can be saved: a broken attempt ends, marks are made, and an action begins.
use Rattle.std.proofs.Common.{ℕ, ◌≡◌, ◌+◌, ◌<◌, ◌^◌, ℤ, List, Bool, true, false, length, refl, Option, Some, None}
use Rattle.std.specs.Prelude.{Contains, IfSome, IsSomeAnd, ◌&&◌, is_some, is_none}
use Rattle.std.proofs.lemmas.List.Elements.{All-contains}
use Rattle.desk_base.specs.Moments.{IsMoment}
use Rattle.line_forms.specs.Numbers.{IsId}
use Rattle.act_rules.specs.declared.row.Note.{Note}
use Rattle.act_rules.specs.declared.row.Outcome.{Outcome}
use Rattle.act_rules.specs.declared.row.Outcome.TheVariants.{Interrupted}
use Rattle.act_rules.specs.declared.row.Row.{Row}
use Rattle.act_rules.specs.Rows.{HasEnded, HasMoments, last_row}
use Rattle.fix_site.specs.declared.action.Action.{Action}
use Rattle.act_rules.specs.Notes.{no_note}
use Rattle.script_run.specs.Asking.{When}
use Rattle.agent_text.specs.Histories.{AreHistories, PlainHistory, rows_at, with_begun, with_cleared, with_ended}
use Rattle.agent_text.specs.SavedRows.{IsSavedNote, IsSavedRow}
use Rattle.agent_text.specs.SavedTexts.{IsSaved}
use Rattle.agent_attempt.specs.ActionContents.{actions_of}
use Rattle.agent_attempt.specs.Relevance.{MayBegin}
use Rattle.agent_state.specs.States.{IsSound, State, broken_action, interrupted, new_row, next_row, saved_of, with_beginning, with_histories}
use Rattle.agent_core.specs.Turns.{may_clear}
use Rattle.agent_core.proofs.Due.{owed_ended}
use Rattle.agent_core.proofs.GatheredIds.{gathered_ids}
use Rattle.agent_core.proofs.Sounding.{broken_runs, sound_ended}

-- the laws of histories that change
pub record ChangedHistories : Type 0 where
  pub begun : (hs : List PlainHistory) (action : ℕ) (row : Row) → AreHistories hs → IsId action → IfSome (last_row (rows_at action hs)) HasEnded → length (rows_at action hs) + 1 < 2 ^ 32
      → row.number ≡ length (rows_at action hs) + 1 → HasMoments row → IsSavedRow row → AreHistories (with_begun action row hs)
  pub ended : (hs : List PlainHistory) (action : ℕ) (moment : ℤ) (outcome : Outcome) (note : Note) → AreHistories hs → IsMoment moment → IsSomeAnd (last_row (rows_at action hs)) (λ row. row.end ≡ None)
      → IsSavedNote outcome note → AreHistories (with_ended action moment outcome note hs)
  pub cleared : (hs : List PlainHistory) (action : ℕ) (moment : ℤ) → AreHistories hs → IsMoment moment → IsSomeAnd (last_row (rows_at action hs)) HasEnded → AreHistories (with_cleared action moment hs)

-- ---- a broken attempt
pub sound_broken : ChangedHistories → (s : State) (id : ℕ) (moment : ℤ) → IsMoment moment → IsSound s → broken_action s ≡ Some id → IsSound (interrupted id moment s)
sound_broken law s id moment time is broken =
    let runs = broken_runs s id is broken in
    sound_ended law.ended s id moment Interrupted no_note time runs.0 refl runs.1 is

-- ---- marks
both_left : (a b : Bool) → (a && b) ≡ true → a ≡ true
both_left true b e = refl
both_left false b e = e

may_ended : (o : Option Row) → may_clear o ≡ true → IsSomeAnd o HasEnded
may_ended None e = absurd (cc)
may_ended (Some row) e = both_left (is_some row.end) (is_none row.cleared) e

pub marked_kept : ChangedHistories → (hs : List PlainHistory) (action : ℕ) (moment : ℤ) → IsMoment moment → AreHistories hs → may_clear (last_row (rows_at action hs)) ≡ true → AreHistories (with_cleared action moment hs)
marked_kept law hs action moment time are may = law.cleared hs action moment are time (may_ended (last_row (rows_at action hs)) may)

-- ---- a beginning
pub saved_beginning : ChangedHistories → (at : When) (s : State) (hs : List PlainHistory) (action : Action) → IsMoment at.moment → IsSound s → AreHistories hs → Contains (actions_of s.sites) action
    → MayBegin at action (rows_at action.id hs) → IsSaved (saved_of (with_beginning action.id at.moment (with_histories hs s)))
saved_beginning law at s hs action time is are among may = record {
  computer = is.saved.computer;
  next = is.saved.next;
  histories = law.begun hs action.id (new_row (next_row action.id hs) at.moment) are (All-contains (λ (a : Action). IsId a.id) (actions_of s.sites) action (gathered_ids s.sites is.sites) among)
      (owed_ended action.rules (rows_at action.id hs) at.moment may.owed) may.few refl (time, tt, tt) (refl, refl);
  reports = is.saved.reports;
}
