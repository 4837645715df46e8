-- An agent and its pocket agree over a turn, at every answer.
use Rattle.std.proofs.Common.{ℕ, ◌≡◌, ◌≤◌, List, length, Option, Some, None, sym, subst}
use Rattle.std.specs.Prelude.{IfSome, ⊤}
use Rattle.desk_base.specs.Moments.{IsMoment}
use Rattle.fix_site.specs.declared.action.Action.{Action}
use Rattle.script_run.specs.Asking.{When}
use Rattle.agent_text.specs.Histories.{AreHistories, rows_at}
use Rattle.agent_text.specs.Pockets.{Holds}
use Rattle.agent_text.specs.SavedTexts.{IsSaved}
use Rattle.agent_attempt.specs.Attempts.{PlainAttempt}
use Rattle.agent_attempt.specs.Going.{SameAttempt}
use Rattle.agent_core.specs.declared.turned.Turned.{Turned}
use Rattle.agent_state.specs.States.{HeldRuns, IsSound, State, interrupted, next_row, saved_of, text_of, with_beginning, with_histories, with_report}
use Rattle.agent_core.specs.Devices.{Devices}
use Rattle.agent_core.specs.Stops.{Agrees, HasRow}
use Rattle.agent_core.specs.Turns.{Marks, Turn}
use Rattle.agent_core.proofs.Due.{due_may}
use Rattle.agent_core.proofs.Begun.{ChangedHistories, marked_kept, saved_beginning, sound_broken}
use Rattle.agent_attempt.proofs.GoingPoints.{going_same}
use Rattle.agent_core.proofs.Holding.{after_done, after_failed, after_memory, holds_all, holds_so}
use Rattle.agent_core.proofs.RowCounts.{begun_there, held_row}
use Rattle.agent_core.proofs.SavedOnce.{own_text}
use Rattle.agent_core.proofs.Sounding.{sound_saved}
use Rattle.agent_core.proofs.TurnPoints.{Keeps, turn_keeps}

-- the text backs the attempt that is held, if one is
abbrev pub Backs : Option PlainAttempt → Option (List ℕ) → Type 0
Backs None = λ now. ⊤
Backs (Some attempt) = HasRow attempt.action.id attempt.row

pub agrees_backs : (held : Option PlainAttempt) (told : Option (Option (List ℕ))) → Agrees held told → Holds told (Backs held)
agrees_backs None told h = holds_all (λ now. ⊤) (λ now. tt) told
agrees_backs (Some attempt) told h = h

backs_agrees : (held : Option PlainAttempt) (told : Option (Option (List ℕ))) → Holds told (Backs held) → Agrees held told
backs_agrees None told h = tt
backs_agrees (Some attempt) told h = h

-- the text of a state has its rows
pub has_own : (s : State) (action number : ℕ) → IsSaved (saved_of s) → number ≤ length (rows_at action s.histories) → HasRow action number (Some (text_of s))
has_own s action number is le = (saved_of s, own_text s is, le)

pub backs_own : (s : State) → IsSound s → Backs s.held (Some (text_of s))
backs_own s is = by_held s.held is.held
  where
    by_held : (held : Option PlainAttempt) → HeldRuns held s.histories → Backs held (Some (text_of s))
    by_held None runs = tt
    by_held (Some attempt) runs = has_own s attempt.action.id attempt.row is.saved (held_row attempt s.histories is.saved.histories runs)

-- and the text that has the row of an attempt backs what is held of it
pub backs_after : (attempt : PlainAttempt) (after : Option PlainAttempt) → IfSome after (SameAttempt attempt) → (now : Option (List ℕ)) → HasRow attempt.action.id attempt.row now → Backs after now
backs_after attempt None same now h = tt
backs_after attempt (Some new) same now h = subst (λ n. HasRow new.action.id n now) (sym same.row) (subst (λ (x : Action). HasRow x.id attempt.row now) (sym same.action) h)

-- ---- the points of a turn
abbrev Backed : Option PlainAttempt → Devices → Type 0
Backed held d = Holds d.pocket.saved (Backs held)

abbrev Stood : State → Devices → Type 0
Stood s d = IsSound s × Backed s.held d

abbrev Tried : Marks → State → Devices → Type 0
Tried marks s d = Stood s d × (s.held ≡ None) × AreHistories marks.histories

abbrev Going : PlainAttempt → Devices → Type 0
Going attempt d = Holds d.pocket.saved (HasRow attempt.action.id attempt.row)

abbrev Came : State → Devices → Type 0
Came s d = IsSound s → Backed s.held d

keeps_agreed : ChangedHistories → (at : When) → IsMoment at.moment → Keeps at (λ s d. Stood s d) (λ marks s d. Tried marks s d) (λ began attempt s d. Going attempt d) (λ changed would s d. Backed s.held d) (λ a s d. Came s d)
keeps_agreed law at time = record {
  memory = λ s d a is. a.1;
  broken_done = λ s d id pocket a broken saves. after_done (Backs s.held) _ d.pocket.saved pocket.saved saves.saves (backs_own _ (sound_broken law s id at.moment time a.0 broken));
  broken_failed = λ s d id pocket a broken saves is. after_failed (Backs s.held) _ d.pocket.saved pocket.saved saves.saves a.1 (backs_own _ is);
  broken_memory = λ s d id pocket a broken saves is. after_memory (Backs s.held) (text_of (interrupted id at.moment s)) d.pocket.saved pocket.saved saves.saves a.1;
  resumes = λ s d attempt a broken held. subst (λ h. Backed h d) held a.1;
  held = λ began attempt s d component line machine after g goes. stays attempt after d (going_same at attempt _ _ _ after goes) g;
  wants = λ began attempt s d digest machine after g goes. stays attempt after d (going_same at attempt _ _ _ after goes) g;
  ends = λ began attempt s d fail note machine after g goes. holds_all (λ now. ⊤) (λ now. tt) d.pocket.saved;
  lacks = λ began attempt s d machine after g goes is. stays attempt after d (going_same at attempt _ _ _ after goes) g;
  tries = λ s d a broken held. (a, held, a.0.saved.histories);
  tested = λ marks s d action machine t may asks. t;
  marked = λ marks s d action machine t may asks. (t.0, t.1, marked_kept law marks.histories action.id at.moment time t.2 may);
  test_failed = λ marks s d action machine t asks is. t.0.1;
  test_memory = λ marks s d action machine t asks is. t.0.1;
  passed = λ marks s d action machine t asks. t;
  try_failed = λ marks s d action machine t asks is. t.0.1;
  try_memory = λ marks s d action machine t asks is. t.0.1;
  begun_done = λ marks s d action content machine pocket t due there among saves.
      let begun = with_beginning action.id at.moment (with_histories marks.histories s) in
      let good = saved_beginning law at s marks.histories action time t.0.0 t.2 among (due_may at _ action _ _ _ _ due) in
      after_done (HasRow action.id (next_row action.id marks.histories)) _ d.pocket.saved pocket.saved saves.saves (has_own begun action.id _ good (begun_there action.id at.moment marks.histories));
  begun_failed = λ marks s d action machine pocket t due among saves is. after_failed (Backs s.held) _ d.pocket.saved pocket.saved saves.saves t.0.1 (subst (λ h. Backs h (Some (text_of (with_beginning action.id at.moment (with_histories marks.histories s))))) (sym t.1) tt);
  begun_memory = λ marks s d action machine pocket t due saves is. after_memory (Backs s.held) (text_of (with_beginning action.id at.moment (with_histories marks.histories s))) d.pocket.saved pocket.saved saves.saves t.0.1;
  no_memory = λ marks s d t is. t.0.1;
  idle = λ marks s d t. t.0.1;
  reported_done = λ changed would s d pocket b can saves is. after_done (Backs s.held) _ d.pocket.saved pocket.saved saves.saves (backs_own _ is);
  reported_failed = λ changed would s d pocket b can saves is. after_failed (Backs s.held) _ d.pocket.saved pocket.saved saves.saves b (backs_own _ is);
  reported_memory = λ changed would s d pocket b can saves is. after_memory (Backs s.held) (text_of (with_report s)) d.pocket.saved pocket.saved saves.saves b;
  changed_done = λ would s d pocket b saves is. after_done (Backs s.held) _ d.pocket.saved pocket.saved saves.saves (backs_own _ is);
  changed_failed = λ would s d pocket b saves is. after_failed (Backs s.held) _ d.pocket.saved pocket.saved saves.saves b (backs_own _ is);
  changed_memory = λ would s d pocket b saves is. after_memory (Backs s.held) (text_of s) d.pocket.saved pocket.saved saves.saves b;
  unchanged = λ would s d b is. b;
}
  where
    stays : (attempt : PlainAttempt) (after : Option PlainAttempt) (d : Devices) → IfSome after (SameAttempt attempt) → Going attempt d → Backed after d
    stays attempt after d same g = holds_so (HasRow attempt.action.id attempt.row) (Backs after) (backs_after attempt after same) d.pocket.saved g

pub turn_agrees : ChangedHistories → (at : When) → IsMoment at.moment → (s s2 : State) (d d2 : Devices) (answer : Turned) → Turn at s d answer s2 d2 → IsSound s → IsSound s2 → Agrees s.held d.pocket.saved → Agrees s2.held d2.pocket.saved
turn_agrees law at time s s2 d d2 answer turn is is2 agrees =
    let backs : Backed s.held d = agrees_backs s.held d.pocket.saved agrees in
    backs_agrees s2.held d2.pocket.saved
    (turn_keeps at (λ s d. Stood s d) (λ marks s d. Tried marks s d) (λ began attempt s d. Going attempt d) (λ changed would s d. Backed s.held d) (λ a s d. Came s d) (keeps_agreed law at time) answer s2 d2 s d
    (λ e. (is, backs))
    (λ pocket saves. (sound_saved s is, after_done (Backs s.held) _ d.pocket.saved pocket.saved saves.saves (backs_own s is)))
    (λ pocket saves is. after_failed (Backs s.held) _ d.pocket.saved pocket.saved saves.saves backs (backs_own s is))
    (λ pocket saves is. after_memory (Backs s.held) (text_of s) d.pocket.saved pocket.saved saves.saves backs) turn is2)
