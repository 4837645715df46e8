-- An attempt of which a command was done in a turn is backed by the saved text after it.
use Rattle.std.proofs.Common.{ℕ, ◌≡◌, ◌+◌, ◌≤◌, List, length, inl, inr, Option, Some, None, refl, sym, ap, subst, ◌∙◌, arith}
use Rattle.std.specs.Prelude.{◌⊎◌, ◌≢◌}
use Rattle.desk_base.specs.Moments.{IsMoment}
use Rattle.bf_world.specs.declared.command.Command.{Command}
use Rattle.act_rules.specs.declared.row.Row.{Row}
use Rattle.script_run.specs.Asking.{When}
use Rattle.bf_machine.specs.Views.{MachineView}
use Rattle.agent_text.specs.Histories.{AreHistories, PlainHistory, rows_at}
use Rattle.agent_text.specs.Pockets.{Holds}
use Rattle.agent_attempt.specs.declared.found.Found.{Found}
use Rattle.agent_attempt.specs.Attempts.{PlainAttempt}
use Rattle.agent_core.specs.declared.turned.Turned.{Turned}
use Rattle.agent_state.specs.States.{HeldRuns, IsSound, State, as_saved, next_row, text_of, with_beginning, with_histories, with_report, with_unsaved}
use Rattle.agent_core.specs.Devices.{Devices}
use Rattle.agent_core.specs.Stops.{Agrees, HasRow, TurnIsBacked}
use Rattle.agent_core.specs.Turns.{Marks, Turn, outcome_of}
use Rattle.agent_core.proofs.Agreeing.{Backs, agrees_backs, backs_own, has_own}
use Rattle.agent_core.proofs.Due.{due_may}
use Rattle.agent_core.proofs.Begun.{ChangedHistories, marked_kept, saved_beginning}
use Rattle.agent_core.proofs.Holding.{after_done, after_failed, after_memory}
use Rattle.agent_attempt.specs.Relevance.{HasAsked}
use Rattle.agent_attempt.proofs.Quiet.{content_quiet, due_quiet}
use Rattle.agent_core.proofs.RowCounts.{begun_there, count_begun, count_cleared, count_ended, held_row}
use Rattle.agent_state.proofs.RowsAt.{rows_reported}
use Rattle.agent_core.proofs.Sounding.{sound_saved}
use Rattle.agent_core.proofs.TurnPoints.{Keeps, turn_keeps, with_machine, with_pocket}

-- ---- the row of a turn
-- the attempt of this action and number was held before the turn, or began in it
abbrev OfTurn : State → ℕ → ℕ → List PlainHistory → Type 0
OfTurn first action number hs =
    ((attempt : PlainAttempt) × (first.held ≡ Some attempt) × (attempt.action.id ≡ action) × (attempt.row ≡ number))
    ⊎ ((first.held ≡ None) × (number ≡ next_row action first.histories) × (length (rows_at action hs) ≡ number))

-- a row of the turn is saved, and is one of these
record Has (first : State) (hs : List PlainHistory) (told : Option (Option (List ℕ))) : Type 0 where
  action : ℕ
  number : ℕ
  of_turn : OfTurn first action number hs
  below : number ≤ length (rows_at action hs)
  saved : Holds told (HasRow action number)

abbrev SameCount : List PlainHistory → List PlainHistory → Type 0
SameCount hs new = (action : ℕ) → length (rows_at action new) ≡ length (rows_at action hs)

of_same : (first : State) (action number : ℕ) (hs new : List PlainHistory) → length (rows_at action new) ≡ length (rows_at action hs) → OfTurn first action number hs → OfTurn first action number new
of_same first action number hs new same (inl h) = inl h
of_same first action number hs new same (inr h) = inr (h.0, h.1, same ∙ h.2)

has_same : (first : State) (hs new : List PlainHistory) (told : Option (Option (List ℕ))) → SameCount hs new → Has first hs told → Has first new told
has_same first hs new told same has =
    let count = same has.action in
    let below = has.below in
    record {
      action = has.action;
      number = has.number;
      of_turn = of_same first has.action has.number hs new count has.of_turn;
      below = omega (arith, count, below);
      saved = has.saved;
    }

-- the state that has the row was saved
has_saved : (first s : State) (old new : Option (Option (List ℕ))) → ((P : Option (List ℕ) → Type 0) → Holds old P → P (Some (text_of s)) → Holds new P) → IsSound s → Has first s.histories old → Has first s.histories new
has_saved first s old new saves is has = record {
  action = has.action;
  number = has.number;
  of_turn = has.of_turn;
  below = has.below;
  saved = saves (HasRow has.action has.number) has.saved (has_own s has.action has.number is.saved has.below);
}

-- ---- the points of a turn
abbrev Calm : Option (List Command) → Devices → Type 0
Calm acted d = d.machine.acted ≡ acted

record Stood (acted : Option (List Command)) (first s : State) (d : Devices) : Type 0 where
  sound : IsSound s
  backs : Holds d.pocket.saved (Backs s.held)
  held : s.held ≡ first.held
  histories : s.histories ≡ first.histories
  calm : Calm acted d

record Tried (acted : Option (List Command)) (first : State) (marks : Marks) (s : State) (d : Devices) : Type 0 where
  sound : IsSound s
  none : first.held ≡ None
  marked : AreHistories marks.histories
  count : SameCount first.histories marks.histories
  calm : Calm acted d

abbrev Ended_ : Option (List Command) → State → State → Devices → Type 0
Ended_ acted first s d = Calm acted d ⊎ Has first s.histories d.pocket.saved

abbrev Came : Option (List Command) → State → State → Devices → Type 0
Came acted first s d = IsSound s → d.machine.acted ≢ acted → TurnIsBacked first s d.pocket.saved

-- after the last save
came_saved : (acted : Option (List Command)) (first s now : State) (d new : Devices) → new.machine.acted ≡ d.machine.acted → SameCount s.histories now.histories
    → ((P : Option (List ℕ) → Type 0) → Holds d.pocket.saved P → P (Some (text_of now)) → Holds new.pocket.saved P) → Ended_ acted first s d → Came acted first now new
came_saved acted first s now d new quiet same saves (inl calm) is moved = absurd (moved (quiet ∙ calm))
came_saved acted first s now d new quiet same saves (inr has) is moved =
    let then = has_saved first now d.pocket.saved new.pocket.saved saves is (has_same first s.histories now.histories d.pocket.saved same has) in
    (then.action, then.number, then.of_turn, then.saved)

asked : {acted : Option (List Command)} {first s : State} {marks : Marks} {d : Devices} (f : Found) (machine : MachineView) → Tried acted first marks s d → HasAsked d.machine f machine → Tried acted first marks s (with_machine machine d)
asked f machine t quiet = record { sound = t.sound; none = t.none; marked = t.marked; count = t.count; calm = quiet.only.acted ∙ t.calm }

keeps_backed : ChangedHistories → (at : When) → IsMoment at.moment → (acted : Option (List Command)) (first : State) →
    Keeps at (λ s d. Stood acted first s d) (λ marks s d. Tried acted first marks s d) (λ began attempt s d. Has first s.histories d.pocket.saved) (λ changed would s d. Ended_ acted first s d) (λ a s d. Came acted first s d)
keeps_backed law at time acted first = record {
  memory = λ s d a is moved. absurd (moved a.calm);
  broken_done = λ s d id pocket a broken saves. inl a.calm;
  broken_failed = λ s d id pocket a broken saves is moved. absurd (moved a.calm);
  broken_memory = λ s d id pocket a broken saves is moved. absurd (moved a.calm);
  resumes = λ s d attempt a broken held. record {
    action = attempt.action.id;
    number = attempt.row;
    of_turn = inl (attempt, sym a.held ∙ held, refl, refl);
    below = held_row attempt s.histories a.sound.saved.histories (subst (λ h. HeldRuns h s.histories) held a.sound.held);
    saved = subst (λ h. Holds d.pocket.saved (Backs h)) held a.backs;
  };
  held = λ began attempt s d component line machine after g goes. inr g;
  wants = λ began attempt s d digest machine after g goes. inr g;
  ends = λ began attempt s d fail note machine after g goes.
      inr (has_same first s.histories _ d.pocket.saved (λ of. count_ended of attempt.action.id at.moment (outcome_of fail) note s.histories) g);
  lacks = λ began attempt s d machine after g goes is moved. (g.action, g.number, g.of_turn, g.saved);
  tries = λ s d a broken held. record {
    sound = a.sound;
    none = sym a.held ∙ held;
    marked = a.sound.saved.histories;
    count = λ of. ap (λ hs. length (rows_at of hs)) a.histories;
    calm = a.calm;
  };
  tested = λ marks s d action machine t may asks. asked _ machine t (content_quiet at _ d.machine _ machine asks);
  marked = λ marks s d action machine t may asks. record {
    sound = t.sound;
    none = t.none;
    marked = marked_kept law marks.histories action.id at.moment time t.marked may;
    count = λ of. count_cleared of action.id at.moment marks.histories ∙ t.count of;
    calm = (content_quiet at _ d.machine _ machine asks).only.acted ∙ t.calm;
  };
  test_failed = λ marks s d action machine t asks is moved. absurd (moved ((content_quiet at _ d.machine _ machine asks).only.acted ∙ t.calm));
  test_memory = λ marks s d action machine t asks is moved. absurd (moved ((content_quiet at _ d.machine _ machine asks).only.acted ∙ t.calm));
  passed = λ marks s d action machine t asks. asked _ machine t (due_quiet at _ action _ _ d.machine _ machine asks);
  try_failed = λ marks s d action machine t asks is moved. absurd (moved ((due_quiet at _ action _ _ d.machine _ machine asks).only.acted ∙ t.calm));
  try_memory = λ marks s d action machine t asks is moved. absurd (moved ((due_quiet at _ action _ _ d.machine _ machine asks).only.acted ∙ t.calm));
  begun_done = λ marks s d action content machine pocket t due there among saves.
      let begun = with_beginning action.id at.moment (with_histories marks.histories s) in
      let good = saved_beginning law at s marks.histories action time t.sound t.marked among (due_may at _ action _ _ _ _ due) in
      record {
        action = action.id;
        number = next_row action.id marks.histories;
        of_turn = inr (t.none, ap (λ n. n + 1) (t.count action.id), count_begun action.id at.moment marks.histories);
        below = begun_there action.id at.moment marks.histories;
        saved = after_done (HasRow action.id (next_row action.id marks.histories)) _ d.pocket.saved pocket.saved saves.saves (has_own begun action.id _ good (begun_there action.id at.moment marks.histories));
      };
  begun_failed = λ marks s d action machine pocket t due among saves is moved. absurd (moved ((due_quiet at _ action _ _ d.machine _ machine due).only.acted ∙ t.calm));
  begun_memory = λ marks s d action machine pocket t due saves is moved. absurd (moved ((due_quiet at _ action _ _ d.machine _ machine due).only.acted ∙ t.calm));
  no_memory = λ marks s d t is moved. absurd (moved t.calm);
  idle = λ marks s d t. inl t.calm;
  reported_done = λ changed would s d pocket b can saves. came_saved acted first s (as_saved (with_report s)) d (with_pocket pocket d) refl (reported s) (λ P old now. after_done P _ d.pocket.saved pocket.saved saves.saves now) b;
  reported_failed = λ changed would s d pocket b can saves. came_saved acted first s (with_unsaved (with_report s)) d (with_pocket pocket d) refl (reported s) (λ P old now. after_failed P _ d.pocket.saved pocket.saved saves.saves old now) b;
  reported_memory = λ changed would s d pocket b can saves. came_saved acted first s (with_unsaved (with_report s)) d (with_pocket pocket d) refl (reported s) (λ P old now. after_memory P (text_of (with_report s)) d.pocket.saved pocket.saved saves.saves old) b;
  changed_done = λ would s d pocket b saves. came_saved acted first s (as_saved s) d (with_pocket pocket d) refl (λ of. refl) (λ P old now. after_done P _ d.pocket.saved pocket.saved saves.saves now) b;
  changed_failed = λ would s d pocket b saves. came_saved acted first s (with_unsaved s) d (with_pocket pocket d) refl (λ of. refl) (λ P old now. after_failed P _ d.pocket.saved pocket.saved saves.saves old now) b;
  changed_memory = λ would s d pocket b saves. came_saved acted first s (with_unsaved s) d (with_pocket pocket d) refl (λ of. refl) (λ P old now. after_memory P (text_of s) d.pocket.saved pocket.saved saves.saves old) b;
  unchanged = λ would s d b. unsaved s d b;
}
  where
    reported : (s : State) → SameCount s.histories (with_report s).histories
    reported s of = ap (λ (l : List Row). length l) (rows_reported of 500 s.histories)

    unsaved : (s : State) (d : Devices) → Ended_ acted first s d → Came acted first s d
    unsaved s d (inl calm) is moved = absurd (moved calm)
    unsaved s d (inr has) is moved = (has.action, has.number, has.of_turn, has.saved)

pub turn_backed : ChangedHistories → (at : When) → IsMoment at.moment → (s s2 : State) (d d2 : Devices) (answer : Turned) → Turn at s d answer s2 d2 → IsSound s → IsSound s2 → Agrees s.held d.pocket.saved
    → d2.machine.acted ≢ d.machine.acted → TurnIsBacked s s2 d2.pocket.saved
turn_backed law at time s s2 d d2 answer turn is is2 agrees moved =
    let acted = d.machine.acted in
    let backs = agrees_backs s.held d.pocket.saved agrees in
    turn_keeps at (λ x d. Stood acted s x d) (λ marks x d. Tried acted s marks x d) (λ began attempt x d. Has s x.histories d.pocket.saved) (λ changed would x d. Ended_ acted s x d) (λ a x d. Came acted s x d)
    (keeps_backed law at time acted s) answer s2 d2 s d
    (λ e. record { sound = is; backs = backs; held = refl; histories = refl; calm = refl })
    (λ pocket saves. record { sound = sound_saved s is; backs = after_done (Backs s.held) _ d.pocket.saved pocket.saved saves.saves (backs_own s is); held = refl; histories = refl; calm = refl })
    (λ pocket saves is moved. absurd (moved refl)) (λ pocket saves is moved. absurd (moved refl)) turn is2 moved
