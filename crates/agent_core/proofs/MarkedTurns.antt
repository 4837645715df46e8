-- Marks that are made in place: what a turn comes to with them, and without them.
use Rattle.std.proofs.Common.{ℕ, ◌≡◌, List, [], ◌∷◌, Bool, true, false, inl, inr, refl, sym, ap, subst, ◌∙◌, None, Some, Ok, Err}
use Rattle.std.specs.declared.option.Option.{Option}
use Rattle.std.specs.declared.result.Result.{Result}
use Rattle.std.specs.Option.{option_map}
use Rattle.fix_site.specs.declared.action.Action.{Action}
use Rattle.script_run.specs.Asking.{When}
use Rattle.bf_machine.specs.Views.{MachineView}
use Rattle.agent_text.specs.Befores.{PlainBefore}
use Rattle.agent_text.specs.Histories.{AreHistories, PlainHistory}
use Rattle.agent_text.specs.Pockets.{PocketView}
use Rattle.agent_attempt.specs.declared.found.Found.{Found}
use Rattle.agent_attempt.specs.declared.found.Found.TheVariants.{Yes, No, Failed, Memory as FoundMemory}
use Rattle.agent_attempt.specs.ActionContents.{actions_of, content_of}
use Rattle.agent_attempt.specs.Relevance.{ContentIs}
use Rattle.agent_attempt.specs.Attempts.{PlainAttempt}
use Rattle.agent_attempt.specs.Stages.{AttemptState, shown_attempt}
use Rattle.agent_state.specs.States.{State, with_histories}
use Rattle.agent_core.specs.declared.clearing.Marked.{Marked}
use Rattle.agent_core.specs.declared.kept_state.KeptState.{KeptState}
use Rattle.agent_core.specs.declared.turned.Turned.{Turned}
use Rattle.agent_core.specs.declared.turned.Turned.TheVariants.{Idle}
use Rattle.agent_core.specs.Devices.{Devices, devices}
use Rattle.agent_core.specs.Inside.{AreSoundOn, IsSoundKept, state_of}
use Rattle.agent_core.specs.Marked.{AreBefore, Covers, UndoneSame, undone}
use Rattle.agent_core.specs.Marking.{AreMarksOf, HasMarks, StopsMarks, unmarked_state}
use Rattle.agent_core.specs.Saving.{OrMemory}
use Rattle.agent_core.specs.Steps.{AnswersTry, AreMarked, BeginsAs, FindsAfter, FindsDue, MakesMarks, MarksAfter, MarksEach, TestsMark, marked_by}
use Rattle.agent_core.specs.Turns.{Finishes, Marks, Tries}
use Rattle.agent_core.proofs.HeldAttempt.{none_shown, waits_as}
use Rattle.agent_core.proofs.Keeping.{sound_with, standing_marked, standing_unmarked}
use Rattle.agent_core.proofs.PuttingBack.{undone_marks}
use Rattle.agent_core.proofs.Searching.{ComesTo, tries_marked, tries_stopped}
use Rattle.agent_core.proofs.Starting.{begins_or}
use Rattle.agent_core.proofs.Unmarked.{none_may, unmarked_each}

-- ---- marks are made by the state's sites alone
module _ (at : When) (s t : State) (same : s.sites ≡ t.sites) where
  tests_for : (may : Bool) (action : Action) (old : MachineView) (mark : Result Bool Turned) (new : MachineView) → TestsMark may at s action old mark new → TestsMark may at t action old mark new
  tests_for false action old mark new h = h
  tests_for true action old mark new h = (h.0, subst (λ x. ContentIs at (content_of action x) old h.0 new) same h.1, h.2)

  after_for : (mark : Result Bool Turned) (actions : List Action) (id : ℕ) (marks : Marks) (between : MachineView) (answer : Result Bool Turned) (hs : List PlainHistory) (new : MachineView)
      → ((b : Bool) → MarksEach at s actions (marked_by at id b marks) between answer hs new → MarksEach at t actions (marked_by at id b marks) between answer hs new)
      → MarksAfter (λ (is : Bool). MarksEach at s actions (marked_by at id is marks)) mark between answer hs new → MarksAfter (λ (is : Bool). MarksEach at t actions (marked_by at id is marks)) mark between answer hs new
  after_for (Ok b) actions id marks between answer hs new further h = further b h
  after_for (Err stop) actions id marks between answer hs new further h = h

  each_for : (actions : List Action) (marks : Marks) (old : MachineView) (answer : Result Bool Turned) (hs : List PlainHistory) (new : MachineView) → MarksEach at s actions marks old answer hs new → MarksEach at t actions marks old answer hs new
  each_for [] marks old answer hs new h = h
  each_for (action ∷ actions) marks old answer hs new h = (
    h.0,
    h.1,
    tests_for _ action old h.0 h.1 h.2,
    after_for h.0 actions action.id marks h.1 answer hs new (λ b k. each_for actions (marked_by at action.id b marks) h.1 answer hs new k) h.3,
  )

  pub makes_for : (actions : List Action) (hs : List PlainHistory) (old : MachineView) (answer : Result Bool Turned) (now : List PlainHistory) (new : MachineView) → MakesMarks at s actions hs old answer now new → MakesMarks at t actions hs old answer now new
  makes_for actions hs old answer now new h = record { marks = each_for actions (record { histories = hs; any = false }) old answer now new h.marks; marked = h.marked; good = h.good }

-- ---- what is tried doesn't hang on the state's own histories
module _ (at : When) (s : State) (hs : List PlainHistory) where
  try_for : (action : Action) (found : Found) (answer : Result (Option AttemptState) Turned) → AnswersTry at (with_histories hs s) (with_histories hs s) action found answer → AnswersTry at s (with_histories hs s) action found answer
  try_for action Yes answer h = h
  try_for action No answer h = h
  try_for action Failed answer h = h
  try_for action FoundMemory answer h = h

  further_for : (one : Result (Option AttemptState) Turned) (actions : List Action) (between : MachineView) (answer : Result (Option AttemptState) Turned) (new : MachineView)
      → (FindsDue at (with_histories hs s) hs actions between answer new → FindsDue at s hs actions between answer new)
      → FindsAfter (FindsDue at (with_histories hs s) hs actions) one between answer new → FindsAfter (FindsDue at s hs actions) one between answer new
  further_for (Ok None) actions between answer new further h = further h
  further_for (Ok (Some attempt)) actions between answer new further h = h
  further_for (Err stop) actions between answer new further h = h

  pub finds_for : (actions : List Action) (old : MachineView) (answer : Result (Option AttemptState) Turned) (new : MachineView) → FindsDue at (with_histories hs s) hs actions old answer new → FindsDue at s hs actions old answer new
  finds_for [] old answer new h = h
  finds_for (action ∷ actions) old answer new h = (
    h.0,
    h.1,
    (h.2.0, h.2.1, try_for action h.2.0 h.0 h.2.2),
    further_for h.0 actions h.1 answer new (λ k. finds_for actions h.1 answer new k) h.3,
  )

-- ---- marks in place
pub no_marks_kept : (at : When) (a : KeptState) (marked : Marked) (v : MachineView) → IsSoundKept a → a.held ≡ None → AreBefore marked.before.items a.histories → marked.any ≡ false → marked.before.items ≡ [] → HasMarks at a v marked a v
no_marks_kept at a marked v is free are any before =
    let same : undone marked.before.items a.histories ≡ a.histories = ap (λ bs. undone bs a.histories) before in
    record {
      makes = record {
        marks = subst (λ b. MarksEach at (state_of a) (actions_of a.sites) (record { histories = a.histories; any = false }) v (Ok b) a.histories v) (sym any) (unmarked_each at (state_of a) (actions_of a.sites) a.histories v (none_may a.histories (subst (λ bs. Covers bs a.histories) before are.covers)));
        marked = refl;
        good = is.sound.saved.histories;
      };
      rest = refl;
      undo = same;
      marks = record {
        sound = is;
        free = free;
        marked = subst (λ hs. AreMarked hs a.histories) (sym same) refl;
        good = subst AreHistories (sym same) is.sound.saved.histories;
      };
    }

-- the histories are taken out of the state, which has others, as the marks are made in them
module _ (at : When) (a : KeptState) (hs others now : List PlainHistory) (old later : MachineView) (own : hs ≡ a.histories) (is : IsSoundKept a) where
  makes_own : (answer : Result Bool Turned) → MakesMarks at (with_histories others (state_of a)) (actions_of a.sites) hs old answer now later → MakesMarks at (state_of a) (actions_of a.sites) a.histories old answer now later
  makes_own answer makes =
      makes_for at (with_histories others (state_of a)) (state_of a) refl (actions_of a.sites) a.histories old answer now later
      (subst (λ x. MakesMarks at (with_histories others (state_of a)) (actions_of a.sites) x old answer now later) own makes)

  back : (bs : List PlainBefore) → AreBefore bs a.histories → UndoneSame hs now → undone bs now ≡ a.histories
  back bs before same = undone_marks a.histories now bs is.sound.saved.histories before (subst (λ x. UndoneSame x now) own same)

  pub marks_kept : (marked : Marked) → a.held ≡ None → AreBefore marked.before.items a.histories → UndoneSame hs now
      → MakesMarks at (with_histories others (state_of a)) (actions_of a.sites) hs old (Ok marked.any) now later → HasMarks at a old marked (record a { histories = now }) later
  marks_kept marked free before same made =
      let makes : MakesMarks at (state_of a) (actions_of a.sites) a.histories old (Ok marked.any) now later = makes_own (Ok marked.any) made in
      let undo : undone marked.before.items now ≡ a.histories = back marked.before.items before same in
      record {
        makes = makes;
        rest = refl;
        undo = undo;
        marks = record {
          sound = sound_with a now makes.good free (standing_marked a.histories now makes.marked) is;
          free = free;
          marked = subst (λ x. AreMarked x now) (sym undo) makes.marked;
          good = subst AreHistories (sym undo) is.sound.saved.histories;
        };
      }

  pub marks_stopped : (bs : List PlainBefore) (b : KeptState) (stop : Turned) → AreBefore bs a.histories → UndoneSame hs now
      → MakesMarks at (with_histories others (state_of a)) (actions_of a.sites) hs old (Err stop) now later → b ≡ record a { histories = undone bs now } → StopsMarks at (state_of a) (actions_of a.sites) old stop later × (b ≡ a)
  marks_stopped bs b stop before same made kept = (inr (now, makes_own (Err stop) made), kept ∙ ap (λ x. record a { histories = x }) (back bs before same))

-- ---- the state before marks, and after them
abbrev histories_of : State → List PlainHistory
histories_of s = s.histories

abbrev held_of : State → Option PlainAttempt
held_of s = s.held

-- another state that shows the same
pub marks_on : (a b : KeptState) (before : List PlainBefore) → state_of b ≡ state_of a → IsSoundKept b → AreMarksOf before a → AreMarksOf before b
marks_on a b before same is are = record {
  sound = is;
  free = none_shown b.held (ap held_of same ∙ ap (option_map shown_attempt) are.free);
  marked = subst (λ hs. AreMarked (undone before hs) hs) (sym (ap histories_of same)) are.marked;
  good = subst (λ hs. AreHistories (undone before hs)) (sym (ap histories_of same)) are.good;
}

pub without_marks : (before : List PlainBefore) (a : KeptState) → AreMarksOf before a → IsSoundKept (record a { histories = undone before a.histories })
without_marks before a are = sound_with a (undone before a.histories) are.good are.free (standing_unmarked (undone before a.histories) a.histories are.marked) are.sound

-- the state shows the histories with marks, and the one before the marks is shown once they are taken back
module _ (at : When) (a b : KeptState) (marked : Marked) (old between : MachineView) (has : HasMarks at a old marked b between) where
  abbrev before : State
  before = state_of a

  pub state_after : state_of b ≡ with_histories b.histories before
  state_after = ap state_of has.rest

  pub state_before : unmarked_state marked.before.items b ≡ before
  state_before = ap (with_histories (undone marked.before.items b.histories)) state_after ∙ ap (λ hs. with_histories hs before) has.undo

  pub taken_back : (now : KeptState) → now ≡ record b { histories = undone marked.before.items b.histories } → state_of now ≡ before
  taken_back now is = ap state_of is ∙ state_before

  -- what was found of the state with marks
  pub finds_marked : (answer : Result (Option AttemptState) Turned) (later : MachineView) → FindsDue at (state_of b) b.histories (actions_of b.sites) between answer later → FindsDue at before b.histories (actions_of a.sites) between answer later
  finds_marked answer later h =
      finds_for at before b.histories (actions_of a.sites) between answer later (subst (λ (s : State). FindsDue at s b.histories (actions_of s.sites) between answer later) state_after h)

  module _ (pocket : PocketView) (would : Turned) (s2 : State) (d2 : Devices) where
    -- the marks, the search, and what it comes to
    pub tries_on : (answer : Result (Option AttemptState) Turned) (later : MachineView) → FindsDue at (state_of b) b.histories (actions_of b.sites) between answer later
        → ComesTo at before pocket would s2 d2 b.histories marked.any answer later → Tries at before (actions_of a.sites) (devices old pocket) would s2 d2
    tries_on answer later finds comes =
        tries_marked at before pocket would s2 d2 (actions_of a.sites) old between marked.any b.histories answer later has.makes.marks (finds_marked answer later finds) comes

    pub idles_on : (d : Devices) → OrMemory (unmarked_state marked.before.items b) d (Finishes marked.any Idle (state_of b) d) would s2 d2 → OrMemory before d (Finishes marked.any Idle (with_histories b.histories before) d) would s2 d2
    idles_on d h =
        subst (λ (s : State). OrMemory before d (Finishes marked.any Idle s d) would s2 d2) state_after (subst (λ (s : State). OrMemory s d (Finishes marked.any Idle (state_of b) d) would s2 d2) state_before h)

    pub begins_on : (attempt : PlainAttempt) (d : Devices) → OrMemory (unmarked_state marked.before.items b) d (BeginsAs at (unmarked_state marked.before.items b) (state_of b) attempt d) would s2 d2
        → BeginsAs at before (with_histories b.histories before) attempt d would s2 d2
    begins_on attempt d h =
        begins_or at before (with_histories b.histories before) d attempt would s2 d2
        (subst (λ (s : State). OrMemory before d (BeginsAs at before s attempt d) would s2 d2) state_after
        (subst (λ (s : State). OrMemory s d (BeginsAs at s (state_of b) attempt d) would s2 d2) state_before h))

-- no attempt is held, so none waits
pub sound_on : (started : ℕ) (a : KeptState) → a.held ≡ None → IsSoundKept a → AreSoundOn started a
sound_on started a free is = record { sound = is; waits = waits_as started (option_map shown_attempt a.held) None (ap (option_map shown_attempt) free) tt }

-- the marks are taken back, and no attempt is held
pub sound_back : (started : ℕ) (a now : KeptState) (bs : List PlainBefore) → AreMarksOf bs a → now ≡ record a { histories = undone bs a.histories } → AreSoundOn started now
sound_back started a now bs are is = subst (AreSoundOn started) (sym is) (sound_on started (record a { histories = undone bs a.histories }) are.free (without_marks bs a are))

-- the turn stops as the marks are made
stops_there : (at : When) (s : State) (actions : List Action) (pocket : PocketView) (stop : Turned) (old later : MachineView) → StopsMarks at s actions old stop later → Tries at s actions (devices old pocket) stop s (devices later pocket)
stops_there at s actions pocket stop old later (inl h) = inl (h.0, refl, ap (λ v. devices v pocket) h.1)
stops_there at s actions pocket stop old later (inr h) = tries_stopped at s pocket stop s (devices later pocket) actions old later stop h.0 h.1.marks (refl, refl, refl)

pub marking_stops : (at : When) (a now : KeptState) (pocket : PocketView) (stop : Turned) (old later : MachineView) → StopsMarks at (state_of a) (actions_of a.sites) old stop later → now ≡ a
    → Tries at (state_of a) (actions_of a.sites) (devices old pocket) stop (state_of now) (devices later pocket)
marking_stops at a now pocket stop old later stops same =
    subst (λ (x : KeptState). Tries at (state_of a) (actions_of a.sites) (devices old pocket) stop (state_of x) (devices later pocket)) (sym same)
    (stops_there at (state_of a) (actions_of a.sites) pocket stop old later stops)

pub marking_stops_sound : (started : ℕ) (a now : KeptState) → a.held ≡ None → IsSoundKept a → now ≡ a → AreSoundOn started now
marking_stops_sound started a now free is same = subst (AreSoundOn started) (sym same) (sound_on started a free is)
