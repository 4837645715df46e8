-- A turn, point by point: what holds at each point of it holds of what it comes to. Other crates may cite these lemmas.
use Rattle.std.proofs.Common.{◌≡◌, ℕ, List, [], ◌∷◌, All, Contains, Bool, true, false, inl, inr, Option, Some, None, refl, sym, subst}
use Rattle.std.proofs.lemmas.List.Elements.{All-contains_itself, All-head, All-tail}
use Rattle.act_rules.specs.Rows.{last_row}
use Rattle.act_rules.specs.declared.row.Note.{Note}
use Rattle.fix_site.specs.declared.action.Action.{Action}
use Rattle.script_run.specs.Asking.{When}
use Rattle.bf_machine.specs.Views.{MachineView}
use Rattle.agent_text.specs.declared.pocket.SaveResult.{SaveResult}
use Rattle.agent_text.specs.declared.pocket.SaveResult.TheVariants as save
use Rattle.agent_text.specs.Histories.{rows_at}
use Rattle.agent_attempt.specs.declared.found.Found.{Found}
use Rattle.agent_attempt.specs.declared.found.Found.TheVariants as found
use Rattle.agent_attempt.specs.declared.went.Fail.{Fail}
use Rattle.agent_attempt.specs.declared.went.Went.{Went}
use Rattle.agent_attempt.specs.declared.went.Went.TheVariants as went
use Rattle.agent_attempt.specs.Attempts.{PlainAttempt}
use Rattle.agent_attempt.specs.ActionContents.{Content, actions_of, content_of}
use Rattle.agent_attempt.specs.Going.{GoesOn}
use Rattle.agent_attempt.specs.Relevance.{ContentIs, IsDue}
use Rattle.agent_core.specs.declared.turned.Turned.{Turned}
use Rattle.agent_core.specs.declared.turned.Turned.TheVariants.{Idle, Interrupted, Held, Wants, Ended, MachineFault, PocketFault, Memory}
use Rattle.agent_state.specs.States.{State, as_saved, broken_action, can_report, interrupted, text_of, with_beginning, with_end, with_held, with_histories, with_report, with_unsaved}
use Rattle.agent_core.specs.Devices.{Devices}
use Rattle.agent_text.specs.Pockets.{PocketView, SavesTo}
use Rattle.agent_core.specs.Saving.{Answers, Ending}
use Rattle.agent_core.specs.Turns.{AfterBeginning, AfterFirstSave, AfterGoing, AfterInterrupting, AfterLastSave, AfterTest, AfterTrying, Begins, Clears, Finishes, FirstSave, TurnGoesOn, Interrupts, Marks, ReportsAndSaves, StepFor, Steps, TestsOne, Tries, TriesEach, TriesMarked, Turn, beginning, may_clear, no_marks, outcome_of, with_mark}

abbrev pub with_machine : MachineView → Devices → Devices
with_machine machine d = record d { machine = machine }

abbrev pub with_pocket : PocketView → Devices → Devices
with_pocket pocket d = record d { pocket = pocket }

-- an answer with its state and devices
pub answered : (P : Ending) (would : Turned) (s : State) (d : Devices) (a : Turned) (s2 : State) (d2 : Devices) → P would s d → Answers would s d a s2 d2 → P a s2 d2
answered P would s d a s2 d2 p h =
    subst (λ x. P x s2 d2) (sym h.0) (subst (λ x. P would x d2) (sym h.1) (subst (λ x. P would s x) (sym h.2) p))

-- ---- the points
-- A: the first save is behind. M: actions are tested and tried, with these marks. G: an attempt goes on, that began in this turn or before.
-- B: the turn comes to its end, with or without a change since its last save. P: what it comes to.
pub record Keeps (at : When) (A : State → Devices → Type 0) (M : Marks → State → Devices → Type 0) (G : Bool → PlainAttempt → State → Devices → Type 0) (B : Bool → Turned → State → Devices → Type 0) (P : Turned → State → Devices → Type 0) : Type 0 where
  pub memory : (s : State) (d : Devices) → A s d → P Memory s d
  -- a broken attempt
  pub broken_done : (s : State) (d : Devices) (id : ℕ) (pocket : PocketView) → A s d → broken_action s ≡ Some id → SavesTo (text_of (interrupted id at.moment s)) d.pocket save.Done pocket
      → B false (Interrupted id) (as_saved (interrupted id at.moment s)) (with_pocket pocket d)
  pub broken_failed : (s : State) (d : Devices) (id : ℕ) (pocket : PocketView) → A s d → broken_action s ≡ Some id → SavesTo (text_of (interrupted id at.moment s)) d.pocket save.Failed pocket
      → P PocketFault (with_unsaved (interrupted id at.moment s)) (with_pocket pocket d)
  pub broken_memory : (s : State) (d : Devices) (id : ℕ) (pocket : PocketView) → A s d → broken_action s ≡ Some id → SavesTo (text_of (interrupted id at.moment s)) d.pocket save.Memory pocket
      → P Memory (with_unsaved (interrupted id at.moment s)) (with_pocket pocket d)
  -- an attempt goes on
  pub resumes : (s : State) (d : Devices) (attempt : PlainAttempt) → A s d → broken_action s ≡ None → s.held ≡ Some attempt → G false attempt s d
  pub held : (began : Bool) (attempt : PlainAttempt) (s : State) (d : Devices) (component line : ℕ) (machine : MachineView) (after : Option PlainAttempt) → G began attempt s d
      → GoesOn at attempt d.machine (went.Held component line) machine after → B false (Held attempt.action.id began component line) (with_held after s) (with_machine machine d)
  pub wants : (began : Bool) (attempt : PlainAttempt) (s : State) (d : Devices) (digest : List ℕ) (machine : MachineView) (after : Option PlainAttempt) → G began attempt s d
      → GoesOn at attempt d.machine (went.Wants digest) machine after → B false (Wants attempt.action.id began digest) (with_held after s) (with_machine machine d)
  pub ends : (began : Bool) (attempt : PlainAttempt) (s : State) (d : Devices) (fail : Option Fail) (note : Note) (machine : MachineView) (after : Option PlainAttempt) → G began attempt s d
      → GoesOn at attempt d.machine (went.Ended fail note) machine after
      → B true (Ended attempt.action.id began (outcome_of fail) fail) (with_end attempt.action.id at.moment (outcome_of fail) note s) (with_machine machine d)
  pub lacks : (began : Bool) (attempt : PlainAttempt) (s : State) (d : Devices) (machine : MachineView) (after : Option PlainAttempt) → G began attempt s d
      → GoesOn at attempt d.machine went.Memory machine after → P Memory (with_held after s) (with_machine machine d)
  -- marks
  pub tries : (s : State) (d : Devices) → A s d → broken_action s ≡ None → s.held ≡ None → M (no_marks s) s d
  pub tested : (marks : Marks) (s : State) (d : Devices) (action : Action) (machine : MachineView) → M marks s d → may_clear (last_row (rows_at action.id marks.histories)) ≡ true
      → ContentIs at (content_of action s.sites) d.machine found.Yes machine → M marks s (with_machine machine d)
  pub marked : (marks : Marks) (s : State) (d : Devices) (action : Action) (machine : MachineView) → M marks s d → may_clear (last_row (rows_at action.id marks.histories)) ≡ true
      → ContentIs at (content_of action s.sites) d.machine found.No machine → M (with_mark at action.id marks) s (with_machine machine d)
  pub test_failed : (marks : Marks) (s : State) (d : Devices) (action : Action) (machine : MachineView) → M marks s d
      → ContentIs at (content_of action s.sites) d.machine found.Failed machine → P MachineFault s (with_machine machine d)
  pub test_memory : (marks : Marks) (s : State) (d : Devices) (action : Action) (machine : MachineView) → M marks s d
      → ContentIs at (content_of action s.sites) d.machine found.Memory machine → P Memory s (with_machine machine d)
  -- the first action that is due
  pub passed : (marks : Marks) (s : State) (d : Devices) (action : Action) (machine : MachineView) → M marks s d
      → IsDue at s.computer action (content_of action s.sites) (rows_at action.id marks.histories) d.machine found.No machine → M marks s (with_machine machine d)
  pub try_failed : (marks : Marks) (s : State) (d : Devices) (action : Action) (machine : MachineView) → M marks s d
      → IsDue at s.computer action (content_of action s.sites) (rows_at action.id marks.histories) d.machine found.Failed machine → P MachineFault s (with_machine machine d)
  pub try_memory : (marks : Marks) (s : State) (d : Devices) (action : Action) (machine : MachineView) → M marks s d
      → IsDue at s.computer action (content_of action s.sites) (rows_at action.id marks.histories) d.machine found.Memory machine → P Memory s (with_machine machine d)
  pub begun_done : (marks : Marks) (s : State) (d : Devices) (action : Action) (content : Content) (machine : MachineView) (pocket : PocketView) → M marks s d
      → IsDue at s.computer action (content_of action s.sites) (rows_at action.id marks.histories) d.machine found.Yes machine → content_of action s.sites ≡ Some content → Contains (actions_of s.sites) action
      → SavesTo (text_of (with_beginning action.id at.moment (with_histories marks.histories s))) d.pocket save.Done pocket
      → G true (beginning at action content (with_histories marks.histories s)) (as_saved (with_beginning action.id at.moment (with_histories marks.histories s))) (with_pocket pocket (with_machine machine d))
  pub begun_failed : (marks : Marks) (s : State) (d : Devices) (action : Action) (machine : MachineView) (pocket : PocketView) → M marks s d
      → IsDue at s.computer action (content_of action s.sites) (rows_at action.id marks.histories) d.machine found.Yes machine → Contains (actions_of s.sites) action
      → SavesTo (text_of (with_beginning action.id at.moment (with_histories marks.histories s))) d.pocket save.Failed pocket
      → P PocketFault (with_unsaved (with_histories marks.histories s)) (with_pocket pocket (with_machine machine d))
  pub begun_memory : (marks : Marks) (s : State) (d : Devices) (action : Action) (machine : MachineView) (pocket : PocketView) → M marks s d
      → IsDue at s.computer action (content_of action s.sites) (rows_at action.id marks.histories) d.machine found.Yes machine
      → SavesTo (text_of (with_beginning action.id at.moment (with_histories marks.histories s))) d.pocket save.Memory pocket
      → P Memory s (with_pocket pocket (with_machine machine d))
  pub no_memory : (marks : Marks) (s : State) (d : Devices) → M marks s d → P Memory s d
  pub idle : (marks : Marks) (s : State) (d : Devices) → M marks s d → B marks.any Idle (with_histories marks.histories s) d
  -- the end
  pub reported_done : (changed : Bool) (would : Turned) (s : State) (d : Devices) (pocket : PocketView) → B changed would s d → can_report s ≡ true
      → SavesTo (text_of (with_report s)) d.pocket save.Done pocket → P would (as_saved (with_report s)) (with_pocket pocket d)
  pub reported_failed : (changed : Bool) (would : Turned) (s : State) (d : Devices) (pocket : PocketView) → B changed would s d → can_report s ≡ true
      → SavesTo (text_of (with_report s)) d.pocket save.Failed pocket → P PocketFault (with_unsaved (with_report s)) (with_pocket pocket d)
  pub reported_memory : (changed : Bool) (would : Turned) (s : State) (d : Devices) (pocket : PocketView) → B changed would s d → can_report s ≡ true
      → SavesTo (text_of (with_report s)) d.pocket save.Memory pocket → P Memory (with_unsaved (with_report s)) (with_pocket pocket d)
  pub changed_done : (would : Turned) (s : State) (d : Devices) (pocket : PocketView) → B true would s d
      → SavesTo (text_of s) d.pocket save.Done pocket → P would (as_saved s) (with_pocket pocket d)
  pub changed_failed : (would : Turned) (s : State) (d : Devices) (pocket : PocketView) → B true would s d
      → SavesTo (text_of s) d.pocket save.Failed pocket → P PocketFault (with_unsaved s) (with_pocket pocket d)
  pub changed_memory : (would : Turned) (s : State) (d : Devices) (pocket : PocketView) → B true would s d
      → SavesTo (text_of s) d.pocket save.Memory pocket → P Memory (with_unsaved s) (with_pocket pocket d)
  pub unchanged : (would : Turned) (s : State) (d : Devices) → B false would s d → P would s d

module _ (at : When) (A : State → Devices → Type 0) (M : Marks → State → Devices → Type 0) (G : Bool → PlainAttempt → State → Devices → Type 0) (B : Bool → Turned → State → Devices → Type 0) (P : Turned → State → Devices → Type 0)
    (k : Keeps at A M G B P) (a : Turned) (s2 : State) (d2 : Devices) where
  -- ---- the end of the turn
  after_report : (result : SaveResult) (changed : Bool) (would : Turned) (s : State) (d : Devices) (pocket : PocketView) → B changed would s d → can_report s ≡ true
      → SavesTo (text_of (with_report s)) d.pocket result pocket → AfterLastSave would (with_report s) result (with_pocket pocket d) a s2 d2 → P a s2 d2
  after_report save.Done changed would s d pocket b can saves h = answered P would _ _ a s2 d2 (k.reported_done changed would s d pocket b can saves) h
  after_report save.Failed changed would s d pocket b can saves h = answered P PocketFault _ _ a s2 d2 (k.reported_failed changed would s d pocket b can saves) h
  after_report save.Memory changed would s d pocket b can saves h = answered P Memory _ _ a s2 d2 (k.reported_memory changed would s d pocket b can saves) h

  after_change : (result : SaveResult) (would : Turned) (s : State) (d : Devices) (pocket : PocketView) → B true would s d
      → SavesTo (text_of s) d.pocket result pocket → AfterLastSave would s result (with_pocket pocket d) a s2 d2 → P a s2 d2
  after_change save.Done would s d pocket b saves h = answered P would _ _ a s2 d2 (k.changed_done would s d pocket b saves) h
  after_change save.Failed would s d pocket b saves h = answered P PocketFault _ _ a s2 d2 (k.changed_failed would s d pocket b saves) h
  after_change save.Memory would s d pocket b saves h = answered P Memory _ _ a s2 d2 (k.changed_memory would s d pocket b saves) h

  finishes_by : (can changed : Bool) (would : Turned) (s : State) (d : Devices) → can_report s ≡ can → B changed would s d → ReportsAndSaves can changed would s d a s2 d2 → P a s2 d2
  finishes_by true changed would s d can b h = after_report h.0 changed would s d h.1 b can h.2 h.3
  finishes_by false true would s d can b h = after_change h.0 would s d h.1 b h.2 h.3
  finishes_by false false would s d can b h = answered P would s d a s2 d2 (k.unchanged would s d b) h

  finishes : (changed : Bool) (would : Turned) (s : State) (d : Devices) → B changed would s d → Finishes changed would s d a s2 d2 → P a s2 d2
  finishes changed would s d b h = finishes_by (can_report s) changed would s d refl b h

  -- ---- an attempt goes on
  goes_by : (w : Went) (began : Bool) (attempt : PlainAttempt) (s : State) (d : Devices) (machine : MachineView) (after : Option PlainAttempt) → G began attempt s d → GoesOn at attempt d.machine w machine after
      → AfterGoing at attempt.action.id began w after s (with_machine machine d) a s2 d2 → P a s2 d2
  goes_by (went.Held component line) began attempt s d machine after g goes h = finishes false _ _ _ (k.held began attempt s d component line machine after g goes) h
  goes_by (went.Wants digest) began attempt s d machine after g goes h = finishes false _ _ _ (k.wants began attempt s d digest machine after g goes) h
  goes_by (went.Ended fail note) began attempt s d machine after g goes h = finishes true _ _ _ (k.ends began attempt s d fail note machine after g goes) h
  goes_by went.Memory began attempt s d machine after g goes h = answered P Memory _ _ a s2 d2 (k.lacks began attempt s d machine after g goes) h

  goes : (began : Bool) (attempt : PlainAttempt) (s : State) (d : Devices) → G began attempt s d → TurnGoesOn at began attempt s d a s2 d2 → P a s2 d2
  goes began attempt s d g h = goes_by h.0 began attempt s d h.1 h.2 g h.3 h.4

  -- ---- a broken attempt
  after_broken : (result : SaveResult) (id : ℕ) (s : State) (d : Devices) (pocket : PocketView) → A s d → broken_action s ≡ Some id → SavesTo (text_of (interrupted id at.moment s)) d.pocket result pocket
      → AfterInterrupting id (interrupted id at.moment s) result (with_pocket pocket d) a s2 d2 → P a s2 d2
  after_broken save.Done id s d pocket stands is saves h = finishes false _ _ _ (k.broken_done s d id pocket stands is saves) h
  after_broken save.Failed id s d pocket stands is saves h = answered P PocketFault _ _ a s2 d2 (k.broken_failed s d id pocket stands is saves) h
  after_broken save.Memory id s d pocket stands is saves h = answered P Memory _ _ a s2 d2 (k.broken_memory s d id pocket stands is saves) h

  breaks : (id : ℕ) (s : State) (d : Devices) → A s d → broken_action s ≡ Some id → Interrupts at id s d a s2 d2 → P a s2 d2
  breaks id s d stands is (inl h) = answered P Memory s d a s2 d2 (k.memory s d stands) h
  breaks id s d stands is (inr h) = after_broken h.0 id s d h.1 stands is h.2 h.3

  -- ---- an action begins
  after_begun : (result : SaveResult) (marks : Marks) (s : State) (d : Devices) (action : Action) (content : Content) (machine : MachineView) (pocket : PocketView) → M marks s d
      → IsDue at s.computer action (content_of action s.sites) (rows_at action.id marks.histories) d.machine found.Yes machine → content_of action s.sites ≡ Some content → Contains (actions_of s.sites) action
      → SavesTo (text_of (with_beginning action.id at.moment (with_histories marks.histories s))) d.pocket result pocket
      → AfterBeginning at s (with_histories marks.histories s) (with_beginning action.id at.moment (with_histories marks.histories s)) (beginning at action content (with_histories marks.histories s)) result (with_pocket pocket (with_machine machine d)) a s2 d2
      → P a s2 d2
  after_begun save.Done marks s d action content machine pocket m due is among saves h = goes true _ _ _ (k.begun_done marks s d action content machine pocket m due is among saves) h
  after_begun save.Failed marks s d action content machine pocket m due is among saves h = answered P PocketFault _ _ a s2 d2 (k.begun_failed marks s d action machine pocket m due among saves) h
  after_begun save.Memory marks s d action content machine pocket m due is among saves h = answered P Memory _ _ a s2 d2 (k.begun_memory marks s d action machine pocket m due saves) h

  begins : (content : Option Content) (marks : Marks) (s : State) (d : Devices) (action : Action) (machine : MachineView) → M marks s d
      → IsDue at s.computer action (content_of action s.sites) (rows_at action.id marks.histories) d.machine found.Yes machine → content_of action s.sites ≡ content → Contains (actions_of s.sites) action
      → Begins at s (with_histories marks.histories s) action content (with_machine machine d) a s2 d2 → P a s2 d2
  begins None marks s d action machine m due is among h = absurd h
  begins (Some content) marks s d action machine m due is among h = after_begun h.0 marks s d action content machine h.1 m due is among h.2 h.3

  -- ---- the actions are tried
  after_try : (f : Found) (marks : Marks) (s : State) (d : Devices) (action : Action) (next : Devices → Ending) (machine : MachineView) → ((d : Devices) → M marks s d → next d a s2 d2 → P a s2 d2) → Contains (actions_of s.sites) action → M marks s d
      → IsDue at s.computer action (content_of action s.sites) (rows_at action.id marks.histories) d.machine f machine
      → AfterTrying at s (with_histories marks.histories s) action next f (with_machine machine d) a s2 d2 → P a s2 d2
  after_try found.Yes marks s d action next machine further among m due h = begins (content_of action s.sites) marks s d action machine m due refl among h
  after_try found.No marks s d action next machine further among m due h = further (with_machine machine d) (k.passed marks s d action machine m due) h
  after_try found.Failed marks s d action next machine further among m due h = answered P MachineFault _ _ a s2 d2 (k.try_failed marks s d action machine m due) h
  after_try found.Memory marks s d action next machine further among m due h = answered P Memory _ _ a s2 d2 (k.try_memory marks s d action machine m due) h

  tries_each : (actions : List Action) (marks : Marks) (s : State) (d : Devices) → All (Contains (actions_of s.sites)) actions → M marks s d → TriesEach at s (with_histories marks.histories s) marks.any actions d a s2 d2 → P a s2 d2
  tries_each [] marks s d among m (inl h) = answered P Memory s d a s2 d2 (k.no_memory marks s d m) h
  tries_each [] marks s d among m (inr h) = finishes marks.any Idle _ d (k.idle marks s d m) h
  tries_each (action ∷ actions) marks s d among m h =
      let Is : Action → Type 0 = Contains (actions_of s.sites) in
      after_try h.0 marks s d action (TriesEach at s (with_histories marks.histories s) marks.any actions) h.1 (λ d m h. tries_each actions marks s d (All-tail Is action actions among) m h) (All-head Is action actions among) m h.2 h.3

  -- ---- marks
  after_test : (f : Found) (marks : Marks) (s : State) (d : Devices) (action : Action) (next : Marks → Devices → Ending) (machine : MachineView) → ((marks : Marks) (d : Devices) → M marks s d → next marks d a s2 d2 → P a s2 d2) → M marks s d
      → may_clear (last_row (rows_at action.id marks.histories)) ≡ true → ContentIs at (content_of action s.sites) d.machine f machine
      → AfterTest at s action.id marks next f (with_machine machine d) a s2 d2 → P a s2 d2
  after_test found.Yes marks s d action next machine further m may asks h = further marks (with_machine machine d) (k.tested marks s d action machine m may asks) h
  after_test found.No marks s d action next machine further m may asks h = further (with_mark at action.id marks) (with_machine machine d) (k.marked marks s d action machine m may asks) h
  after_test found.Failed marks s d action next machine further m may asks h = answered P MachineFault _ _ a s2 d2 (k.test_failed marks s d action machine m asks) h
  after_test found.Memory marks s d action next machine further m may asks h = answered P Memory _ _ a s2 d2 (k.test_memory marks s d action machine m asks) h

  tests : (may : Bool) (marks : Marks) (s : State) (d : Devices) (action : Action) (next : Marks → Devices → Ending) → ((marks : Marks) (d : Devices) → M marks s d → next marks d a s2 d2 → P a s2 d2) → M marks s d
      → may_clear (last_row (rows_at action.id marks.histories)) ≡ may → TestsOne may at s action marks next d a s2 d2 → P a s2 d2
  tests false marks s d action next further m may h = further marks d m h
  tests true marks s d action next further m may h = after_test h.0 marks s d action next h.1 further m may h.2 h.3

  clears : (actions all : List Action) (marks : Marks) (s : State) (d : Devices) → All (Contains (actions_of s.sites)) all → M marks s d → Clears at s actions marks (TriesMarked at s all) d a s2 d2 → P a s2 d2
  clears [] all marks s d among m h = tries_each all marks s d among m h
  clears (action ∷ actions) all marks s d among m h =
      tests (may_clear (last_row (rows_at action.id marks.histories))) marks s d action (λ (then : Marks). Clears at s actions then (TriesMarked at s all)) (λ marks d m h. clears actions all marks s d among m h) m refl h

  tries_all : (s : State) (d : Devices) (all : List Action) → All (Contains (actions_of s.sites)) all → M (no_marks s) s d → P Memory s d → Tries at s all d a s2 d2 → P a s2 d2
  tries_all s d all among m none (inl h) = answered P Memory s d a s2 d2 none h
  tries_all s d all among m none (inr h) = clears all all (no_marks s) s d among m h

  resumed : (attempt : PlainAttempt) (s : State) (d : Devices) → A s d → broken_action s ≡ None → s.held ≡ Some attempt → StepFor at None (Some attempt) s d a s2 d2 → P a s2 d2
  resumed attempt s d stands none is (inl h) = answered P Memory s d a s2 d2 (k.memory s d stands) h
  resumed attempt s d stands none is (inr h) = goes false attempt s d (k.resumes s d attempt stands none is) h

  -- ---- the steps
  step_for : (broken : Option ℕ) (held : Option PlainAttempt) (s : State) (d : Devices) → A s d → broken_action s ≡ broken → s.held ≡ held → StepFor at broken held s d a s2 d2 → P a s2 d2
  step_for (Some id) held s d stands broken is h = breaks id s d stands broken h
  step_for None (Some attempt) s d stands broken is h = resumed attempt s d stands broken is h
  step_for None None s d stands broken is h = tries_all s d (actions_of s.sites) (All-contains_itself (actions_of s.sites)) (k.tries s d stands broken is) (k.memory s d stands) h

  pub steps_keep : (s : State) (d : Devices) → A s d → Steps at s d a s2 d2 → P a s2 d2
  steps_keep s d stands h = step_for (broken_action s) s.held s d stands refl refl h

  -- ---- the first save
  after_first : (result : SaveResult) (s : State) (d : Devices) (pocket : PocketView) → (SavesTo (text_of s) d.pocket save.Done pocket → A (as_saved s) (with_pocket pocket d))
      → (SavesTo (text_of s) d.pocket save.Failed pocket → P PocketFault s (with_pocket pocket d)) → (SavesTo (text_of s) d.pocket save.Memory pocket → P Memory s (with_pocket pocket d))
      → SavesTo (text_of s) d.pocket result pocket → AfterFirstSave at s result (with_pocket pocket d) a s2 d2 → P a s2 d2
  after_first save.Done s d pocket done failed memory saves h = steps_keep (as_saved s) (with_pocket pocket d) (done saves) h
  after_first save.Failed s d pocket done failed memory saves h = answered P PocketFault s (with_pocket pocket d) a s2 d2 (failed saves) h
  after_first save.Memory s d pocket done failed memory saves h = answered P Memory s (with_pocket pocket d) a s2 d2 (memory saves) h

  first_by : (unsaved : Bool) (s : State) (d : Devices) → (unsaved ≡ false → A s d) → ((pocket : PocketView) → SavesTo (text_of s) d.pocket save.Done pocket → A (as_saved s) (with_pocket pocket d))
      → ((pocket : PocketView) → SavesTo (text_of s) d.pocket save.Failed pocket → P PocketFault s (with_pocket pocket d)) → ((pocket : PocketView) → SavesTo (text_of s) d.pocket save.Memory pocket → P Memory s (with_pocket pocket d))
      → FirstSave unsaved at s d a s2 d2 → P a s2 d2
  first_by false s d none done failed memory h = steps_keep s d (none refl) h
  first_by true s d none done failed memory h = after_first h.0 s d h.1 (done h.1) (failed h.1) (memory h.1) h.2 h.3

  pub turn_keeps : (s : State) (d : Devices) → (s.unsaved ≡ false → A s d) → ((pocket : PocketView) → SavesTo (text_of s) d.pocket save.Done pocket → A (as_saved s) (with_pocket pocket d))
      → ((pocket : PocketView) → SavesTo (text_of s) d.pocket save.Failed pocket → P PocketFault s (with_pocket pocket d)) → ((pocket : PocketView) → SavesTo (text_of s) d.pocket save.Memory pocket → P Memory s (with_pocket pocket d))
      → Turn at s d a s2 d2 → P a s2 d2
  turn_keeps s d none done failed memory h = first_by s.unsaved s d none done failed memory h
