-- One turn of an agent: it saves what is unsaved, and then ends a broken attempt, or goes on with the one that it holds, or tries the
-- actions.
use Rattle.std.specs.Prelude.{◌&&◌, ℕ, List, [], ◌∷◌, Bool, true, false, Option, Some, None, is_some, is_none}
use Rattle.act_rules.specs.declared.row.Row.{Row}
use Rattle.act_rules.specs.declared.row.Outcome.{Outcome}
use Rattle.act_rules.specs.declared.row.Outcome.TheVariants as outcome
use Rattle.act_rules.specs.Rows.{last_row}
use Rattle.fix_site.specs.declared.action.Action.{Action}
use Rattle.script_run.specs.Asking.{When}
use Rattle.bf_machine.specs.Views.{MachineView}
use Rattle.agent_text.specs.declared.pocket.SaveResult.{SaveResult}
use Rattle.agent_text.specs.declared.pocket.SaveResult.TheVariants as save
use Rattle.agent_text.specs.Histories.{PlainHistory, rows_at, with_cleared}
use Rattle.agent_attempt.specs.declared.found.Found.{Found}
use Rattle.agent_attempt.specs.declared.found.Found.TheVariants as found
use Rattle.agent_attempt.specs.declared.went.Fail.{Fail}
use Rattle.agent_attempt.specs.declared.went.Went.{Went}
use Rattle.agent_attempt.specs.declared.went.Went.TheVariants as went
use Rattle.agent_attempt.specs.Attempts.{PlainAttempt, new_attempt}
use Rattle.agent_attempt.specs.ActionContents.{Content, actions_of, content_of}
use Rattle.agent_attempt.specs.Going.{GoesOn}
use Rattle.agent_attempt.specs.Relevance.{ContentIs, IsDue}
use Rattle.agent_core.specs.declared.turned.Turned.{Turned}
use Rattle.agent_core.specs.declared.turned.Turned.TheVariants.{Idle, Interrupted, Held, Wants, Ended, MachineFault, PocketFault, Memory}
use Rattle.agent_state.specs.States.{State, as_saved, broken_action, can_report, interrupted, next_row, with_beginning, with_end, with_held, with_histories, with_report, with_unsaved}
use Rattle.agent_core.specs.Devices.{Devices}
use Rattle.agent_core.specs.Saving.{Ending, Answers, TurnAsks, OrMemory, SavesThen}

-- ---- the end of a turn
-- what comes after the last save: where it isn't done, the new state stands unsaved
abbrev pub AfterLastSave : Turned → State → SaveResult → Devices → Ending
AfterLastSave would s save.Done d = Answers would (as_saved s) d
AfterLastSave would s save.Failed d = Answers PocketFault (with_unsaved s) d
AfterLastSave would s save.Memory d = Answers Memory (with_unsaved s) d

-- what has changed is saved
abbrev pub LastSave : Bool → Turned → State → Devices → Ending
LastSave false would s d = Answers would s d
LastSave true would s d = SavesThen s d (AfterLastSave would s)

-- A report is made where one can be, and then whatever changed in the turn since its last save is saved.
abbrev pub ReportsAndSaves : Bool → Bool → Turned → State → Devices → Ending
ReportsAndSaves true changed would s d = LastSave true would (with_report s) d
ReportsAndSaves false changed would s d = LastSave changed would s d

-- The turn comes to its end. `changed`: whether something that is saved has changed since the last save.
abbrev pub Finishes : Bool → Turned → State → Devices → Ending
Finishes changed would s d = ReportsAndSaves (can_report s) changed would s d

-- ---- an attempt goes on
-- how an attempt ended
abbrev pub outcome_of : Option Fail → Outcome
outcome_of None = outcome.Fixed
outcome_of (Some fail) = outcome.Failed

-- What comes after an attempt of this action went on, which began in this turn or before. What is held isn't saved, so a held attempt
-- leaves nothing to save; its end does.
abbrev pub AfterGoing : When → ℕ → Bool → Went → Option PlainAttempt → State → Devices → Ending
AfterGoing at id began (went.Held component line) after s d = Finishes false (Held id began component line) (with_held after s) d
AfterGoing at id began (went.Wants digest) after s d = Finishes false (Wants id began digest) (with_held after s) d
AfterGoing at id began (went.Ended fail note) after s d =
    Finishes true (Ended id began (outcome_of fail) fail) (with_end id at.moment (outcome_of fail) note s) d
AfterGoing at id began went.Memory after s d = Answers Memory (with_held after s) d

-- An attempt goes on, and the turn ends with it.
abbrev pub TurnGoesOn : When → Bool → PlainAttempt → State → Devices → Ending
TurnGoesOn at began attempt s d answer s2 d2 =
    (w : Went) × (machine : MachineView) × (after : Option PlainAttempt) × GoesOn at attempt d.machine w machine after
    × AfterGoing at attempt.action.id began w after s (record d { machine = machine }) answer s2 d2

-- ---- a broken attempt ends
-- what comes after the end of a broken attempt was saved
abbrev pub AfterInterrupting : ℕ → State → SaveResult → Devices → Ending
AfterInterrupting id s save.Done d = Finishes false (Interrupted id) (as_saved s) d
AfterInterrupting id s save.Failed d = Answers PocketFault (with_unsaved s) d
AfterInterrupting id s save.Memory d = Answers Memory (with_unsaved s) d

-- A broken attempt of this action ends as interrupted.
abbrev pub Interrupts : When → ℕ → State → Devices → Ending
Interrupts at id s d =
    OrMemory s d (SavesThen (interrupted id at.moment s) d (AfterInterrupting id (interrupted id at.moment s)))

-- ---- clearing marks
-- a last row that has ended and isn't cleared
abbrev pub may_clear : Option Row → Bool
may_clear None = false
may_clear (Some row) = is_some row.end && is_none row.cleared

-- what is marked so far: the histories with the marks, and whether there is any
pub record Marks : Type 0 where
  pub histories : List PlainHistory
  pub any : Bool

-- the action is marked as cleared
abbrev pub with_mark : When → ℕ → Marks → Marks
with_mark at id marks = record { histories = with_cleared id at.moment marks.histories; any = true }

-- what comes after an action was tested for its mark, `s` being the state as the first save left it
abbrev pub AfterTest : When → State → ℕ → Marks → (Marks → Devices → Ending) → Found → Devices → Ending
AfterTest at s id marks next found.Yes d = next marks d
AfterTest at s id marks next found.No d = next (with_mark at id marks) d
AfterTest at s id marks next found.Failed d = Answers MachineFault s d
AfterTest at s id marks next found.Memory d = Answers Memory s d

-- an action is tested where its last row has ended and isn't cleared
abbrev pub TestsOne : Bool → When → State → Action → Marks → (Marks → Devices → Ending) → Devices → Ending
TestsOne false at s action marks next d = next marks d
TestsOne true at s action marks next d =
    TurnAsks (ContentIs at (content_of action s.sites)) d (AfterTest at s action.id marks next)

-- The actions are tested one after another, and those that aren't relevant are marked.
abbrev pub Clears : When → State → List Action → Marks → (Marks → Devices → Ending) → Devices → Ending
Clears at s [] marks next d = next marks d
Clears at s (action ∷ actions) marks next d =
    TestsOne (may_clear (last_row (rows_at action.id marks.histories))) at s action marks
    (λ (then : Marks). Clears at s actions then next) d

-- ---- a beginning
-- what comes after the row of a beginning was saved: where the save fails no row is added, and the marks stand unsaved; where it has no
-- memory, which stands for want of memory before it too, the state is as the first save left it
abbrev pub AfterBeginning : When → State → State → State → PlainAttempt → SaveResult → Devices → Ending
AfterBeginning at s marked begun attempt save.Done d = TurnGoesOn at true attempt (as_saved begun) d
AfterBeginning at s marked begun attempt save.Failed d = Answers PocketFault (with_unsaved marked) d
AfterBeginning at s marked begun attempt save.Memory d = Answers Memory s d

-- the attempt that begins
abbrev pub beginning : When → Action → Content → State → PlainAttempt
beginning at action content s = new_attempt action content (next_row action.id s.histories) at.offset

-- The action begins: a row is added, which is saved before the first command.
abbrev pub Begins : When → State → State → Action → Option Content → Devices → Ending
Begins at s marked action None d answer s2 d2 = ⊥
Begins at s marked action (Some content) d answer s2 d2 =
    SavesThen (with_beginning action.id at.moment marked) d
    (AfterBeginning at s marked (with_beginning action.id at.moment marked) (beginning at action content marked)) answer s2 d2

-- ---- the first action that is due begins
-- what comes after an action was tried, `marked` being the state with its marks
abbrev pub AfterTrying : When → State → State → Action → (Devices → Ending) → Found → Devices → Ending
AfterTrying at s marked action next found.Yes d = Begins at s marked action (content_of action s.sites) d
AfterTrying at s marked action next found.No d = next d
AfterTrying at s marked action next found.Failed d = Answers MachineFault s d
AfterTrying at s marked action next found.Memory d = Answers Memory s d

-- The actions are tried in their order, and the first that is due begins. Where none is, the turn is idle, unless there is no memory for
-- its end, which leaves the state as the first save left it.
abbrev pub TriesEach : When → State → State → Bool → List Action → Devices → Ending
TriesEach at s marked any [] d = OrMemory s d (Finishes any Idle marked d)
TriesEach at s marked any (action ∷ actions) d =
    TurnAsks (IsDue at s.computer action (content_of action s.sites) (rows_at action.id marked.histories)) d
    (AfterTrying at s marked action (TriesEach at s marked any actions))

-- the actions are tried after these marks
abbrev pub TriesMarked : When → State → List Action → Marks → Devices → Ending
TriesMarked at s actions marks d = TriesEach at s (with_histories marks.histories s) marks.any actions d

-- no action is marked yet
abbrev pub no_marks : State → Marks
no_marks s = record { histories = s.histories; any = false }

-- Marks are made, and then the actions are tried. Want of memory before a beginning leaves the state as the first save left it.
abbrev pub Tries : When → State → List Action → Devices → Ending
Tries at s actions d = OrMemory s d (Clears at s actions (no_marks s) (TriesMarked at s actions) d)

-- ---- the steps
-- the first of these that applies: a broken attempt ends, the held one goes on, the actions are tried
abbrev pub StepFor : When → Option ℕ → Option PlainAttempt → State → Devices → Ending
StepFor at (Some id) held s d = Interrupts at id s d
StepFor at None (Some attempt) s d = OrMemory s d (TurnGoesOn at false attempt s d)
StepFor at None None s d = Tries at s (actions_of s.sites) d

abbrev pub Steps : When → State → Devices → Ending
Steps at s d = StepFor at (broken_action s) s.held s d

-- what comes after what stood unsaved was saved
abbrev pub AfterFirstSave : When → State → SaveResult → Devices → Ending
AfterFirstSave at s save.Done d = Steps at (as_saved s) d
AfterFirstSave at s save.Failed d = Answers PocketFault s d
AfterFirstSave at s save.Memory d = Answers Memory s d

-- First, what stands unsaved is saved.
abbrev pub FirstSave : Bool → When → State → Devices → Ending
FirstSave false at s d = Steps at s d
FirstSave true at s d = SavesThen s d (AfterFirstSave at s)

-- A turn at this time, from a state and what the devices tell, to an answer, another state, and what the devices tell then.
abbrev pub Turn : When → State → Devices → Turned → State → Devices → Type 0
Turn at s d answer s2 d2 = FirstSave s.unsaved at s d answer s2 d2
