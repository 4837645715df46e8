-- What the private functions of a turn do. Only the code's contracts cite these definitions.
use Rattle.std.specs.Prelude.{◌≡◌, ◌⊎◌, ℕ, ◌+◌, ◌^◌, ◌<◌, ◌≤◌, min, List, [], ◌∷◌, length, map, vec_capacity, IfSome, IsSomeAnd, Bool, true, false, Option, Some, None, Result, Ok, Err}
use Rattle.act_rules.specs.declared.row.Row.{Row}
use Rattle.line_forms.specs.Numbers.{IsId}
use Rattle.act_rules.specs.Rows.{HasEnded, last_row}
use Rattle.fix_site.specs.declared.action.Action.{Action}
use Rattle.script_run.specs.Asking.{When}
use Rattle.bf_machine.specs.Views.{MachineView}
use Rattle.report_text.specs.Reports.{most_report_bytes, most_rows}
use Rattle.agent_text.specs.declared.pocket.SaveResult.{SaveResult}
use Rattle.agent_text.specs.declared.pocket.SaveResult.TheVariants as save
use Rattle.agent_text.specs.Histories.{AreHistories, PlainHistory, rows_at}
use Rattle.agent_text.specs.SavedTexts.{most_bytes}
use Rattle.agent_attempt.specs.declared.found.Found.{Found}
use Rattle.agent_attempt.specs.declared.found.Found.TheVariants.{Yes, No, Failed}
use Rattle.agent_attempt.specs.declared.read_block.ReadBlock.{ReadBlock}
use Rattle.agent_attempt.specs.ReadBlocks.{shown_block}
use Rattle.agent_attempt.specs.Attempts.{PlainAttempt, StageWaitsBelow}
use Rattle.agent_attempt.specs.ActionContents.{Content, as_action, content_of}
use Rattle.agent_attempt.specs.Stages.{AttemptState, shown_attempt}
use Rattle.agent_attempt.specs.Relevance.{ContentIs, IsDue, MayBegin}
use Rattle.agent_core.specs.declared.kept_state.KeptState.{KeptState}
use Rattle.agent_state.specs.declared.spare.Spare.{Spare}
use Rattle.agent_core.specs.declared.turned.Turned.{Turned}
use Rattle.agent_core.specs.declared.turned.Turned.TheVariants.{MachineFault, Memory, PocketFault}
use Rattle.agent_state.specs.Counting.{pending_count}
use Rattle.agent_core.specs.Saving.{Ending, SavesThen}
use Rattle.agent_text.specs.Pockets.{PocketView, SavesTo}
use Rattle.agent_core.specs.Inside.{IsSoundKept, state_of}
use Rattle.agent_state.specs.States.{State, as_saved, text_of, with_beginning, with_histories, with_unsaved}
use Rattle.agent_core.specs.Devices.{Devices}
use Rattle.agent_core.specs.Turns.{AfterBeginning, Marks, beginning, may_clear, with_mark}

-- the state after a save
abbrev pub after_save : SaveResult → State → State
after_save save.Done s = as_saved s
after_save save.Failed s = s
after_save save.Memory s = s

-- A save of this state was answered so.
pub record SavesKept (old : KeptState) (before : PocketView) (answer : SaveResult) (new : KeptState) (now : PocketView) : Type 0 where
  pub saves : SavesTo (text_of (state_of old)) before answer now
  pub state : state_of new ≡ after_save answer (state_of old)
  pub sound : IsSoundKept new
  pub room : new.outbox.capacity ≡ old.outbox.capacity

-- ---- what is taken before anything that can't be undone
-- It is enough for the end of a turn in which so many more actions become pending.
pub record Suffices (more : ℕ) (spare : Spare) (kept : KeptState) : Type 0 where
  pub computer : spare.computer ≡ kept.name
  pub empty : spare.rows.items ≡ []
  pub rows : min most_rows (pending_count kept.histories + more) ≤ vec_capacity spare.rows
  pub text : most_bytes kept.histories kept.outbox.reports + most_report_bytes (min most_rows (pending_count kept.histories + more))
      ≤ spare.text.capacity
  pub outbox : length kept.outbox.reports < kept.outbox.capacity

-- ---- what stops a turn before a beginning
abbrev pub stop_of : Found → Turned
stop_of Failed = MachineFault
stop_of _ = Memory

-- ---- marks
-- whether an action is marked by what was found of its content
abbrev pub mark_by : Found → Result Bool Turned
mark_by Yes = Ok false
mark_by No = Ok true
mark_by found = Err (stop_of found)

-- an action is tested where its last row has ended and isn't cleared
abbrev pub TestsMark : Bool → When → State → Action → MachineView → Result Bool Turned → MachineView → Type 0
TestsMark false at s action old answer new = (answer ≡ Ok false) × (new ≡ old)
TestsMark true at s action old answer new =
    (found : Found) × ContentIs at (content_of action s.sites) old found new × (answer ≡ mark_by found)

-- the marks after an action was tested
abbrev pub marked_by : When → ℕ → Bool → Marks → Marks
marked_by at id true marks = with_mark at id marks
marked_by at id false marks = marks

-- what marking comes to: from one view of the machine, whether anything is marked, the histories with the marks, and another view
abbrev pub Marking : Type 1
Marking = MachineView → Result Bool Turned → List PlainHistory → MachineView → Type 0

-- what comes after an action was tested for its mark
abbrev pub MarksAfter : (Bool → Marking) → Result Bool Turned → Marking
MarksAfter next (Ok mark) old answer hs new = next mark old answer hs new
MarksAfter next (Err stop) old answer hs new = (answer ≡ Err stop) × (new ≡ old)

-- The actions are tested one after another.
abbrev pub MarksEach : When → State → List Action → Marks → Marking
MarksEach at s [] marks old answer hs new = (answer ≡ Ok marks.any) × (hs ≡ marks.histories) × (new ≡ old)
MarksEach at s (action ∷ actions) marks old answer hs new =
    (mark : Result Bool Turned) × (between : MachineView)
    × TestsMark (may_clear (last_row (rows_at action.id marks.histories))) at s action old mark between
    × MarksAfter (λ (is : Bool). MarksEach at s actions (marked_by at action.id is marks)) mark between answer hs new

-- the rows as they were before marks
abbrev pub unmarked_row : Row → Row
unmarked_row row = record row { cleared = None }

abbrev pub unmarked : PlainHistory → PlainHistory
unmarked h = record h { rows = map unmarked_row h.rows }

-- these are those histories, but for marks
abbrev pub AreMarked : List PlainHistory → List PlainHistory → Type 0
AreMarked hs marked = map unmarked marked ≡ map unmarked hs

-- the marks of these actions are made, and the histories stay good
pub record MakesMarks (at : When) (s : State) (actions : List Action) (hs : List PlainHistory) (old : MachineView)
    (answer : Result Bool Turned) (now : List PlainHistory) (new : MachineView) : Type 0 where
  pub marks : MarksEach at s actions (record { histories = hs; any = false }) old answer now new
  pub marked : AreMarked hs now
  pub good : AreHistories now

-- ---- the first action that is due
-- the attempt that begins, or want of memory for it
abbrev pub BeginsOne : When → State → Action → Option Content → Result (Option AttemptState) Turned → Type 0
BeginsOne at marked action None answer = ⊥
BeginsOne at marked action (Some content) answer =
    (answer ≡ Err Memory)
    ⊎ ((attempt : AttemptState) × (answer ≡ Ok (Some attempt)) × (shown_attempt attempt ≡ beginning at action content marked))

-- what an action comes to that was tried
abbrev pub AnswersTry : When → State → State → Action → Found → Result (Option AttemptState) Turned → Type 0
AnswersTry at s marked action Yes answer = BeginsOne at marked action (content_of action s.sites) answer
AnswersTry at s marked action No answer = answer ≡ Ok None
AnswersTry at s marked action found answer = answer ≡ Err (stop_of found)

-- the action of a block, if it is an action's, may begin by its rows
abbrev pub MayTry : When → ReadBlock → List PlainHistory → Type 0
MayTry at block hs = IsSomeAnd (as_action (shown_block block)) (λ action. MayBegin at action (rows_at action.id hs))

-- what trying comes to: from one view of the machine, the attempt of an action that is due, if one is, and another view
abbrev pub Trying : Type 1
Trying = MachineView → Result (Option AttemptState) Turned → MachineView → Type 0

-- An action is tried.
abbrev pub TriesOne : When → State → List PlainHistory → Action → Trying
TriesOne at s marked action old answer new =
    (found : Found) × IsDue at s.computer action (content_of action s.sites) (rows_at action.id marked) old found new
    × AnswersTry at s (with_histories marked s) action found answer

-- what comes after an action was tried
abbrev pub FindsAfter : Trying → Result (Option AttemptState) Turned → Trying
FindsAfter next (Ok None) old answer new = next old answer new
FindsAfter next one old answer new = (answer ≡ one) × (new ≡ old)

-- The actions are tried one after another, up to the first that is due.
abbrev pub FindsDue : When → State → List PlainHistory → List Action → Trying
FindsDue at s marked [] old answer new = (answer ≡ Ok None) × (new ≡ old)
FindsDue at s marked (action ∷ actions) old answer new =
    (one : Result (Option AttemptState) Turned) × (between : MachineView) × TriesOne at s marked action old one between
    × FindsAfter (FindsDue at s marked actions) one between answer new

-- the attempt is of the next row of its action, whose rows have ended and have a number left, and waits for no program
pub record CanBegin (attempt : PlainAttempt) (marked : List PlainHistory) : Type 0 where
  pub action : IsId attempt.action.id
  pub few : length (rows_at attempt.action.id marked) + 1 < 2 ^ 32
  pub number : attempt.row ≡ length (rows_at attempt.action.id marked) + 1
  pub ended : IfSome (last_row (rows_at attempt.action.id marked)) HasEnded
  pub waits : (started : ℕ) → StageWaitsBelow started attempt.stage

-- This attempt begins.
abbrev pub BeginsAs : When → State → State → PlainAttempt → Devices → Ending
BeginsAs at s marked attempt d =
    SavesThen (with_beginning attempt.action.id at.moment marked) d
    (AfterBeginning at s marked (with_beginning attempt.action.id at.moment marked) attempt)

-- how a turn stops where the row of a beginning isn't saved: no row is added; where the save fails the marks stand unsaved
abbrev pub StopsBeginning : State → State → SaveResult → Turned → State → Type 0
StopsBeginning s marked save.Done stop s2 = ⊥
StopsBeginning s marked save.Failed stop s2 = (stop ≡ PocketFault) × (s2 ≡ with_unsaved marked)
StopsBeginning s marked save.Memory stop s2 = (stop ≡ Memory) × (s2 ≡ s)

-- The state with the row of a beginning is saved, or the turn stops, also where memory runs out before.
abbrev pub SavesBeginning : State → State → State → PocketView → Result Spare Turned → State → PocketView → Type 0
SavesBeginning s marked begun old (Ok spare) s2 new = SavesTo (text_of begun) old save.Done new × (s2 ≡ as_saved begun)
SavesBeginning s marked begun old (Err stop) s2 new =
    ((stop ≡ Memory) × (s2 ≡ s) × (new ≡ old))
    ⊎ ((result : SaveResult) × SavesTo (text_of begun) old result new × StopsBeginning s marked result stop s2)
