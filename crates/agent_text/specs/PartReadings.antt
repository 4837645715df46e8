-- What the readers of parts do. Only private functions cite these definitions.
use Rattle.std.specs.Prelude.{◌≡◌, ℕ, ◌+◌, ◌-◌, ◌^◌, ◌<◌, ◌≤◌, List, [], ◌∷◌, ◌++◌, length, map, filter, take, drop, nat_lt, flat_map, All, Contains, IfSome, MatchOption, false, ⊤, Ok, Err, Some, None, slice_get, decimal}
use Rattle.std.specs.List.{HoldsAt}
use Rattle.std.specs.declared.option.Option.{Option}
use Rattle.std.specs.declared.result.Result.{Result}
use Rattle.std.specs.Fmt.{signed_decimal}
use Rattle.line_forms.specs.LineStates.{LineState}
use Rattle.line_forms.specs.Numbers.{IsId}
use Rattle.line_forms.specs.Readers.{AreLinesOf, EachCan, IsNotAhead, IsStuck, Passes, StopsAt}
use Rattle.act_rules.specs.declared.row.Row.{Row}
use Rattle.act_rules.specs.Rows.{HasEnded, HasMoments, last_row}
use Rattle.report_text.specs.declared.form.Form.{Form}
use Rattle.report_text.specs.declared.form.Form.TheVariants.{One, Two}
use Rattle.report_text.specs.declared.report.Report.{Report}
use Rattle.act_rules.specs.Notes.{no_note}
use Rattle.report_text.specs.ReportRows.{IsAdded}
use Rattle.report_text.specs.FieldTexts.{SpellsEnd}
use Rattle.report_text.specs.Reports.{IsReport, computer_line, form_line, report_lines}
use Rattle.agent_text.specs.declared.error.SavedError.{SavedError}
use Rattle.agent_text.specs.declared.error.SavedError.TheVariants as error
use Rattle.agent_text.specs.declared.history.History.{History}
use Rattle.agent_text.specs.declared.attempt_reader.BareFields.{BareFields}
use Rattle.agent_text.specs.declared.report_reader.Frame.{Frame}
use Rattle.agent_text.specs.SavedRows.{IsSavedRow}
use Rattle.agent_text.specs.Histories.{PlainHistory, IsHistory, shown_history, pending_ids}
use Rattle.agent_text.specs.AttemptLines.{attempt_line, cleared_field}
use Rattle.agent_text.specs.SavedTexts.{agent_line, most_reports, next_line, pending_line}
use Rattle.agent_text.specs.HistoryLines.{action_line, history_lines}

-- the place of the history of this action, or the one where it would stand
abbrev pub HasPlace : List PlainHistory → ℕ → Result ℕ ℕ → Type 0
HasPlace hs action (Ok place) =
    (place < length hs) × HoldsAt (λ h. h.action ≡ action) hs place × (take place hs ≡ filter (λ h. nat_lt h.action action) hs)
    × (drop (place + 1) hs ≡ filter (λ h. nat_lt action h.action) hs)
HasPlace hs action (Err place) =
    (place ≤ length hs) × (take place hs ≡ filter (λ h. nat_lt h.action action) hs)
    × (drop place hs ≡ filter (λ h. nat_lt action h.action) hs)

-- ---- parts of several lines
-- Of the lines ahead some begin one of the set, and with the line of this number they begin none.
abbrev pub IsBadAt : (List (List ℕ) → Type 0) → LineState → ℕ → Type 0
IsBadAt AreGood old number =
    (bad : LineState) × (before : List (List ℕ)) × (0 < length before) × Passes old bad before × StopsAt AreGood before bad
    × (number ≡ bad.number)

-- ---- attempts
-- a row that a text of this form can have
abbrev pub IsRowIn : Form → Row → Type 0
IsRowIn One row = IsSavedRow row × (row.note ≡ no_note)
IsRowIn Two row = IsSavedRow row

-- a row that can stand behind these in a text of this form
pub record CanBeNext (form : Form) (before : List Row) (row : Row) : Type 0 where
  pub few : length before + 1 < 2 ^ 32
  pub number : row.number ≡ length before + 1
  pub ended : IfSome (last_row before) HasEnded
  pub moments : HasMoments row
  pub good : IsRowIn form row

-- an attempt without its note
abbrev pub IsBare : Row → Type 0
IsBare row = (1 ≤ row.number) × (row.number ≤ 2 ^ 32 - 1) × HasMoments row

-- an attempt with any note that the form adds
abbrev pub IsNoted : Form → Row → Type 0
IsNoted form row = IsBare row × IsAdded form row.note

-- an attempt by itself
abbrev pub IsAttempt : Form → Row → Type 0
IsAttempt form row = IsBare row × IsRowIn form row

-- these fields are those of the attempt, but for its note
abbrev pub SpellsBare : BareFields → Row → Type 0
SpellsBare fields row =
    (fields.number.now ≡ decimal row.number) × (fields.begun.now ≡ signed_decimal row.begun)
    × SpellsEnd fields.outcome.now fields.end.now row.end × (fields.cleared.now ≡ cleared_field row.cleared)

-- ---- histories
-- The id is above that of the last of these.
abbrev pub IsAbove : List PlainHistory → ℕ → Type 0
IsAbove before action = IfSome (slice_get before (length before - 1)) (λ last. last.action < action)

-- a history that can stand behind these; whether it is pending is said further on
pub record CanFollow (form : Form) (before : List PlainHistory) (h : PlainHistory) : Type 0 where
  pub good : IsHistory h
  pub rows : All (IsRowIn form) h.rows
  pub above : IsAbove before h.action
  pub told : h.pending ≡ false

-- the first line of a history
abbrev pub history_line : PlainHistory → List ℕ
history_line h = action_line h.action

-- no attempt that can stand behind these is ahead
abbrev pub NoAttempt : Form → List Row → LineState → Type 0
NoAttempt form rows state = IsNotAhead (CanBeNext form rows) (attempt_line form) state

-- The line of an action was taken that can stand behind these histories, and no attempt is ahead at the line of this number.
abbrev pub LacksAttempt : Form → List PlainHistory → LineState → ℕ → Type 0
LacksAttempt form before old number =
    (action : ℕ) × (bad : LineState) × IsId action × IsAbove before action × Passes old bad (action_line action ∷ [])
    × NoAttempt form [] bad × (number ≡ bad.number)

-- The lines of a history were taken as far as its attempts go; or the first line of none is ahead, and nothing was taken; or no
-- attempt follows the first line.
abbrev pub TakesHistory : Form → List PlainHistory → LineState → LineState → Result (Option History) SavedError → Type 0
TakesHistory form before old new (Ok (Some h)) =
    CanFollow form before (shown_history h) × Passes old new (history_lines form (shown_history h)) × NoAttempt form h.rows.rows new
TakesHistory form before old new (Ok None) = (new ≡ old) × IsNotAhead (CanFollow form before) history_line old
TakesHistory form before old new (Err (error.BadLine number)) = LacksAttempt form before old number
TakesHistory form before old new (Err error.Memory) = ⊤

-- Histories were taken, each of which can stand behind those before it, and the last as far as its attempts go.
pub record HasHistories (form : Form) (old new : LineState) (hs : List PlainHistory) : Type 0 where
  pub each : EachCan (CanFollow form) hs
  pub passes : Passes old new (flat_map (history_lines form) hs)
  pub whole : (front : List PlainHistory) (h : PlainHistory) → hs ≡ front ++ h ∷ [] → NoAttempt form h.rows new

-- The histories were taken, and the first line of no other is ahead; or behind them a history has no attempt.
abbrev pub TakesAllHistories : Form → LineState → LineState → Result (List History) SavedError → Type 0
TakesAllHistories form old new (Ok list) =
    HasHistories form old new (map shown_history list) × IsNotAhead (CanFollow form (map shown_history list)) history_line new
TakesAllHistories form old new (Err (error.BadLine number)) =
    (hs : List PlainHistory) × (mid : LineState) × HasHistories form old mid hs × LacksAttempt form hs mid number
TakesAllHistories form old new (Err error.Memory) = ⊤

-- ---- pending actions
-- an action that has a history among these, above those that are pending already
abbrev pub CanPend : List PlainHistory → ℕ → Type 0
CanPend hs action = Contains (map (λ h. h.action) hs) action × All (λ other. other < action) (pending_ids hs)

-- the id of an action that has a history among these, from this place on
abbrev pub StandsFrom : List PlainHistory → ℕ → ℕ → Type 0
StandsFrom hs from action = Contains (map (λ h. h.action) (drop from hs)) action

-- the line of a pending action was taken whose history has this place, or that of none from there on is ahead
abbrev pub TakesPlace : List PlainHistory → ℕ → LineState → LineState → Option ℕ → Type 0
TakesPlace hs from old new None = (new ≡ old) × IsNotAhead (StandsFrom hs from) pending_line old
TakesPlace hs from old new (Some place) =
    (from ≤ place) × ((h : PlainHistory) × (slice_get hs place ≡ Some h) × Passes old new (pending_line h.action ∷ []))

-- the place of the history of this action, if it has one
abbrev pub FindsPlace : List PlainHistory → ℕ → Option ℕ → Type 0
FindsPlace hs action answer =
    MatchOption answer (¬ Contains (map (λ h. h.action) hs) action)
    (λ place. (h : PlainHistory) × (slice_get hs place ≡ Some h) × (h.action ≡ action))

-- the same histories, where none is pending
abbrev pub untold_one : PlainHistory → PlainHistory
untold_one h = record h { pending = false }

abbrev pub untold : List PlainHistory → List PlainHistory
untold hs = map untold_one hs

-- the ids of the pending actions were taken, and no further one is ahead
pub record TakesPending (before : List PlainHistory) (old new : LineState) (after : List PlainHistory) : Type 0 where
  pub same : untold after ≡ before
  pub passes : Passes old new (map pending_line (pending_ids after))
  pub over : IsNotAhead (CanPend after) pending_line new

-- ---- reports
-- the form of a saved text, its computer, and the number of the next report
pub record Around : Type 0 where
  pub form : Form
  pub computer : List ℕ
  pub next : ℕ

abbrev pub around_of : Frame → Around
around_of frame = record { form = frame.form; computer = frame.computer.now; next = frame.next }

-- the form of a report in a text of this form
abbrev pub IsFormIn : Form → Form → Type 0
IsFormIn One form = form ≡ One
IsFormIn Two form = ⊤

-- the number is above that of the last of these reports
abbrev pub IsLater : List Report → ℕ → Type 0
IsLater before seq = IfSome (slice_get before (length before - 1)) (λ last. last.seq < seq)

-- a report that can stand behind these
pub record CanCome (around : Around) (before : List Report) (report : Report) : Type 0 where
  pub few : length before < most_reports
  pub good : IsReport report
  pub form : IsFormIn around.form report.form
  pub own : report.computer ≡ around.computer
  pub later : IsLater before report.seq
  pub below : report.seq < around.next

-- there is room for one report more, and a number is left for it
abbrev pub HasNumber : ℕ → List Report → Type 0
HasNumber next before = (length before < most_reports) × ((seq : ℕ) × IsId seq × IsLater before seq × (seq < next))

-- the first line of a report
abbrev pub report_line : Report → List ℕ
report_line report = form_line report.form

-- The lines of a report were taken; or the first line of none is ahead, and nothing was taken; or its lines go on to this line.
abbrev pub TakesReport : Around → List Report → LineState → LineState → Result (Option Report) SavedError → Type 0
TakesReport around before old new (Ok (Some report)) = CanCome around before report × Passes old new (report_lines report)
TakesReport around before old new (Ok None) = (new ≡ old) × IsNotAhead (CanCome around before) report_line old
TakesReport around before old new (Err (error.BadLine number)) = IsBadAt (AreLinesOf (CanCome around before) report_lines) old number
TakesReport around before old new (Err error.Memory) = ⊤

-- Reports were taken, each of which can stand behind those before it.
pub record HasReports (around : Around) (old new : LineState) (reports : List Report) : Type 0 where
  pub each : EachCan (CanCome around) reports
  pub passes : Passes old new (flat_map report_lines reports)

-- The reports were taken, and the first line of no other is ahead; or behind them the lines of a report go on to this line.
abbrev pub TakesAllReports : Around → LineState → LineState → Result (List Report) SavedError → Type 0
TakesAllReports around old new (Ok reports) =
    HasReports around old new reports × IsNotAhead (CanCome around reports) report_line new
TakesAllReports around old new (Err (error.BadLine number)) =
    (reports : List Report) × (mid : LineState) × HasReports around old mid reports
    × IsBadAt (AreLinesOf (CanCome around reports) report_lines) mid number
TakesAllReports around old new (Err error.Memory) = ⊤

-- ---- the first lines
-- the first three lines of a saved text
abbrev pub frame_lines : Around → List (List ℕ)
frame_lines around = agent_line around.form ∷ computer_line around.computer ∷ next_line around.next ∷ []

-- such lines with an id as the next number
abbrev pub IsFrame : List ℕ → Around → Type 0
IsFrame computer around = (around.computer ≡ computer) × IsId around.next

-- They were taken, or the cursor went on as far as they go.
abbrev pub TakesFrame : List ℕ → LineState → LineState → Result Frame SavedError → Type 0
TakesFrame computer old new (Ok frame) = IsFrame computer (around_of frame) × Passes old new (frame_lines (around_of frame))
TakesFrame computer old new (Err (error.BadLine number)) =
    IsStuck (AreLinesOf (IsFrame computer) frame_lines) old new × (number ≡ new.number)
TakesFrame computer old new (Err error.Memory) = ⊥
