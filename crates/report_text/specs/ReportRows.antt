-- The rows that a report can have.
use Rattle.std.specs.Prelude.{◌≡◌, ℕ, ◌^◌, ◌-◌, ◌<◌, ◌≤◌, ℤ, pos, negsuc, ◌≤ℤ◌, List, [], ◌∷◌, Option, Some, None, IfSome, IsSomeAnd}
use Rattle.desk_base.specs.Moments.{IsMoment}
use Rattle.line_forms.specs.Numbers.{IsId}
use Rattle.act_rules.specs.declared.row.Note.{Note}
use Rattle.act_rules.specs.Notes.{no_note}
use Rattle.act_rules.specs.declared.row.Outcome.{Outcome}
use Rattle.act_rules.specs.declared.row.Outcome.TheVariants.{Fixed, Failed, Interrupted}
use Rattle.report_text.specs.declared.form.Form.{Form}
use Rattle.report_text.specs.declared.form.Form.TheVariants.{One, Two}
use Rattle.report_text.specs.declared.report_row.ReportRow.{ReportRow}

-- the number of an attempt: from 1, of 32 bits
abbrev pub IsAttempt : ℕ → Type 0
IsAttempt number = (1 ≤ number) × (number ≤ 2 ^ 32 - 1)

-- an exit code: a signed number of 64 bits
abbrev pub IsExit : ℤ → Type 0
IsExit exit = (negsuc (2 ^ 63 - 1) ≤ℤ exit) × (exit ≤ℤ pos (2 ^ 63 - 1))

-- the place of a failure: a component and a line, of 32 bits each
abbrev pub IsPlace : ℕ × ℕ → Type 0
IsPlace place = (place.0 ≤ 2 ^ 32 - 1) × (place.1 ≤ 2 ^ 32 - 1)

-- A fixed row may have an exit code, a failed one may too and has a place, and an interrupted one has neither.
abbrev pub IsNoteOf : Outcome → Note → Type 0
IsNoteOf Fixed note = IfSome note.exit IsExit × (note.place ≡ None)
IsNoteOf Failed note = IfSome note.exit IsExit × IsSomeAnd note.place IsPlace
IsNoteOf Interrupted note = note ≡ no_note

-- a row that runs has neither
abbrev pub IsNoteAt : Option (ℤ × Outcome) → Note → Type 0
IsNoteAt None note = note ≡ no_note
IsNoteAt (Some end) note = IsNoteOf end.1 note

-- in a report of form One all notes are empty
abbrev pub IsNoteIn : Form → Option (ℤ × Outcome) → Note → Type 0
IsNoteIn One end note = note ≡ no_note
IsNoteIn Two end note = IsNoteAt end note

-- what a form adds to the fields of a row, and to those of an attempt: nothing, or any exit code and place
abbrev pub IsAdded : Form → Note → Type 0
IsAdded One note = note ≡ no_note
IsAdded Two note = IfSome note.exit IsExit × IfSome note.place IsPlace

-- a row that a report of this form can have
pub record IsReportRow (form : Form) (row : ReportRow) : Type 0 where
  pub action : IsId row.action
  pub number : IsAttempt row.number
  pub begun : IsMoment row.begun
  pub end : IfSome row.end (λ end. IsMoment end.0)
  pub note : IsNoteIn form row.end row.note

-- the rows are in strictly ascending order of actions
abbrev pub AreAscending : List ReportRow → Type 0
AreAscending [] = Unit {0}
AreAscending (row ∷ []) = Unit {0}
AreAscending (row ∷ next ∷ rows) = (row.action < next.action) × AreAscending (next ∷ rows)
