-- The rows that a saved text can have.
use Rattle.std.specs.Prelude.{◌≡◌, ◌<◌, ℤ, List, length, All, Option, Some, None, IfSome}
use Rattle.act_rules.specs.declared.row.Note.{Note}
use Rattle.act_rules.specs.declared.row.Row.{Row}
use Rattle.act_rules.specs.declared.row.Outcome.{Outcome}
use Rattle.act_rules.specs.declared.row.Outcome.TheVariants.{Fixed, Failed, Interrupted}
use Rattle.act_rules.specs.Rows.{IsRows}
use Rattle.act_rules.specs.Notes.{no_note}
use Rattle.report_text.specs.ReportRows.{IsExit, IsPlace}

-- A fixed attempt may have an exit code. A failed one may have one too, and a place: it has none where it was read from a text of
-- form One. An interrupted one has neither.
abbrev pub IsSavedNote : Outcome → Note → Type 0
IsSavedNote Fixed note = IfSome note.exit IsExit × (note.place ≡ None)
IsSavedNote Failed note = IfSome note.exit IsExit × IfSome note.place IsPlace
IsSavedNote Interrupted note = note ≡ no_note

-- an attempt that runs has no note, and isn't cleared
abbrev pub IsSavedAt : Option (ℤ × Outcome) → Row → Type 0
IsSavedAt None row = (row.note ≡ no_note) × (row.cleared ≡ None)
IsSavedAt (Some end) row = IsSavedNote end.1 row.note

-- a row that a saved text can have
abbrev pub IsSavedRow : Row → Type 0
IsSavedRow row = IsSavedAt row.end row

-- the rows of an action in a saved text: one or more
pub record AreSavedRows (rows : List Row) : Type 0 where
  pub some : 0 < length rows
  pub numbered : IsRows rows
  pub good : All IsSavedRow rows
