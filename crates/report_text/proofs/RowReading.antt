-- What the fields of a line say of the row that it spells.
use Rattle.std.proofs.Common.{ℕ, suc, ◌≡◌, ℤ, List, [], ◌∷◌, ◌++◌, sym, ap, subst, ◌∙◌, arith, Option}
use Rattle.std.specs.Prelude.{decimal}
use Rattle.std.specs.Fmt.{signed_decimal}
use Rattle.line_forms.specs.FieldLists.{fields_of, line_of}
use Rattle.line_forms.proofs.FieldReading.{again, five_alike, five_same, none_left}
use Rattle.act_rules.specs.declared.row.Note.{Note}
use Rattle.act_rules.specs.declared.row.Outcome.{Outcome}
use Rattle.report_text.specs.declared.form.Form.{Form}
use Rattle.report_text.specs.declared.report_row.ReportRow.{ReportRow}
use Rattle.report_text.specs.declared.row_reader.RowFields.{RowFields}
use Rattle.report_text.specs.ReportRows.{IsAdded, IsNoteIn, IsReportRow}
use Rattle.report_text.specs.RowLines.{row_fields, added_fields, outcome_field, end_field}
use Rattle.report_text.specs.Readings.{SpellsBareRow, IsBareRow}
use Rattle.report_text.proofs.FieldLemmas.{end_one}
use Rattle.report_text.proofs.RowLemmas.{added, added_count, added_one, plain_row}

pub spelled : (form : Form) (rest : List ℕ) (row : ReportRow) → IsReportRow form row → rest ≡ line_of (row_fields form row) → fields_of rest ≡ row_fields form row
spelled form rest row is e = again rest (row_fields form row) (omega arith) (plain_row form row is) e

-- a row has five fields at least
pub five_fields : (form : Form) (row : ReportRow) (old more : List (List ℕ)) → ((a b c d e : List ℕ) (more : List (List ℕ)) → old ≡ a ∷ b ∷ c ∷ d ∷ e ∷ more → ⊥) → old ≡ row_fields form row ++ more → ⊥
five_fields form row old more none e =
    none (decimal row.action) (decimal row.number) (outcome_field row.end) (signed_decimal row.begun) (end_field row.end) (added_fields form row.note ++ more) e

abbrev Taken : RowFields → List (List ℕ) → List (List ℕ)
Taken fields mid = fields.action.now ∷ fields.number.now ∷ fields.outcome.now ∷ fields.begun.now ∷ fields.end.now ∷ mid

matched : (form : Form) (row : ReportRow) (fields : RowFields) (mid more : List (List ℕ)) → Taken fields mid ≡ row_fields form row ++ more → SpellsBareRow fields row × (mid ≡ added_fields form row.note ++ more)
matched form row fields mid more e = let same = five_same e in ((same.0, same.1, (same.2, same.4), same.3), same.5)

bare : (form : Form) (row : ReportRow) → IsReportRow form row → IsBareRow row
bare form row is = (is.action, is.number, is.begun, is.end)

-- the first five fields are those of a row
pub no_bare_row : (form : Form) (row : ReportRow) (fields : RowFields) (old mid more : List (List ℕ)) → old ≡ Taken fields mid → ((row : ReportRow) → IsBareRow row → SpellsBareRow fields row → ⊥) →
    IsReportRow form row → old ≡ row_fields form row ++ more → ⊥
no_bare_row form row fields old mid more taken none is e = none row (bare form row is) (matched form row fields mid more (sym taken ∙ e)).0

-- the fields behind them are those of a note
pub no_note_ahead : (form : Form) (row : ReportRow) (fields : RowFields) (old mid more : List (List ℕ)) → old ≡ Taken fields mid →
    ((note : Note) (more : List (List ℕ)) → IsAdded form note → mid ≡ added_fields form note ++ more → ⊥) → IsReportRow form row → old ≡ row_fields form row ++ more → ⊥
no_note_ahead form row fields old mid more taken none is e = none row.note more (added form row.end row.note is.note) (matched form row fields mid more (sym taken ∙ e)).1

-- which a row can have that ended so
pub other_note : (form : Form) (row read : ReportRow) (fields : RowFields) (old mid new more : List (List ℕ)) (note : Note) → old ≡ Taken fields mid → IsBareRow read → SpellsBareRow fields read →
    IsAdded form note → mid ≡ added_fields form note ++ new → (IsNoteIn form read.end note → ⊥) → IsReportRow form row → old ≡ row_fields form row ++ more → ⊥
other_note form row read fields old mid new more note taken fine spells adds rest cannot is e =
    let m = matched form row fields mid more (sym taken ∙ e) in
    let ends : row.end ≡ read.end = end_one row.end read.end is.end fine.3 (sym m.0.2.0 ∙ spells.2.0) (sym m.0.2.1 ∙ spells.2.1) in
    let notes : row.note ≡ note = added_one form row.note note more new (added form row.end row.note is.note) adds (sym m.1 ∙ rest) in
    let P : Option (ℤ × Outcome) → Type 0 = λ x. IsNoteIn form x row.note in
    let Q : Note → Type 0 = λ n. IsNoteIn form read.end n in
    cannot (subst Q notes (subst P ends is.note))

-- the row that was read
pub row_read : (form : Form) (read : ReportRow) (fields : RowFields) (old mid new : List (List ℕ)) (note : Note) → old ≡ Taken fields mid → IsBareRow read → SpellsBareRow fields read →
    IsNoteIn form read.end note → mid ≡ added_fields form note ++ new →
    let row : ReportRow = record { action = read.action; number = read.number; begun = read.begun; end = read.end; note = note } in IsReportRow form row × (old ≡ row_fields form row ++ new)
row_read form read fields old mid new note taken fine spells noted rest = (
  record { action = fine.0; number = fine.1; begun = fine.2; end = fine.3; note = noted },
  taken ∙ five_alike spells.0 spells.1 spells.2.0 spells.3 spells.2.1 rest,
)

-- nothing is left behind the row
pub no_more : (form : Form) (rest : List ℕ) (row read : ReportRow) (new : List (List ℕ)) → fields_of rest ≡ row_fields form read ++ new → (new ≡ [] → ⊥) → IsReportRow form row → rest ≡ line_of (row_fields form row) → ⊥
no_more form rest row read new taken left is e =
    none_left rest (row_fields form row) (row_fields form read) new (omega arith) (plain_row form row is) (ap (λ n. suc (suc (suc (suc (suc n))))) (added_count form read.note row.note)) taken left e
