-- What the fields of a line say of the attempt that it spells.
use Rattle.std.proofs.Common.{ℕ, suc, ◌≡◌, List, [], ◌∷◌, ◌++◌, Bool, false, sym, ap, subst, ◌∙◌, arith, append-nil}
use Rattle.std.specs.Prelude.{decimal, IfSome, IsTrue, ◌↔◌}
use Rattle.std.specs.Fmt.{signed_decimal}
use Rattle.std.proofs.lemmas.Bool.{iff_false}
use Rattle.line_forms.specs.FieldLists.{fields_of, line_of}
use Rattle.line_forms.proofs.FieldReading.{again, five_alike, five_same, none_left}
use Rattle.act_rules.specs.declared.row.Note.{Note}
use Rattle.act_rules.specs.declared.row.Row.{Row}
use Rattle.report_text.specs.declared.form.Form.{Form}
use Rattle.report_text.specs.ReportRows.{IsAdded, IsExit, IsPlace}
use Rattle.report_text.specs.RowLines.{added_fields, outcome_field, end_field}
use Rattle.report_text.proofs.RowLemmas.{added_count, added_range}
use Rattle.agent_text.specs.declared.attempt_reader.BareFields.{BareFields}
use Rattle.agent_text.specs.AttemptLines.{attempt_fields, cleared_field}
use Rattle.agent_text.specs.SavedRows.{IsSavedRow}
use Rattle.agent_text.specs.PartReadings.{IsAttempt, IsBare, IsNoted, SpellsBare}
use Rattle.agent_text.proofs.AttemptRows.{fields_known, noted, plain_attempt, row_in, saved_in}

-- the fields that were taken, and those behind them
abbrev pub Taken : BareFields → List (List ℕ) → List (List ℕ)
Taken fields mid = fields.number.now ∷ fields.begun.now ∷ fields.outcome.now ∷ fields.end.now ∷ fields.cleared.now ∷ mid

-- an attempt has five fields at least
pub five_fields : (form : Form) (row : Row) (old more : List (List ℕ)) → ((a b c d e : List ℕ) (more : List (List ℕ)) → old ≡ a ∷ b ∷ c ∷ d ∷ e ∷ more → ⊥) → old ≡ attempt_fields form row ++ more → ⊥
five_fields form row old more none e =
    none (decimal row.number) (signed_decimal row.begun) (outcome_field row.end) (end_field row.end) (cleared_field row.cleared) (added_fields form row.note ++ more) e

-- such fields are those of the attempt
matched : (form : Form) (row : Row) (fields : BareFields) (mid more : List (List ℕ)) → Taken fields mid ≡ attempt_fields form row ++ more → SpellsBare fields row × (mid ≡ added_fields form row.note ++ more)
matched form row fields mid more e = let same = five_same e in ((same.0, same.1, (same.2, same.3), same.4), same.5)

-- the first five fields are those of an attempt
pub no_bare : (form : Form) (row : Row) (fields : BareFields) (old mid more : List (List ℕ)) → old ≡ Taken fields mid → ((row : Row) → IsBare row → SpellsBare fields row → ⊥) → IsNoted form row →
    old ≡ attempt_fields form row ++ more → ⊥
no_bare form row fields old mid more taken none is e = none row is.0 (matched form row fields mid more (sym taken ∙ e)).0

-- the fields behind them are those of a note
pub no_note_ahead : (form : Form) (row : Row) (fields : BareFields) (old mid more : List (List ℕ)) → old ≡ Taken fields mid → ((note : Note) (more : List (List ℕ)) → IsAdded form note → mid ≡ added_fields form note ++ more → ⊥) →
    IsNoted form row → old ≡ attempt_fields form row ++ more → ⊥
no_note_ahead form row fields old mid more taken none is e = none row.note more is.1 (matched form row fields mid more (sym taken ∙ e)).1

-- the attempt that was read
pub row_read : (form : Form) (bare : Row) (fields : BareFields) (old mid new : List (List ℕ)) (note : Note) → old ≡ Taken fields mid → IsBare bare → SpellsBare fields bare → IsAdded form note → mid ≡ added_fields form note ++ new →
    let row : Row = record { number = bare.number; begun = bare.begun; end = bare.end; cleared = bare.cleared; note = note } in IsNoted form row × (old ≡ attempt_fields form row ++ new)
row_read form bare fields old mid new note taken fine spells added rest = (
  (fine, added),
  taken ∙ five_alike spells.0 spells.1 spells.2.0 spells.2.1 spells.3 rest,
)

-- the fields of a line that spells an attempt
spelled : (form : Form) (rest : List ℕ) (row : Row) → IsAttempt form row → rest ≡ line_of (attempt_fields form row) → fields_of rest ≡ attempt_fields form row
spelled form rest row is e = again rest (attempt_fields form row) (omega arith) (plain_attempt form row (noted form row is)) e

-- no attempt has these fields
pub no_fields : (form : Form) (rest : List ℕ) (row : Row) → ((row : Row) (more : List (List ℕ)) → IsNoted form row → fields_of rest ≡ attempt_fields form row ++ more → ⊥) → IsAttempt form row → rest ≡ line_of (attempt_fields form row) → ⊥
no_fields form rest row none is e = none row [] (noted form row is) (spelled form rest row is e ∙ sym (append-nil (attempt_fields form row)))

-- nothing is left behind the attempt
pub no_more : (form : Form) (rest : List ℕ) (row read : Row) (new : List (List ℕ)) → fields_of rest ≡ attempt_fields form read ++ new → (new ≡ [] → ⊥) → IsAttempt form row → rest ≡ line_of (attempt_fields form row) → ⊥
no_more form rest row read new taken left is e =
    none_left rest (attempt_fields form row) (attempt_fields form read) new (omega arith) (plain_attempt form row (noted form row is)) (ap (λ n. suc (suc (suc (suc (suc n))))) (added_count form read.note row.note)) taken left e

-- the attempt that was read is the one that is spelled
pub other_row : (form : Form) (rest : List ℕ) (row read : Row) (new : List (List ℕ)) (answer : Bool) → fields_of rest ≡ attempt_fields form read ++ new → new ≡ [] → IsNoted form read → answer ≡ false →
    (IfSome read.note.exit IsExit → IfSome read.note.place IsPlace → (IsTrue answer ↔ IsSavedRow read)) → IsAttempt form row → rest ≡ line_of (attempt_fields form row) → ⊥
other_row form rest row read new answer taken none fine fails says is e =
    let same : row ≡ read = fields_known form row read (noted form row is) fine (sym (spelled form rest row is e) ∙ taken ∙ ap (λ l. attempt_fields form read ++ l) none ∙ append-nil (attempt_fields form read)) in
    let S : Row → Type 0 = λ r. IsSavedRow r in
    let range = added_range form read.note fine.1 in
    iff_false (says range.0 range.1) fails (subst S same (saved_in form row is.1))

-- the attempt that was read can be saved
pub row_good : (form : Form) (read : Row) (answer : Bool) → IsNoted form read → IsTrue answer → (IfSome read.note.exit IsExit → IfSome read.note.place IsPlace → (IsTrue answer ↔ IsSavedRow read)) → IsAttempt form read
row_good form read answer fine passed says = let range = added_range form read.note fine.1 in (fine.0, row_in form read fine.1 ((says range.0 range.1).0 passed))
