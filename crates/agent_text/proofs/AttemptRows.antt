-- A line is that of one attempt.
use Rattle.std.proofs.Common.{ℕ, ◌≡◌, ℤ, [], ◌∷◌, sym, ap, ◌∙◌, arith, Option, Some, None, All, append-nil}
use Rattle.std.specs.Prelude.{codes, decimal, IfSome}
use Rattle.std.specs.Fmt.{signed_decimal}
use Rattle.std.proofs.lemmas.List.{append_cancel_left}
use Rattle.std.proofs.lemmas.List.Elements.{All-cons}
use Rattle.std.proofs.lemmas.Fmt.{decimal_injective}
use Rattle.line_forms.specs.Fields.{field_text}
use Rattle.line_forms.proofs.FieldReading.{fields_one}
use Rattle.line_forms.proofs.Passing.{cons_head, cons_tail}
use Rattle.line_forms.proofs.PlainLemmas.{IsPlain, plain_decimal, plain_moment, moment_one}
use Rattle.act_rules.specs.declared.row.Note.{Note}
use Rattle.act_rules.specs.declared.row.Row.{Row}
use Rattle.act_rules.specs.declared.row.Outcome.{Outcome}
use Rattle.act_rules.specs.declared.row.Outcome.TheVariants.{Fixed, Failed, Interrupted}
use Rattle.report_text.specs.declared.form.Form.{Form}
use Rattle.report_text.specs.declared.form.Form.TheVariants.{One, Two}
use Rattle.act_rules.specs.Notes.{no_note}
use Rattle.report_text.specs.ReportRows.{IsAdded, IsExit, IsPlace}
use Rattle.report_text.specs.RowLines.{added_fields, outcome_field, end_field}
use Rattle.report_text.proofs.FieldLemmas.{end_one, plain_end, plain_outcome}
use Rattle.report_text.proofs.RowLemmas.{added_one, added_range, no_place, plain_added}
use Rattle.agent_text.specs.AttemptLines.{attempt_fields, attempt_line, cleared_field}
use Rattle.agent_text.specs.SavedRows.{IsSavedRow, IsSavedAt}
use Rattle.agent_text.specs.PartReadings.{IsAttempt, IsNoted, IsRowIn}
use Rattle.agent_text.proofs.AttemptFields.{cleared_one, plain_cleared}

-- ---- notes
-- the note of a row that can be saved has an exit code and a place in range
none_in_range : (note : Note) → note ≡ no_note → IfSome note.exit IsExit × IfSome note.place IsPlace
none_in_range note h = added_range One note h

in_range : (end : Option (ℤ × Outcome)) (row : Row) → IsSavedAt end row → IfSome row.note.exit IsExit × IfSome row.note.place IsPlace
in_range None row h = none_in_range row.note h.0
in_range (Some (t, Fixed)) row h = (h.0, no_place row.note.place h.1)
in_range (Some (t, Failed)) row h = h
in_range (Some (t, Interrupted)) row h = none_in_range row.note h

-- what a form adds of a row that it can have
pub added : (form : Form) (row : Row) → IsRowIn form row → IsAdded form row.note
added One row h = h.1
added Two row h = in_range row.end row h

-- an attempt has any note that its form adds
pub noted : (form : Form) (row : Row) → IsAttempt form row → IsNoted form row
noted form row h = (h.0, added form row h.1)

-- such a row with its note is one that the form can have
pub row_in : (form : Form) (row : Row) → IsAdded form row.note → IsSavedRow row → IsRowIn form row
row_in One row h saved = (saved, h)
row_in Two row h saved = saved

-- and the other way round
pub saved_in : (form : Form) (row : Row) → IsRowIn form row → IsSavedRow row
saved_in One row h = h.0
saved_in Two row h = h

-- ---- fields
-- the fields of an attempt are plain
pub plain_attempt : (form : Form) (row : Row) → IsNoted form row → All IsPlain (attempt_fields form row)
plain_attempt form row ((least, most, (begun, ended, cleared)), fine) =
    let four = cleared_field row.cleared ∷ added_fields form row.note in
    let three = end_field row.end ∷ four in
    let two = outcome_field row.end ∷ three in
    let one = signed_decimal row.begun ∷ two in
    All-cons IsPlain (decimal row.number) one (plain_decimal row.number (omega (arith, most)))
    (All-cons IsPlain (signed_decimal row.begun) two (plain_moment row.begun begun)
    (All-cons IsPlain (outcome_field row.end) three (plain_outcome row.end)
    (All-cons IsPlain (end_field row.end) four (plain_end row.end ended)
    (All-cons IsPlain (cleared_field row.cleared) (added_fields form row.note) (plain_cleared row.cleared cleared) (plain_added form row.note fine)))))

row_is : (a b : Row) → a.number ≡ b.number → a.begun ≡ b.begun → a.end ≡ b.end → a.cleared ≡ b.cleared → a.note ≡ b.note → a ≡ b
row_is a b h k l m n =
    ap (λ (x : ℕ). let r : Row = record { number = x; begun = a.begun; end = a.end; cleared = a.cleared; note = a.note } in r) h
    ∙ ap (λ (x : ℤ). let r : Row = record { number = b.number; begun = x; end = a.end; cleared = a.cleared; note = a.note } in r) k
    ∙ ap (λ (x : Option (ℤ × Outcome)). let r : Row = record { number = b.number; begun = b.begun; end = x; cleared = a.cleared; note = a.note } in r) l
    ∙ ap (λ (x : Option ℤ). let r : Row = record { number = b.number; begun = b.begun; end = b.end; cleared = x; note = a.note } in r) m
    ∙ ap (λ (x : Note). let r : Row = record { number = b.number; begun = b.begun; end = b.end; cleared = b.cleared; note = x } in r) n

-- fields are those of one attempt
pub fields_known : (form : Form) (a b : Row) → IsNoted form a → IsNoted form b → attempt_fields form a ≡ attempt_fields form b → a ≡ b
fields_known form a b ((least_a, most_a, (begun_a, ended_a, cleared_a)), added_a) ((least_b, most_b, (begun_b, ended_b, cleared_b)), added_b) e =
    let e2 = cons_tail _ _ _ _ e in
    let e3 = cons_tail _ _ _ _ e2 in
    let e4 = cons_tail _ _ _ _ e3 in
    let e5 = cons_tail _ _ _ _ e4 in
    row_is a b
    (decimal_injective a.number b.number (omega (arith, most_a)) (omega (arith, most_b)) (cons_head _ _ _ _ e))
    (moment_one a.begun b.begun begun_a begun_b (cons_head _ _ _ _ e2))
    (end_one a.end b.end ended_a ended_b (cons_head _ _ _ _ e3) (cons_head _ _ _ _ e4))
    (cleared_one a.cleared b.cleared cleared_a cleared_b (cons_head _ _ _ _ e5))
    (added_one form a.note b.note [] [] added_a added_b (append-nil (added_fields form a.note) ∙ cons_tail _ _ _ _ e5 ∙ sym (append-nil (added_fields form b.note))))

-- a line is that of one attempt
pub attempt_one : (form : Form) (a b : Row) → IsNoted form a → IsNoted form b → attempt_line form a ≡ attempt_line form b → a ≡ b
attempt_one form a b h k e =
    fields_known form a b h k
    (fields_one (attempt_fields form a) (attempt_fields form b) (omega arith) (omega arith) (plain_attempt form a h) (plain_attempt form b k) (append_cancel_left (field_text (codes "attempt")) _ _ e))
