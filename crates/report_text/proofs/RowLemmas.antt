-- A line is that of one row. Other crates may cite these lemmas.
use Rattle.std.proofs.Common.{ℕ, ◌≡◌, ℤ, List, [], ◌∷◌, ◌++◌, length, refl, sym, ap, ◌∙◌, arith, Option, Some, None, All, append-nil}
use Rattle.std.specs.Prelude.{codes, decimal, IfSome, IsSomeAnd}
use Rattle.std.specs.Fmt.{signed_decimal}
use Rattle.std.proofs.lemmas.List.{append_cancel_left}
use Rattle.std.proofs.lemmas.List.Elements.{All-nil, All-cons}
use Rattle.std.proofs.lemmas.Fmt.{decimal_injective}
use Rattle.line_forms.specs.Fields.{field_text}
use Rattle.line_forms.proofs.FieldReading.{fields_one}
use Rattle.line_forms.proofs.Passing.{cons_head, cons_tail}
use Rattle.line_forms.proofs.PlainLemmas.{IsPlain, id_one, moment_one, plain_decimal, plain_id, plain_moment}
use Rattle.act_rules.specs.declared.row.Note.{Note}
use Rattle.act_rules.specs.declared.row.Outcome.{Outcome}
use Rattle.act_rules.specs.declared.row.Outcome.TheVariants.{Fixed, Failed, Interrupted}
use Rattle.report_text.specs.declared.form.Form.{Form}
use Rattle.report_text.specs.declared.form.Form.TheVariants.{One, Two}
use Rattle.report_text.specs.declared.report_row.ReportRow.{ReportRow}
use Rattle.report_text.specs.ReportRows.{IsAdded, IsExit, IsPlace, IsNoteAt, IsNoteIn, IsReportRow}
use Rattle.report_text.specs.RowLines.{added_fields, outcome_field, end_field, row_fields, row_line, exit_field, component_field, line_field}
use Rattle.report_text.specs.Reports.{end_line}
use Rattle.report_text.proofs.FieldLemmas.{plain_outcome, plain_end, plain_exit, plain_component, plain_line, end_one, exit_one, place_one}

-- ---- notes
pub note_is : (a b : Note) → a.exit ≡ b.exit → a.place ≡ b.place → a ≡ b
note_is a b h k = ap (λ (e : Option ℤ). let n : Note = record { exit = e; place = a.place } in n) h ∙ ap (λ (p : Option (ℕ × ℕ)). let n : Note = record { exit = b.exit; place = p } in n) k

some_place : (p : Option (ℕ × ℕ)) → IsSomeAnd p IsPlace → IfSome p IsPlace
some_place None h = absurd h
some_place (Some p) h = h

pub no_place : (p : Option (ℕ × ℕ)) → p ≡ None → IfSome p IsPlace
no_place None h = tt
no_place (Some p) h = cc

pub no_exit : (e : Option ℤ) → e ≡ None → IfSome e IsExit
no_exit None h = tt
no_exit (Some e) h = cc

-- what a form adds has an exit code and a place in range
pub added_range : (form : Form) (note : Note) → IsAdded form note → IfSome note.exit IsExit × IfSome note.place IsPlace
added_range One note h = (no_exit note.exit (ap (λ (n : Note). n.exit) h), no_place note.place (ap (λ (n : Note). n.place) h))
added_range Two note h = h

-- and so has the note of a row
pub note_exit : (end : Option (ℤ × Outcome)) (note : Note) → IsNoteAt end note → IfSome note.exit IsExit
note_exit None note h = no_exit note.exit (ap (λ (n : Note). n.exit) h)
note_exit (Some (t, Fixed)) note h = h.0
note_exit (Some (t, Failed)) note h = h.0
note_exit (Some (t, Interrupted)) note h = no_exit note.exit (ap (λ (n : Note). n.exit) h)

pub note_place : (end : Option (ℤ × Outcome)) (note : Note) → IsNoteAt end note → IfSome note.place IsPlace
note_place None note h = no_place note.place (ap (λ (n : Note). n.place) h)
note_place (Some (t, Fixed)) note h = no_place note.place h.1
note_place (Some (t, Failed)) note h = some_place note.place h.1
note_place (Some (t, Interrupted)) note h = no_place note.place (ap (λ (n : Note). n.place) h)

-- which is what its form adds
pub added : (form : Form) (end : Option (ℤ × Outcome)) (note : Note) → IsNoteIn form end note → IsAdded form note
added One end note h = h
added Two end note h = (note_exit end note h, note_place end note h)

-- the fields of a note are those of one note, whatever follows
pub added_one : (form : Form) (a b : Note) (x y : List (List ℕ)) → IsAdded form a → IsAdded form b → added_fields form a ++ x ≡ added_fields form b ++ y → a ≡ b
added_one One a b x y h k e = h ∙ sym k
added_one Two a b x y h k e =
    let rest = cons_tail (exit_field a.exit) (exit_field b.exit) (component_field a.place ∷ line_field a.place ∷ x) (component_field b.place ∷ line_field b.place ∷ y) e in
    note_is a b (exit_one a.exit b.exit h.0 k.0 (cons_head (exit_field a.exit) (exit_field b.exit) _ _ e))
    (place_one a.place b.place h.1 k.1 (cons_head (component_field a.place) (component_field b.place) _ _ rest)
    (cons_head (line_field a.place) (line_field b.place) x y (cons_tail (component_field a.place) (component_field b.place) _ _ rest)))

pub added_count : (form : Form) (a b : Note) → length (added_fields form a) ≡ length (added_fields form b)
added_count One a b = refl
added_count Two a b = refl

pub plain_added : (form : Form) (note : Note) → IsAdded form note → All IsPlain (added_fields form note)
plain_added One note h = All-nil IsPlain
plain_added Two note h =
    All-cons IsPlain (exit_field note.exit) (component_field note.place ∷ line_field note.place ∷ []) (plain_exit note.exit h.0)
    (All-cons IsPlain (component_field note.place) (line_field note.place ∷ []) (plain_component note.place h.1)
    (All-cons IsPlain (line_field note.place) [] (plain_line note.place h.1) (All-nil IsPlain)))

-- ---- rows
-- the fields of a row are plain
pub plain_row : (form : Form) (row : ReportRow) → IsReportRow form row → All IsPlain (row_fields form row)
plain_row form row h =
    let four = end_field row.end ∷ added_fields form row.note in
    let three = signed_decimal row.begun ∷ four in
    let two = outcome_field row.end ∷ three in
    let one = decimal row.number ∷ two in
    All-cons IsPlain (decimal row.action) one (plain_id row.action h.action)
    (All-cons IsPlain (decimal row.number) two (plain_decimal row.number (omega (arith, h.number.1)))
    (All-cons IsPlain (outcome_field row.end) three (plain_outcome row.end)
    (All-cons IsPlain (signed_decimal row.begun) four (plain_moment row.begun h.begun)
    (All-cons IsPlain (end_field row.end) (added_fields form row.note) (plain_end row.end h.end) (plain_added form row.note (added form row.end row.note h.note))))))

row_is : (a b : ReportRow) → a.action ≡ b.action → a.number ≡ b.number → a.begun ≡ b.begun → a.end ≡ b.end → a.note ≡ b.note → a ≡ b
row_is a b h k l m n =
    ap (λ (x : ℕ). let r : ReportRow = record { action = x; number = a.number; begun = a.begun; end = a.end; note = a.note } in r) h
    ∙ ap (λ (x : ℕ). let r : ReportRow = record { action = b.action; number = x; begun = a.begun; end = a.end; note = a.note } in r) k
    ∙ ap (λ (x : ℤ). let r : ReportRow = record { action = b.action; number = b.number; begun = x; end = a.end; note = a.note } in r) l
    ∙ ap (λ (x : Option (ℤ × Outcome)). let r : ReportRow = record { action = b.action; number = b.number; begun = b.begun; end = x; note = a.note } in r) m
    ∙ ap (λ (x : Note). let r : ReportRow = record { action = b.action; number = b.number; begun = b.begun; end = b.end; note = x } in r) n

-- fields are those of one row
fields_known : (form : Form) (a b : ReportRow) → IsReportRow form a → IsReportRow form b → row_fields form a ≡ row_fields form b → a ≡ b
fields_known form a b h k e =
    let action = id_one a.action b.action h.action k.action (cons_head _ _ _ _ e) in
    let e2 = cons_tail _ _ _ _ e in
    let number = decimal_injective a.number b.number (omega (arith, h.number.1)) (omega (arith, k.number.1)) (cons_head _ _ _ _ e2) in
    let e3 = cons_tail _ _ _ _ e2 in
    let e4 = cons_tail _ _ _ _ e3 in
    let begun = moment_one a.begun b.begun h.begun k.begun (cons_head _ _ _ _ e4) in
    let e5 = cons_tail _ _ _ _ e4 in
    let end = end_one a.end b.end h.end k.end (cons_head _ _ _ _ e3) (cons_head _ _ _ _ e5) in
    let note = added_one form a.note b.note [] [] (added form a.end a.note h.note) (added form b.end b.note k.note)
    (append-nil (added_fields form a.note) ∙ cons_tail _ _ _ _ e5 ∙ sym (append-nil (added_fields form b.note))) in
    row_is a b action number begun end note

-- a line is that of one row
pub row_one : (form : Form) (a b : ReportRow) → IsReportRow form a → IsReportRow form b → row_line form a ≡ row_line form b → a ≡ b
row_one form a b h k e =
    fields_known form a b h k
    (fields_one (row_fields form a) (row_fields form b) (omega arith) (omega arith) (plain_row form a h) (plain_row form b k) (append_cancel_left (field_text (codes "row")) _ _ e))

-- the line of a row isn't the last one
pub row_not_end : (form : Form) (row : ReportRow) → row_line form row ≡ end_line → ⊥
row_not_end form row h = cc
