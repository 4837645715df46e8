-- The text of a report isn't too long, and the most bytes of its fields. Other crates may cite these lemmas.
use Rattle.std.proofs.Common.{ℕ, ap, ◌≡◌, ◌+◌, ◌*◌, ◌≤◌, ℤ, List, [], ◌∷◌, ◌++◌, length, All, map, Option, Some, None, arith, length-append}
use Rattle.std.specs.Prelude.{codes, decimal, IfSome}
use Rattle.std.specs.Fmt.{signed_decimal}
use Rattle.std.proofs.lemmas.Fmt.{length-decimal-le, length_signed_le}
use Rattle.std.proofs.lemmas.List.Elements.{All-head, All-tail}
use Rattle.desk_base.specs.Rooms.{HasRoom, RoomState}
use Rattle.line_forms.specs.Fields.{field_text}
use Rattle.line_forms.specs.FieldLists.{line_of}
use Rattle.line_forms.specs.Lines.{ended_line, lines_text}
use Rattle.line_forms.specs.Names.{IsName}
use Rattle.line_forms.specs.Numbers.{IsId}
use Rattle.line_forms.proofs.LineBytes.{id_length, joined_length, moment_length}
use Rattle.act_rules.specs.declared.row.Note.{Note}
use Rattle.act_rules.specs.declared.row.Outcome.{Outcome}
use Rattle.act_rules.specs.declared.row.Outcome.TheVariants.{Fixed, Failed, Interrupted}
use Rattle.report_text.specs.declared.form.Form.{Form}
use Rattle.report_text.specs.declared.form.Form.TheVariants.{One, Two}
use Rattle.report_text.specs.declared.report.Report.{Report}
use Rattle.report_text.specs.declared.report_row.ReportRow.{ReportRow}
use Rattle.report_text.specs.ReportRows.{IsExit, IsPlace, IsNoteIn, IsReportRow}
use Rattle.report_text.specs.RowLines.{outcome_field, end_field, exit_field, component_field, line_field, row_fields, row_line}
use Rattle.report_text.specs.Reports.{IsReport, form_line, computer_line, seq_line, end_line, report_text}
use Rattle.report_text.specs.FieldTexts.{IsEnd}
use Rattle.report_text.specs.Writings.{added_text}
use Rattle.report_text.proofs.RowLemmas.{note_exit, note_place}
use Rattle.report_text.proofs.TextLemmas.{added_line}
use Rattle.report_text.proofs.FieldLemmas.{exit_mag}

pub outcome_length : (e : Option (ℤ × Outcome)) → length (outcome_field e) ≤ 11
outcome_length None = omega arith
outcome_length (Some (t, Fixed)) = omega arith
outcome_length (Some (t, Failed)) = omega arith
outcome_length (Some (t, Interrupted)) = omega arith

pub end_length : (e : Option (ℤ × Outcome)) → IsEnd e → length (end_field e) ≤ 12
end_length None h = omega arith
end_length (Some e) h = moment_length e.0 h

pub exit_length : (e : Option ℤ) → IfSome e IsExit → length (exit_field e) ≤ 20
exit_length None h = omega arith
exit_length (Some x) h = let m = exit_mag x h in let l = length_signed_le 19 x (omega (arith, m)) m in omega (arith, l)

pub component_length : (p : Option (ℕ × ℕ)) → IfSome p IsPlace → length (component_field p) ≤ 10
component_length None h = omega arith
component_length (Some p) h = length-decimal-le 10 p.0 (omega arith) (omega (arith, h.0)) (omega (arith, h.0))

pub line_length : (p : Option (ℕ × ℕ)) → IfSome p IsPlace → length (line_field p) ≤ 10
line_length None h = omega arith
line_length (Some p) h = length-decimal-le 10 p.1 (omega arith) (omega (arith, h.1)) (omega (arith, h.1))

added_length : (form : Form) (end : Option (ℤ × Outcome)) (note : Note) → IsNoteIn form end note → length (added_text form note) ≤ 43
added_length One end note h = omega arith
added_length Two end note h =
    let x = exit_length note.exit (note_exit end note h) in
    let c = component_length note.place (note_place end note h) in
    let l = line_length note.place (note_place end note h) in
    let inner = length-append (32 ∷ component_field note.place) (32 ∷ line_field note.place) in
    let all = length-append (32 ∷ exit_field note.exit) ((32 ∷ component_field note.place) ++ (32 ∷ line_field note.place)) in
    omega (arith, x, c, l, inner, all)

pub fields_length : (form : Form) (row : ReportRow) → IsReportRow form row → length (line_of (row_fields form row)) ≤ 108
fields_length form row h =
    let action = id_length row.action h.action in
    let number = length-decimal-le 10 row.number (omega arith) (omega (arith, h.number.1)) (omega (arith, h.number.1)) in
    let last = end_field row.end ++ added_text form row.note in
    let last_size : length last ≤ 12 + 43 = omega (arith, length-append (end_field row.end) (added_text form row.note), end_length row.end h.end, added_length form row.end row.note h.note) in
    let begun = joined_length (signed_decimal row.begun) last 12 55 (moment_length row.begun h.begun) (omega (arith, last_size)) in
    let outcome = joined_length (outcome_field row.end) (signed_decimal row.begun ++ 32 ∷ last) 11 68 (outcome_length row.end) (omega (arith, begun)) in
    let numbers = joined_length (decimal row.number) (outcome_field row.end ++ 32 ∷ (signed_decimal row.begun ++ 32 ∷ last)) 10 80 number (omega (arith, outcome)) in
    let fields = joined_length (decimal row.action) (decimal row.number ++ 32 ∷ (outcome_field row.end ++ 32 ∷ (signed_decimal row.begun ++ 32 ∷ last))) 16 91 action (omega (arith, numbers)) in
    rw (added_line form (end_field row.end) row.note) fields

row_length : (form : Form) (row : ReportRow) → IsReportRow form row → length (ended_line (row_line form row)) ≤ 113
row_length form row h =
    let fields = line_of (row_fields form row) in
    omega (arith, fields_length form row h, length-append fields (10 ∷ []))

rows_length : (form : Form) (rows : List ReportRow) → All (IsReportRow form) rows → length (lines_text (map (row_line form) rows ++ end_line ∷ [])) ≤ 113 * length rows + 4
rows_length form [] h = omega arith
rows_length form (row ∷ rows) h =
    let one = row_length form row (All-head (IsReportRow form) row rows h) in
    let more = rows_length form rows (All-tail (IsReportRow form) row rows h) in
    let all = length-append (ended_line (row_line form row)) (lines_text (map (row_line form) rows ++ end_line ∷ [])) in
    omega (arith, one, more, all)

form_length : (form : Form) → length (ended_line (form_line form)) ≤ 9
form_length One = omega arith
form_length Two = omega arith

pub computer_length : (name : List ℕ) → IsName name → length (computer_line name) ≤ 73
computer_length name is = omega (arith, is.1, length-append (field_text (codes "computer")) name)

pub seq_length : (seq : ℕ) → IsId seq → length (seq_line seq) ≤ 20
seq_length seq is = omega (arith, id_length seq is, length-append (field_text (codes "seq")) (decimal seq))

four_parts : (a b c d : List ℕ) (k l m n : ℕ) → length a ≤ k → length b ≤ l → length c ≤ m → length d ≤ n → length (a ++ (b ++ (c ++ d))) ≤ k + (l + (m + n))
four_parts a b c d k l m n h i j o = omega (arith, h, i, j, o, length-append a (b ++ (c ++ d)), length-append b (c ++ d), length-append c d)

pub report_room : (report : Report) → IsReport report → length (report_text report) ≤ 108 + 113 * length report.rows
report_room report good =
    let rows = lines_text (map (row_line report.form) report.rows ++ end_line ∷ []) in
    let size = rows_length report.form report.rows good.rows.good in
    let all = four_parts (ended_line (form_line report.form)) (ended_line (computer_line report.computer)) (ended_line (seq_line report.seq)) rows 9 74 21 (113 * length report.rows + 4)
    (form_length report.form) (omega (arith, computer_length report.computer good.computer, length-append (computer_line report.computer) (10 ∷ [])))
    (omega (arith, seq_length report.seq good.seq, length-append (seq_line report.seq) (10 ∷ []))) size in
    omega (arith, all)

pub report_length : (report : Report) → IsReport report → length (report_text report) ≤ 65536
report_length report good = omega (arith, report_room report good, good.rows.few)

-- room that is reckoned by the number of rows is enough
pub room_fits : (report : Report) (room : RoomState) (rows : ℕ) → IsReport report → rows ≡ length report.rows → room.bytes ≡ [] → 108 + 113 * rows ≤ room.capacity → HasRoom room (length (report_text report))
room_fits report room rows good count empty cap = omega (arith, report_room report good, count, ap (length {A = ℕ}) empty, cap)
