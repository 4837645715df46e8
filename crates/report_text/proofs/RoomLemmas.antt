-- The room that the text of a report takes.
use Rattle.std.proofs.Common.{ℕ, zero, suc, ◌≡◌, ◌+◌, ◌<◌, ◌≤◌, List, [], ◌∷◌, ◌++◌, length, refl, sym, ap, ◌∙◌, arith, take, get_or, map, length-append, append_assoc, subst}
use Rattle.std.proofs.lemmas.List.{take_all}
use Rattle.desk_base.specs.Rooms.{HasRoom, RoomState}
use Rattle.std.specs.Prelude.{codes}
use Rattle.line_forms.specs.Lines.{ended_line, lines_text}
use Rattle.report_text.specs.declared.form.Form.{Form}
use Rattle.report_text.specs.declared.report.Report.{Report}
use Rattle.report_text.specs.declared.report_row.ReportRow.{ReportRow}
use Rattle.report_text.specs.RowLines.{row_line}
use Rattle.report_text.specs.Reports.{report_text}
use Rattle.report_text.specs.Writings.{head_text}
use Rattle.report_text.proofs.TextLemmas.{text_before, text_more, text_whole}

front_length : (form : Form) (rows : List ReportRow) (n : ℕ) → length (lines_text (map (row_line form) (take n rows))) ≤ length (lines_text (map (row_line form) rows))
front_length form [] zero = omega arith
front_length form [] (suc n) = omega arith
front_length form (row ∷ rows) zero = omega arith
front_length form (row ∷ rows) (suc n) =
    omega (arith, front_length form rows n, length-append (ended_line (row_line form row)) (lines_text (map (row_line form) (take n rows))), length-append (ended_line (row_line form row)) (lines_text (map (row_line form) rows)))

whole_length : (report : Report) → length (text_before report report.rows) + 4 ≡ length (report_text report)
whole_length report =
    sym (length-append (text_before report report.rows) (codes "end\n")) ∙ ap (length {A = ℕ}) (text_whole report (text_before report report.rows ++ codes "end\n") refl)

-- the head, each further row and the last line have room where the whole text has
pub head_length : (report : Report) → length (head_text report) ≤ length (report_text report)
head_length report = omega (arith, whole_length report, length-append (head_text report) (lines_text (map (row_line report.form) report.rows)))

pub more_length : (report : Report) (i : ℕ) (d : ReportRow) → i < length report.rows →
    length (text_before report (take i report.rows)) + length (ended_line (row_line report.form (get_or report.rows i d))) ≤ length (report_text report)
more_length report i d inside =
    let old = text_before report (take i report.rows) in
    let line = ended_line (row_line report.form (get_or report.rows i d)) in
    let next = text_more report report.rows i d old (old ++ line) inside refl refl in
    let front = lines_text (map (row_line report.form) (take (i + 1) report.rows)) in
    omega (
      arith,
      ap (length {A = ℕ}) next,
      length-append old line,
      length-append (head_text report) front,
      front_length report.form report.rows (i + 1),
      length-append (head_text report) (lines_text (map (row_line report.form) report.rows)),
      whole_length report,
    )

pub end_length : (report : Report) → length (text_before report report.rows) + 4 ≤ length (report_text report)
end_length report = omega (arith, whole_length report)

-- a further row has room, and so has the last line
room_row_at : (report : Report) (i : ℕ) (d : ReportRow) (start now : RoomState) → i < length report.rows → HasRoom start (length (report_text report)) → now.bytes ≡ start.bytes ++ text_before report (take i report.rows) →
    start.capacity ≤ now.capacity → HasRoom now (length (ended_line (row_line report.form (get_or report.rows i d))))
room_row_at report i d start now inside room text cap =
    omega (arith, more_length report i d inside, ap (length {A = ℕ}) text, length-append start.bytes (text_before report (take i report.rows)), room, cap)

pub room_row : (report : Report) (rows : List ReportRow) (i : ℕ) (d : ReportRow) (start now : RoomState) → rows ≡ report.rows → i < length rows → HasRoom start (length (report_text report)) →
    now.bytes ≡ start.bytes ++ text_before report (take i rows) → start.capacity ≤ now.capacity → HasRoom now (length (ended_line (row_line report.form (get_or rows i d))))
room_row report rows i d start now items inside room text cap =
    let R : List ReportRow → Type 0 = λ rs. i < length rs → now.bytes ≡ start.bytes ++ text_before report (take i rs) → HasRoom now (length (ended_line (row_line report.form (get_or rs i d)))) in
    subst R (sym items) (λ h t. room_row_at report i d start now h room t cap) inside text

-- the text as far as all rows
pub all_rows : (report : Report) (rows : List ReportRow) (i : ℕ) (start now : List ℕ) → rows ≡ report.rows → length rows ≤ i → now ≡ start ++ text_before report (take i rows) → now ≡ start ++ text_before report report.rows
all_rows report rows i start now items all text = text ∙ ap (λ r. start ++ text_before report r) (take_all i rows all ∙ items)

pub room_end : (report : Report) (start now : RoomState) → HasRoom start (length (report_text report)) → now.bytes ≡ start.bytes ++ text_before report report.rows → start.capacity ≤ now.capacity → HasRoom now 4
room_end report start now room text cap = omega (arith, end_length report, ap (length {A = ℕ}) text, length-append start.bytes (text_before report report.rows), room, cap)

-- one row more
pub more_text : (report : Report) (rows : List ReportRow) (i : ℕ) (d : ReportRow) (start old new : List ℕ) → i < length rows → old ≡ start ++ text_before report (take i rows) → new ≡ old ++ ended_line (row_line report.form (get_or rows i d)) →
    new ≡ start ++ text_before report (take (i + 1) rows)
more_text report rows i d start old new inside old_is new_is =
    let line = ended_line (row_line report.form (get_or rows i d)) in
    let front = text_before report (take i rows) in
    new_is ∙ ap (λ l. l ++ line) old_is ∙ append_assoc start front line ∙ ap (λ l. start ++ l) (text_more report rows i d front (front ++ line) inside refl refl)

-- and the last line
pub whole_text : (report : Report) (start old new : List ℕ) → old ≡ start ++ text_before report report.rows → new ≡ old ++ codes "end\n" → new ≡ start ++ report_text report
whole_text report start old new old_is new_is =
    new_is ∙ ap (λ l. l ++ codes "end\n") old_is ∙ append_assoc start (text_before report report.rows) (codes "end\n")
    ∙ ap (λ l. start ++ l) (text_whole report (text_before report report.rows ++ codes "end\n") refl)
