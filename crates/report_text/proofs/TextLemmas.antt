-- The texts that are written.
use Rattle.std.proofs.Common.{ℕ, ◌≡◌, ◌+◌, ◌<◌, List, [], ◌∷◌, ◌++◌, length, refl, sym, ap, ◌∙◌, take, get_or, map, append_assoc, append-nil}
use Rattle.std.specs.Prelude.{codes, decimal}
use Rattle.std.specs.Fmt.{signed_decimal}
use Rattle.std.proofs.lemmas.List.{take_more}
use Rattle.line_forms.specs.FieldLists.{line_of}
use Rattle.line_forms.specs.Lines.{ended_line, lines_text}
use Rattle.line_forms.proofs.LineLemmas.{lines_text-snoc}
use Rattle.line_forms.proofs.Passing.{map_snoc}
use Rattle.act_rules.specs.declared.row.Note.{Note}
use Rattle.report_text.specs.declared.form.Form.{Form}
use Rattle.report_text.specs.declared.form.Form.TheVariants.{One, Two}
use Rattle.report_text.specs.declared.report.Report.{Report}
use Rattle.report_text.specs.declared.report_row.ReportRow.{ReportRow}
use Rattle.report_text.specs.RowLines.{row_line, row_fields, added_fields, outcome_field, end_field}
use Rattle.report_text.specs.Reports.{report_text, form_line, computer_line, seq_line, end_line}
use Rattle.report_text.specs.Writings.{added_text, fields_text, head_text}

-- a field, and what a form adds behind it
pub added_line : (form : Form) (field : List ℕ) (note : Note) → line_of (field ∷ added_fields form note) ≡ field ++ added_text form note
added_line One field note = sym (append-nil field)
added_line Two field note = refl

-- the fields of a row, and its parts
pub fields_in_parts : (form : Form) (row : ReportRow) → line_of (row_fields form row) ≡ fields_text form row
fields_in_parts form row =
    rw (added_line form (end_field row.end) row.note)
    (regrouped (decimal row.action) (decimal row.number) (outcome_field row.end) (signed_decimal row.begun) (end_field row.end) (added_text form row.note))
  where
    regrouped : (a b c d e f : List ℕ) → a ++ 32 ∷ (b ++ 32 ∷ (c ++ 32 ∷ (d ++ 32 ∷ (e ++ f)))) ≡ (a ++ 32 ∷ b) ++ (((32 ∷ c) ++ ((32 ∷ d) ++ (32 ∷ e))) ++ f)
    regrouped a b c d e f = simp append_assoc refl

-- the text as far as these rows
abbrev pub text_before : Report → List ReportRow → List ℕ
text_before report rows = head_text report ++ lines_text (map (row_line report.form) rows)

pub text_more : (report : Report) (rows : List ReportRow) (i : ℕ) (d : ReportRow) (old new : List ℕ) → i < length rows → old ≡ text_before report (take i rows) →
    new ≡ old ++ ended_line (row_line report.form (get_or rows i d)) → new ≡ text_before report (take (i + 1) rows)
text_more report rows i d old new h old_is new_is =
    new_is ∙ ap (λ l. l ++ ended_line (row_line report.form (get_or rows i d))) old_is
    ∙ append_assoc (head_text report) (lines_text (map (row_line report.form) (take i rows))) (ended_line (row_line report.form (get_or rows i d)))
    ∙ ap (λ l. head_text report ++ l) (sym (lines_text-snoc (map (row_line report.form) (take i rows)) (row_line report.form (get_or rows i d)))
    ∙ ap lines_text (sym (map_snoc (row_line report.form) (take i rows) (get_or rows i d)) ∙ ap (map (row_line report.form)) (sym (take_more rows i d h))))

-- the whole text
pub text_whole : (report : Report) (out : List ℕ) → out ≡ text_before report report.rows ++ codes "end\n" → out ≡ report_text report
text_whole report out h =
    h ∙ append_assoc (head_text report) (lines_text (map (row_line report.form) report.rows)) (codes "end\n")
    ∙ ap (λ l. head_text report ++ l) (sym (lines_text-snoc (map (row_line report.form) report.rows) end_line))
    ∙ three_lines (ended_line (form_line report.form)) (ended_line (computer_line report.computer)) (ended_line (seq_line report.seq)) (lines_text (map (row_line report.form) report.rows ++ end_line ∷ []))
  where
    three_lines : (a b c d : List ℕ) → (a ++ (b ++ c)) ++ d ≡ a ++ (b ++ (c ++ d))
    three_lines a b c d = append_assoc a (b ++ c) d ∙ ap (λ l. a ++ l) (append_assoc b c d)
