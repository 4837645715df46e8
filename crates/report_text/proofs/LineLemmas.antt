-- No LF stands in a line of a report. Other crates may cite these lemmas.
use Rattle.std.proofs.Common.{ℕ, ◌≡◌, ◌≢◌, ◌≤◌, List, [], ◌∷◌, ◌++◌, refl, ap, sym, ◌∙◌, arith, All, ◌⊎◌, inl, inr, map, length, append-nil, Ok, Err}
use Rattle.std.specs.declared.result.Result.{Result}
use Rattle.std.specs.Prelude.{codes, decimal}
use Rattle.std.proofs.lemmas.List.Elements.{All-nil, All-cons, All-append}
use Rattle.line_forms.specs.Fields.{field_text}
use Rattle.line_forms.specs.FieldLists.{line_of}
use Rattle.line_forms.specs.Lines.{IsLine, lines_text}
use Rattle.line_forms.specs.LineStates.{lines_of, unended_of}
use Rattle.report_text.specs.declared.form.Form.{Form}
use Rattle.report_text.specs.declared.form.Form.TheVariants.{One, Two}
use Rattle.report_text.specs.declared.report.Report.{Report}
use Rattle.report_text.specs.ReportRows.{IsReportRow}
use Rattle.report_text.specs.RowLines.{row_fields, row_line}
use Rattle.report_text.specs.Reports.{IsReport, AreReportLines, ReadsReport, form_line, computer_line, seq_line, end_line, report_lines, report_text}
use Rattle.report_text.specs.declared.error.ReportError.{ReportError}
use Rattle.report_text.specs.declared.error.ReportError.TheVariants as error
use Rattle.line_forms.proofs.BadLines.{first_bad_line-none}
use Rattle.line_forms.proofs.Cutting.{lacks_by}
use Rattle.line_forms.proofs.LineBytes.{all_mapped, lacks_id, lacks_name, worded}
use Rattle.line_forms.proofs.PlainLemmas.{lacks_fields}
use Rattle.report_text.proofs.RowLemmas.{plain_row}
use Rattle.report_text.proofs.ReportParts.{report_known}

lacks_form : (form : Form) → IsLine (form_line form)
lacks_form One = lacks_by 10 (form_line One) refl
lacks_form Two = lacks_by 10 (form_line Two) refl

pub are_lines : (report : Report) → IsReport report → All IsLine (report_lines report)
are_lines report good =
    let rows = map (row_line report.form) report.rows in
    All-cons IsLine (form_line report.form) (computer_line report.computer ∷ seq_line report.seq ∷ (rows ++ end_line ∷ [])) (lacks_form report.form)
    (All-cons IsLine (computer_line report.computer) (seq_line report.seq ∷ (rows ++ end_line ∷ [])) (worded (field_text (codes "computer")) report.computer refl (lacks_name report.computer good.computer))
    (All-cons IsLine (seq_line report.seq) (rows ++ end_line ∷ []) (worded (field_text (codes "seq")) (decimal report.seq) refl (lacks_id report.seq good.seq))
    (All-append IsLine rows (end_line ∷ [])
    (all_mapped (row_line report.form) (IsReportRow report.form)
    (λ row fine. worded (field_text (codes "row")) (line_of (row_fields report.form row)) refl (lacks_fields (row_fields report.form row) (plain_row report.form row fine))) report.rows good.rows.good)
    (All-cons IsLine end_line [] (lacks_by 10 end_line refl) (All-nil IsLine)))))

-- the lines of a report are those of its text
pub lines_again : (report : Report) → ((lines : List (List ℕ)) (unended : List ℕ) → All IsLine lines → IsLine unended → lines_of (lines_text lines ++ unended) ≡ lines) →
    IsReport report → lines_of (report_text report) ≡ report_lines report
lines_again report law good = ap lines_of (sym (append-nil (report_text report))) ∙ law (report_lines report) [] (are_lines report good) (All-nil (λ x. x ≢ 10))

pub nothing_again : (report : Report) → ((lines : List (List ℕ)) (unended : List ℕ) → All IsLine lines → IsLine unended → unended_of (lines_text lines ++ unended) ≡ unended) →
    IsReport report → unended_of (report_text report) ≡ []
nothing_again report law good = ap unended_of (sym (append-nil (report_text report))) ∙ law (report_lines report) [] (are_lines report good) (All-nil (λ x. x ≢ 10))

pub read_again : (report : Report) (answer : Result Report ReportError) → ((lines : List (List ℕ)) (unended : List ℕ) → All IsLine lines → IsLine unended → lines_of (lines_text lines ++ unended) ≡ lines) →
    ((lines : List (List ℕ)) (unended : List ℕ) → All IsLine lines → IsLine unended → unended_of (lines_text lines ++ unended) ≡ unended) →
    IsReport report → length (report_text report) ≤ 65536 → ReadsReport (report_text report) answer → (answer ≡ Ok report) ⊎ (answer ≡ Err error.Memory)
read_again report (Ok read) law rest good fits h =
    inl (ap (λ (r : Report). Ok r) (report_known read report h.1 good (sym (lines_again read law h.1) ∙ ap lines_of (sym h.2) ∙ lines_again report law good)))
read_again report (Err error.TooLong) law rest good fits h = absurd (omega (arith, h, fits))
read_again report (Err (error.BadReport line)) law rest good fits h =
    absurd (first_bad_line-none AreReportLines (report_text report) h.1.0 (nothing_again report rest good, (report, good, lines_again report law good)) h.1.1)
read_again report (Err error.Memory) law rest good fits h = inr refl
