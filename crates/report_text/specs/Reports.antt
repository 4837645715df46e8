-- Reports and their texts.
use Rattle.std.specs.Prelude.{◌≡◌, ℕ, ◌+◌, ◌-◌, ◌*◌, ◌<◌, ◌≤◌, List, [], ◌∷◌, ◌++◌, length, map, All, codes, decimal, slice_get, IfSome, ⊤}
use Rattle.std.specs.declared.result.Result.{Result}
use Rattle.std.specs.Prelude.{Ok, Err}
use Rattle.line_forms.specs.Names.{IsName}
use Rattle.line_forms.specs.Fields.{field_text}
use Rattle.line_forms.specs.Lines.{lines_text}
use Rattle.line_forms.specs.BadLines.{AnswersBadLine}
use Rattle.report_text.specs.declared.form.Form.{Form}
use Rattle.report_text.specs.declared.form.Form.TheVariants.{One, Two}
use Rattle.report_text.specs.declared.report.Report.{Report}
use Rattle.report_text.specs.declared.report_row.ReportRow.{ReportRow}
use Rattle.report_text.specs.declared.error.ReportError.{ReportError}
use Rattle.report_text.specs.declared.error.ReportError.TheVariants as error
use Rattle.report_text.specs.ReportRows.{IsReportRow, AreAscending}
use Rattle.line_forms.specs.Numbers.{IsId}
use Rattle.report_text.specs.RowLines.{row_line}

-- the most rows of a report
abbrev pub most_rows : ℕ
most_rows = 500

-- the rows of a report of this form, in strictly ascending order of actions
pub record AreReportRows (form : Form) (rows : List ReportRow) : Type 0 where
  pub few : length rows ≤ most_rows
  pub good : All (IsReportRow form) rows
  pub ascending : AreAscending rows

-- the row's action is above that of the last of these
abbrev pub IsAbove : List ReportRow → ReportRow → Type 0
IsAbove before row = IfSome (slice_get before (length before - 1)) (λ last. last.action < row.action)

-- a row of a report that can stand behind these
pub record CanFollow (form : Form) (before : List ReportRow) (row : ReportRow) : Type 0 where
  pub few : length before < most_rows
  pub good : IsReportRow form row
  pub above : IsAbove before row

-- a report that can be spelled
pub record IsReport (report : Report) : Type 0 where
  pub computer : IsName report.computer
  pub seq : IsId report.seq
  pub rows : AreReportRows report.form report.rows

-- the number of a form
abbrev pub form_number : Form → List ℕ
form_number One = codes "1"
form_number Two = codes "2"

-- the first three lines
abbrev pub form_line : Form → List ℕ
form_line form = field_text (codes "report") ++ form_number form

abbrev pub computer_line : List ℕ → List ℕ
computer_line name = field_text (codes "computer") ++ name

abbrev pub seq_line : ℕ → List ℕ
seq_line seq = field_text (codes "seq") ++ decimal seq

-- the last line
abbrev pub end_line : List ℕ
end_line = codes "end"

-- the lines of a report
abbrev pub report_lines : Report → List (List ℕ)
report_lines report =
    form_line report.form ∷ computer_line report.computer ∷ seq_line report.seq
    ∷ (map (row_line report.form) report.rows ++ end_line ∷ [])

-- the one text of a report: its lines, each with its LF
abbrev pub report_text : Report → List ℕ
report_text report = lines_text (report_lines report)

-- these are the lines of a report
abbrev pub AreReportLines : List (List ℕ) → Type 0
AreReportLines lines = (report : Report) × IsReport report × (lines ≡ report_lines report)

-- the most bytes of a row's fields
abbrev pub row_bytes : ℕ
row_bytes = 108

-- the most bytes of a report of so many rows: room for it is reckoned by this
abbrev pub most_report_bytes : ℕ → ℕ
most_report_bytes rows = 108 + 113 * rows

-- A text of more than 65,536 bytes is too long. Any other is the text of the report that is answered, or has the first bad
-- line that is answered.
abbrev pub ReadsReport : List ℕ → Result Report ReportError → Type 0
ReadsReport text (Ok report) = (length text ≤ 65536) × IsReport report × (text ≡ report_text report)
ReadsReport text (Err (error.BadReport line)) = (length text ≤ 65536) × AnswersBadLine AreReportLines text line
ReadsReport text (Err error.TooLong) = 65536 < length text
ReadsReport text (Err error.Memory) = ⊤
