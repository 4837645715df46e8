-- What the writers of parts append. Only private functions cite these definitions.
use Rattle.std.specs.Prelude.{ℕ, List, [], ◌∷◌, ◌++◌, decimal}
use Rattle.std.specs.Fmt.{signed_decimal}
use Rattle.report_text.specs.declared.report_row.ReportRow.{ReportRow}
use Rattle.act_rules.specs.declared.row.Note.{Note}
use Rattle.line_forms.specs.Lines.{ended_line}
use Rattle.report_text.specs.declared.form.Form.{Form}
use Rattle.report_text.specs.declared.form.Form.TheVariants.{One, Two}
use Rattle.report_text.specs.declared.report.Report.{Report}
use Rattle.report_text.specs.RowLines.{outcome_field, end_field, note_text}
use Rattle.report_text.specs.Reports.{form_line, computer_line, seq_line}

-- what a form adds
abbrev pub added_text : Form → Note → List ℕ
added_text One note = []
added_text Two note = note_text note

-- the first three lines of a report
abbrev pub head_text : Report → List ℕ
head_text report =
    ended_line (form_line report.form) ++ (ended_line (computer_line report.computer) ++ ended_line (seq_line report.seq))

-- the parts of a row: its numbers, and its outcome and its moments
abbrev pub numbers_text : ReportRow → List ℕ
numbers_text row = decimal row.action ++ (32 ∷ decimal row.number)

abbrev pub times_text : ReportRow → List ℕ
times_text row = (32 ∷ outcome_field row.end) ++ ((32 ∷ signed_decimal row.begun) ++ (32 ∷ end_field row.end))

-- the fields of a row in these parts
abbrev pub fields_text : Form → ReportRow → List ℕ
fields_text form row = numbers_text row ++ (times_text row ++ added_text form row.note)
