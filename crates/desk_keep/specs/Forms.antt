-- The rows that may stand in a table.
use Rattle.std.specs.Prelude.{⊤}
use Rattle.line_forms.specs.Names.{IsName}
use Rattle.line_forms.specs.Numbers.{IsId}
use Rattle.report_text.specs.declared.form.Form.{Form}
use Rattle.report_text.specs.declared.report_row.ReportRow.{ReportRow}
use Rattle.report_text.specs.ReportRows.{IsReportRow}
use Rattle.desk_keep.specs.declared.result_row.ResultRow.{ResultRow}
use Rattle.desk_keep.specs.declared.change.Change.{Change}
use Rattle.desk_keep.specs.declared.change.Change.TheVariants as change

-- a row that a report of some form can have
abbrev pub IsRowOfReport : ReportRow → Type 0
IsRowOfReport row = (form : Form) × IsReportRow form row

-- a result: the row that a report of this number has of this computer
pub record IsResult (result : ResultRow) : Type 0 where
  pub computer : IsName result.computer
  pub row : IsRowOfReport result.row
  pub seq : IsId result.seq

-- Names, numbers and moments have their forms. Texts and bytes are any.
abbrev pub Fits : Change → Type 0
Fits (change.Site name version text) = IsName name × IsId version
Fits (change.Action id text digest) = IsId id
Fits (change.File digest bytes) = ⊤
Fits (change.Computer name) = IsName name
Fits (change.Report computer seq digest) = IsName computer × IsId seq
Fits (change.Result result) = IsResult result
