-- What the readers of rows do. Only private functions cite these definitions.
use Rattle.std.specs.Prelude.{◌≡◌, decimal}
use Rattle.std.specs.Fmt.{signed_decimal}
use Rattle.desk_base.specs.Moments.{IsMoment}
use Rattle.line_forms.specs.Numbers.{IsId}
use Rattle.report_text.specs.declared.report_row.ReportRow.{ReportRow}
use Rattle.report_text.specs.declared.row_reader.RowFields.{RowFields}
use Rattle.report_text.specs.ReportRows.{IsAttempt}
use Rattle.report_text.specs.FieldTexts.{IsEnd, SpellsEnd}

-- a row without its note
abbrev pub IsBareRow : ReportRow → Type 0
IsBareRow row = IsId row.action × IsAttempt row.number × IsMoment row.begun × IsEnd row.end

-- these fields are those of the row, but for its note
abbrev pub SpellsBareRow : RowFields → ReportRow → Type 0
SpellsBareRow fields row =
    (fields.action.now ≡ decimal row.action) × (fields.number.now ≡ decimal row.number)
    × SpellsEnd fields.outcome.now fields.end.now row.end × (fields.begun.now ≡ signed_decimal row.begun)
