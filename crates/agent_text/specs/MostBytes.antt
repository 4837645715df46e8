-- The most bytes of the parts of a saved text.
use Rattle.std.specs.Prelude.{ℕ, ◌+◌, ◌*◌, length}
use Rattle.report_text.specs.declared.report.Report.{Report}
use Rattle.report_text.specs.Reports.{most_report_bytes}
use Rattle.agent_text.specs.Histories.{PlainHistory}

-- the most bytes of the lines of an action, `pending` with them
abbrev pub history_bytes : PlainHistory → ℕ
history_bytes h = 49 + 113 * length h.rows

-- the most bytes of a report
abbrev pub report_bytes : Report → ℕ
report_bytes report = most_report_bytes (length report.rows)
