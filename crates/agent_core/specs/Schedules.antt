-- What of an agent matters for the delivery of its reports, and what its steps do to that.
use Rattle.std.specs.Prelude.{◌≡◌, ◌⊎◌, ℕ, ◌+◌, nat_lt, if◌then◌else◌, List, [], ◌∷◌, ◌++◌, Option, Some, None, Ok}
use Rattle.line_forms.specs.Numbers.{last_id}
use Rattle.report_text.specs.declared.form.Form.TheVariants.{Two}
use Rattle.report_text.specs.declared.report.Report.{Report}
use Rattle.report_text.specs.declared.report_row.ReportRow.{ReportRow}
use Rattle.report_text.specs.Reports.{AreReportRows}
use Rattle.agent_text.specs.declared.saved.Saved.{Saved}
use Rattle.agent_text.specs.Pockets.{Holds}
use Rattle.agent_text.specs.SavedTexts.{ReadsSaved}
use Rattle.agent_state.specs.Changes.{without_report}
use Rattle.agent_state.specs.States.{State}

-- the computer, the number of its next report and its outbox, and both as they were last saved
pub record Mail : Type 0 where
  pub computer : List ℕ
  pub next : ℕ
  pub outbox : List Report
  pub saved_next : ℕ
  pub saved_outbox : List Report

-- the outbox and the next number are saved as they stand
abbrev pub saved : Mail → Mail
saved m = record m { saved_next = m.next; saved_outbox = m.outbox }

-- a report of these rows, with the next number
abbrev pub report_of : List ReportRow → Mail → Report
report_of rows m = record { form = Two; computer = m.computer; seq = m.next; rows = rows }

-- A report is made with the next number, and saved. At the last number nothing changes.
abbrev pub made : List ReportRow → Mail → Mail
made rows m =
    if nat_lt m.next last_id
    then saved (record m { outbox = m.outbox ++ report_of rows m ∷ []; next = m.next + 1 })
    else m

-- the report with this number is dropped
abbrev pub settled : ℕ → Mail → Mail
settled seq m = record m { outbox = without_report seq m.outbox }

-- the outbox and the next number are as they were last saved
abbrev pub restarted : Mail → Mail
restarted m = record m { next = m.saved_next; outbox = m.saved_outbox }

-- what a pocket without a text, or with this one, has saved: a text is one of the mail's computer
abbrev pub HasSaved : Mail → Option (List ℕ) → Type 0
HasSaved m None = (m.saved_next ≡ 1) × (m.saved_outbox ≡ [])
HasSaved m (Some text) =
    (what : Saved) × ReadsSaved m.computer text (Ok what) × (m.saved_next ≡ what.next) × (m.saved_outbox ≡ what.reports)

-- this is what matters of an agent and its pocket
pub record IsMailOf (m : Mail) (s : State) (told : Option (Option (List ℕ))) : Type 0 where
  pub computer : m.computer ≡ s.computer
  pub next : m.next ≡ s.next
  pub outbox : m.outbox ≡ s.reports
  pub kept : Holds told (HasSaved m)

-- a step of a turn: nothing, a save, or a report of rows that can be spelled
abbrev pub IsStep : Mail → Mail → Type 0
IsStep m m2 = (m2 ≡ m) ⊎ ((m2 ≡ saved m) ⊎ ((rows : List ReportRow) × AreReportRows Two rows × (m2 ≡ made rows m)))
