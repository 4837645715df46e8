-- The text of a report asks that the report is accepted.
use Rattle.std.proofs.Common.{◌≡◌, ◌≤◌, ℕ, ◌⊎◌, inl, inr, List, length, refl, sym, ap, ◌∙◌, subst}
use Rattle.std.specs.Prelude.{Ok, Err}
use Rattle.std.specs.declared.result.Result.{Result}
use Rattle.report_text.specs.declared.report.Report.{Report}
use Rattle.report_text.specs.declared.error.ReportError.{ReportError}
use Rattle.report_text.specs.declared.error.ReportError.TheVariants.{Memory}
use Rattle.report_text.specs.Reports.{IsReport, ReadsReport, report_text}
use Rattle.server_text.specs.declared.request.Request.TheVariants as asking
use Rattle.server_text.specs.Entries.{Asked, Enters, Entry, Reported}
use Rattle.server_text.specs.RequestTexts.{Asks, ReadsReported, TellsReportError, asked_of}

abbrev pub Again : Type 0
Again = (report : Report) (answer : Result Report ReportError) → IsReport report → ReadsReport (report_text report) answer → (answer ≡ Ok report) ⊎ (answer ≡ Err Memory)

abbrev pub OneReport : Type 0
OneReport = (report other : Report) → IsReport report → IsReport other → report_text report ≡ report_text other → report ≡ other

abbrev is_report : Report → Result Report ReportError
is_report report = Ok report

abbrev is_error : ReportError → Result Report ReportError
is_error error = Err error

report_or_error : (error : ReportError) (report : Report) → is_error error ≡ is_report report → ⊥
report_or_error error report e = cc

same_error : (error other : ReportError) → is_error error ≡ is_error other → error ≡ other
same_error error other e = cc

never_bad : Again → (report : Report) → IsReport report → (error : ReportError) (line : ℕ) → ReadsReport (report_text report) (Err error) → TellsReportError error line → ⊥
never_bad again report is error line reads tells =
    elim (again report (Err error) is reads) as (λ c. ⊥) [
      | inl e ↦ report_or_error error report e
      | inr e ↦ let P : ReportError → Type 0 = λ o. TellsReportError o line in subst P (same_error error Memory e) tells
    ]

read_again : Again → OneReport → (report : Report) (asked : Asked) → IsReport report → (read : Result Report ℕ) → ReadsReported (report_text report) read → asked ≡ asked_of Reported read → asked ≡ Enters (Reported report)
read_again again one report asked is (Ok other) reads same = same ∙ ap (λ r. Enters (Reported r)) (sym (one report other is reads.1 reads.2))
read_again again one report asked is (Err line) reads same = absurd (never_bad again report is reads.0 line reads.1 reads.2)

pub written_read : Again → OneReport → (report : Report) (asked : Asked) → IsReport report → (read : Result Report ℕ) × ReadsReported (report_text report) read × (asked ≡ asked_of Reported read) → asked ≡ Enters (Reported report)
written_read again one report asked is asks = read_again again one report asked is asks.0 asks.1 asks.2

pub written_asks : ((report : Report) → IsReport report → length (report_text report) ≤ 65536) → (report : Report) → IsReport report
    → Asks (asking.Report (report_text report)) (Enters (Reported report))
written_asks short report is = let read : Result Report ℕ = Ok report in (read, (short report is, is, refl), refl)
