-- The outbox, as contracts of the code see it.
use Rattle.std.specs.Prelude.{◌≡◌, ℕ, List, Bool, true, false}
use Rattle.report_text.specs.declared.report.Report.{Report}
use Rattle.agent_state.specs.Changes.{has_report, shown_without, without_report}

-- the reports, how many of them are saved, and for how many there is room
pub record OutboxState : Type 0 where
  pub reports : List Report
  pub shown : ℕ
  pub capacity : ℕ

-- the report with this number is dropped, where it is there
abbrev pub DropsReport : ℕ → OutboxState → Bool → OutboxState → Type 0
DropsReport seq old true new =
    (has_report seq old.reports ≡ true)
    × (new ≡ record old { reports = without_report seq old.reports; shown = shown_without seq old.shown old.reports })
DropsReport seq old false new = (has_report seq old.reports ≡ false) × (new ≡ old)
