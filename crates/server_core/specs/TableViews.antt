-- What stands in the tables, said of what was accepted alone.
use Rattle.std.specs.Prelude.{◌≡◌, ◌≤◌, ◌↔◌, ℕ, Bool, true, false, IsTrue, List, ◌∷◌, ◌++◌, Contains, MatchOption}
use Rattle.std.specs.declared.option.Option.{Option}
use Rattle.sha2.specs.Sha256.{sha256}
use Rattle.fix_site.specs.declared.site.Site.{Site}
use Rattle.fix_site.specs.declared.action.Action.{Action}
use Rattle.fix_site.specs.Actions.{action_text}
use Rattle.fix_site.specs.Sites.{site_text}
use Rattle.report_text.specs.declared.report.Report.{Report}
use Rattle.report_text.specs.declared.report_row.ReportRow.{ReportRow}
use Rattle.report_text.specs.Reports.{report_text}
use Rattle.desk_keep.specs.declared.change.Change.{Change}
use Rattle.desk_keep.specs.declared.change.Change.TheVariants as change
use Rattle.server_text.specs.Entries.{Entry, Published, Issued, Stopped, Filed, Reported}
use Rattle.server_core.specs.AcceptedTables.{result_of}

-- the site of this name is the last one of it that was published
abbrev pub IsLastSite : List Entry → List ℕ → Site → Type 0
IsLastSite accepted name site =
    (later before : List Entry) × (accepted ≡ later ++ Published site ∷ before) × (site.name ≡ name)
    × ((other : Site) → Contains later (Published other) → ¬ (other.name ≡ name))

-- The row of a site has the version and the text of the last one of its name; without a row none of the name was published.
abbrev pub ShowsSite : List Entry → List ℕ → Option Change → Type 0
ShowsSite accepted name row =
    MatchOption row ((site : Site) → Contains accepted (Published site) → ¬ (site.name ≡ name))
    (λ row. (site : Site) × IsLastSite accepted name site × (row ≡ change.Site name site.version (site_text site)))

-- The row of an action has its text, with `state stopped` where a stop was accepted, and the digest of the text as it came; without a row
-- none of the id was issued.
abbrev pub ShowsAction : List Entry → ℕ → Option Change → Type 0
ShowsAction accepted id row =
    MatchOption row ((action : Action) → Contains accepted (Issued action) → ¬ (action.id ≡ id))
    (λ row. (action : Action) × (stopped : Bool) × Contains accepted (Issued action) × (action.id ≡ id)
    × (IsTrue stopped ↔ Contains accepted (Stopped id))
    × (row ≡ change.Action id (action_text (record action { stopped = stopped })) (sha256 (action_text action))))

-- whether this makes a new version of `actionsite`: an action that is issued, or a stop
abbrev pub changes_actions : Entry → Bool
changes_actions (Issued action) = true
changes_actions (Stopped id) = true
changes_actions other = false

-- The row of a file has bytes that were filed and have its digest; without a row none of the digest were.
abbrev pub ShowsFile : List Entry → List ℕ → Option Change → Type 0
ShowsFile accepted digest row =
    MatchOption row ((bytes : List ℕ) → Contains accepted (Filed bytes) → ¬ (sha256 bytes ≡ digest))
    (λ row. (bytes : List ℕ) × Contains accepted (Filed bytes) × (sha256 bytes ≡ digest) × (row ≡ change.File digest bytes))

-- a report of this computer was accepted
abbrev pub IsReportOf : List Entry → List ℕ → Report → Type 0
IsReportOf accepted computer report = Contains accepted (Reported report) × (report.computer ≡ computer)

-- A computer has a row where a report of it was accepted.
abbrev pub ShowsComputer : List Entry → List ℕ → Option Change → Type 0
ShowsComputer accepted computer row =
    MatchOption row ((report : Report) → ¬ IsReportOf accepted computer report)
    (λ row. ((report : Report) × IsReportOf accepted computer report) × (row ≡ change.Computer computer))

-- The row of a report has the digest of the only one of its computer and number that was accepted; without a row none was.
abbrev pub ShowsReport : List Entry → List ℕ → ℕ → Option Change → Type 0
ShowsReport accepted computer seq row =
    MatchOption row ((report : Report) → IsReportOf accepted computer report → ¬ (report.seq ≡ seq))
    (λ row. (report : Report) × IsReportOf accepted computer report × (report.seq ≡ seq)
    × ((other : Report) → IsReportOf accepted computer other → other.seq ≡ seq → other ≡ report)
    × (row ≡ change.Report computer seq (sha256 (report_text report))))

-- The report of this computer and number that was accepted has this digest.
abbrev pub IsHeld : List Entry → List ℕ → ℕ → List ℕ → Type 0
IsHeld accepted computer seq digest =
    (report : Report) × IsReportOf accepted computer report × (report.seq ≡ seq) × (sha256 (report_text report) ≡ digest)

-- a report of this computer was accepted that has this row of this action
abbrev pub IsRowOf : List Entry → List ℕ → ℕ → Report → ReportRow → Type 0
IsRowOf accepted computer action report row =
    IsReportOf accepted computer report × Contains report.rows row × (row.action ≡ action)

-- The result of a computer and an action is the row of the report with the greatest number among those that have one; without a result
-- no report has one.
abbrev pub ShowsResult : List Entry → List ℕ → ℕ → Option Change → Type 0
ShowsResult accepted computer action result =
    MatchOption result ((report : Report) (row : ReportRow) → ¬ IsRowOf accepted computer action report row)
    (λ result. (report : Report) × (row : ReportRow) × IsRowOf accepted computer action report row
    × ((other : Report) (own : ReportRow) → IsRowOf accepted computer action other own → other.seq ≤ report.seq)
    × (result ≡ result_of report row))
