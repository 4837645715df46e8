-- The tables of what a server has accepted.
use Rattle.std.specs.Prelude.{ℕ, ◌+◌, Bool, true, nat_lt, List, [], ◌∷◌, ◌++◌, map, filter, codes, Some}
use Rattle.std.specs.declared.option.Option.{Option}
use Rattle.sha2.specs.Sha256.{sha256}
use Rattle.fix_site.specs.Actions.{action_text}
use Rattle.fix_site.specs.Sites.{site_text}
use Rattle.report_text.specs.declared.report.Report.{Report}
use Rattle.report_text.specs.declared.report_row.ReportRow.{ReportRow}
use Rattle.report_text.specs.Reports.{report_text}
use Rattle.desk_keep.specs.declared.change.Change.{Change}
use Rattle.desk_keep.specs.declared.change.Change.TheVariants as change
use Rattle.desk_keep.specs.declared.find.Find.TheVariants as find
use Rattle.desk_keep.specs.Keys.{asked_key}
use Rattle.desk_keep.specs.Tables.{put_all, row_at}
use Rattle.server_text.specs.ActionStates.{stopped_text}
use Rattle.server_text.specs.Entries.{Entry, Published, Issued, Stopped, Filed, Reported}

-- the row of a site, an action, a file, a computer, a report, a result
abbrev pub site_at : List ℕ → List Change → Option Change
site_at name rows = row_at (asked_key (find.Site name)) rows

abbrev pub action_at : ℕ → List Change → Option Change
action_at id rows = row_at (asked_key (find.Action id)) rows

abbrev pub file_at : List ℕ → List Change → Option Change
file_at digest rows = row_at (asked_key (find.File digest)) rows

abbrev pub computer_at : List ℕ → List Change → Option Change
computer_at name rows = row_at (asked_key (find.Computer name)) rows

abbrev pub report_at : List ℕ → ℕ → List Change → Option Change
report_at computer seq rows = row_at (asked_key (find.Report computer seq)) rows

abbrev pub result_at : List ℕ → ℕ → List Change → Option Change
result_at computer action rows = row_at (asked_key (find.Result computer action)) rows

-- the version in the row of a site, and 0 where there is none
abbrev pub version_in : Option Change → ℕ
version_in (Some (change.Site name version text)) = version
version_in other = 0

-- the version of `actionsite`
abbrev pub actions_version : List Change → ℕ
actions_version rows = version_in (site_at (codes "actionsite") rows)

-- the row of `actionsite` in this version; its text isn't kept
abbrev pub version_row : ℕ → Change
version_row version = change.Site (codes "actionsite") version []

-- the row of `actionsite` in its next version
abbrev pub next_version_row : List Change → Change
next_version_row rows = version_row (actions_version rows + 1)

-- the row of an action, stopped; its digest stays that of the text as it came
abbrev pub stopped_row : Option Change → List Change
stopped_row (Some (change.Action id text digest)) = change.Action id (stopped_text text) digest ∷ []
stopped_row other = []

-- the result of a report's row
abbrev pub result_of : Report → ReportRow → Change
result_of report row = change.Result (record { computer = report.computer; row = row; seq = report.seq })

-- whether a report of this number is later than the one of this result, if there is one
abbrev pub is_later : ℕ → Option Change → Bool
is_later seq (Some (change.Result kept)) = nat_lt kept.seq seq
is_later seq other = true

-- whether a report's row is later than the kept result of its action
abbrev pub has_later : List Change → Report → ReportRow → Bool
has_later rows report row = is_later report.seq (result_at report.computer row.action rows)

-- The rows that are put of what is accepted, where these are kept. Of a report these are its computer, its digest, and the results of
-- those of its rows that are later than the kept ones.
abbrev pub puts : List Change → Entry → List Change
puts rows (Published site) = change.Site site.name site.version (site_text site) ∷ []
puts rows (Issued action) =
    change.Action action.id (action_text action) (sha256 (action_text action)) ∷ next_version_row rows ∷ []
puts rows (Stopped id) = stopped_row (action_at id rows) ++ next_version_row rows ∷ []
puts rows (Filed bytes) = change.File (sha256 bytes) bytes ∷ []
puts rows (Reported report) =
    change.Computer report.computer ∷ change.Report report.computer report.seq (sha256 (report_text report))
    ∷ map (result_of report) (filter (has_later rows report) report.rows)

-- the tables of what was accepted, the latest first
abbrev pub view : List Entry → List Change
view [] = []
view (entry ∷ before) = put_all (puts (view before) entry) (view before)
