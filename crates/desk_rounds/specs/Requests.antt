-- The requests of a round.
use Rattle.std.specs.Prelude.{ℕ, List, []}
use Rattle.desk_http.specs.Asked.{ask_text}
use Rattle.report_text.specs.declared.report.Report.{Report as TheReport}
use Rattle.report_text.specs.Reports.{report_text}
use Rattle.route_rules.specs.declared.route.Route.{Route}
use Rattle.route_rules.specs.declared.route.Route.TheVariants.{AskSites, AskSite, AskFile, Report}
use Rattle.route_rules.specs.Routes.{row_of}

-- the request of a route, with a body
abbrev pub request_of : Route → List ℕ → List ℕ
request_of route body = ask_text (row_of route).asking (row_of route).path body

-- which sites there are, and of which versions
abbrev pub sites_request : List ℕ
sites_request = request_of AskSites []

-- the site of this name, where its version is above this one
abbrev pub site_request : List ℕ → ℕ → List ℕ
site_request name version = request_of (AskSite name version) []

-- the file of this digest
abbrev pub file_request : List ℕ → List ℕ
file_request digest = request_of (AskFile digest) []

-- to keep this report
abbrev pub report_request : TheReport → List ℕ
report_request report = request_of Report (report_text report)
