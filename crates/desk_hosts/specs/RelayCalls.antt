-- What a call does to a relay and its link.
use Rattle.std.specs.Prelude.{◌≡◌, ◌⊎◌, ◌<◌, ℕ, List, map, Ok, Err, None, Some, ⊤}
use Rattle.std.specs.declared.option.Option.{Option}
use Rattle.report_text.specs.declared.answer.Verdict.{Verdict}
use Rattle.report_text.specs.declared.answer.Verdict.TheVariants as verdict
use Rattle.report_text.specs.declared.report.Report.{Report}
use Rattle.fix_site.specs.declared.site.Site.{Site}
use Rattle.fix_site.specs.Sites.{site_text}
use Rattle.relay_core.specs.Relays.{RelayState}
use Rattle.relay_core.specs.ReportsUp.{up_verdict, after_up}
use Rattle.relay_core.specs.KeptSites.{IsKept, IsNewest}
use Rattle.route_rules.specs.declared.method.Asking.{Asking}
use Rattle.route_rules.specs.declared.route.Route.{Route}
use Rattle.route_rules.specs.declared.route.Route.TheVariants as route
use Rattle.route_rules.specs.declared.route.Routes.TheVariants as routes
use Rattle.route_rules.specs.Routes.{row_of}
use Rattle.desk_http.specs.declared.host.Called.{Called}
use Rattle.server_text.specs.declared.reply.Reply.TheVariants as reply
use Rattle.server_text.specs.declared.site_versions.SiteVersion.{SiteVersion}
use Rattle.server_text.specs.RequestTexts.{ReadsReported}
use Rattle.http_replies.specs.declared.answer.Answer.{Answer}
use Rattle.http_replies.specs.declared.answer.Answer.TheVariants as answer
use Rattle.desk_hosts.specs.HostCalls.{CallsBy, no_such, no_memory}
use Rattle.desk_hosts.specs.RelayFiles.{FilesTell, TellsFile}

-- what a relay keeps, what its link tells, and what is kept of files, where it has a cache
pub record RelayTells : Type 0 where
  pub relay : RelayState
  pub files : FilesTell

-- the name and the version of a site
abbrev pub version_of : Site → SiteVersion
version_of site = record { name = site.name; version = site.version }

-- the names and the versions of the kept sites
abbrev pub TellsSites : List Site → Answer → Type 0
TellsSites sites it = (it ≡ no_memory) ⊎ (it ≡ answer.Reply (reply.Sites (map version_of sites)))

-- the text of the kept site of this name, whose version is above this one
abbrev pub TellsNewSite : List Site → List ℕ → ℕ → Answer → Type 0
TellsNewSite sites name version it =
    (site : Site) × IsKept sites name site × (version < site.version) × (it ≡ answer.Reply (reply.Site (site_text site)))

-- that, or `same` where no such site is kept
abbrev pub TellsSite : List Site → List ℕ → ℕ → Answer → Type 0
TellsSite sites name version it =
    (it ≡ no_memory) ⊎ TellsNewSite sites name version it ⊎ (IsNewest sites name version × (it ≡ answer.Reply reply.Same))

-- the answer of a verdict
abbrev pub verdict_answer : Verdict → Answer
verdict_answer verdict.Stored = answer.Stored
verdict_answer verdict.Carried = answer.Carried
verdict_answer (verdict.Conflict digest) = answer.Reply (reply.Conflict digest)
verdict_answer (verdict.Full limit) = answer.Reply (reply.Full limit)

-- a text that isn't that of a report is refused at a line
abbrev pub RefusesReport : List ℕ → Answer → Type 0
RefusesReport text it = (line : ℕ) × ReadsReported text (Err line) × (it ≡ answer.Reply (reply.BadText line))

-- the report of a text has come up, and its verdict is answered
abbrev pub TakesReport : RelayState → List ℕ → Answer → RelayState → Type 0
TakesReport old text it new =
    (report : Report) × ReadsReported text (Ok report) × (it ≡ verdict_answer (up_verdict old report)) × (new ≡ after_up old report)

-- What is answered to the text of a report.
abbrev pub CarriesReport : RelayState → List ℕ → Answer → RelayState → Type 0
CarriesReport old text it new =
    (((it ≡ no_memory) ⊎ RefusesReport text it) × (new ≡ old)) ⊎ TakesReport old text it new

-- What is answered to a route and a body, or to no route.
abbrev pub RelayAnswers : RelayTells → Option Route → List ℕ → Answer → RelayTells → Type 0
RelayAnswers old (Some route.AskSites) body it new = TellsSites old.relay.sites it × (new ≡ old)
RelayAnswers old (Some (route.AskSite name version)) body it new = TellsSite old.relay.sites name version it × (new ≡ old)
RelayAnswers old (Some (route.AskFile digest)) body it new = TellsFile digest old.files it new.files × (new.relay ≡ old.relay)
RelayAnswers old (Some route.Report) body it new = CarriesReport old.relay body it new.relay × (new.files ≡ old.files)
RelayAnswers old other body it new = (it ≡ no_such) × (new ≡ old)

-- a path is that of the route, where there is one; only private functions cite this
abbrev pub IsPathOf : Option Route → List ℕ → Type 0
IsPathOf None path = ⊤
IsPathOf (Some route) path = path ≡ (row_of route).path

-- A call of a relay.
abbrev pub RelayCalls : RelayTells → Asking → List ℕ → List ℕ → Called → RelayTells → Type 0
RelayCalls = CallsBy RelayAnswers routes.Relay
