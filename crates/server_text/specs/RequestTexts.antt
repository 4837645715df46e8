-- What the texts of requests say.
use Rattle.std.specs.Prelude.{◌≡◌, ◌≢◌, ◌⊎◌, ◌-◌, ◌==◌, ℕ, true, false, List, All, count_by, codes, Ok, Err, ⊤}
use Rattle.std.specs.declared.result.Result.{Result}
use Rattle.rel_lexer.specs.declared.place.Place.{Place}
use Rattle.rel_trace.specs.declared.kind.RelKind.{RelKind}
use Rattle.fix_site.specs.declared.site.Site.{Site}
use Rattle.fix_site.specs.declared.action.Action.{Action}
use Rattle.fix_site.specs.declared.action.Target.{Target}
use Rattle.fix_site.specs.declared.action.Target.TheVariants.{Where}
use Rattle.fix_site.specs.declared.error.SiteError.{SiteError}
use Rattle.fix_site.specs.declared.error.SiteError.TheVariants as error
use Rattle.fix_site.specs.Answers.{ReadsAction, ReadsSite}
use Rattle.fix_site.specs.Pieces.{pieces_of}
use Rattle.site_check.specs.declared.finding.Finding.{Finding}
use Rattle.site_check.specs.declared.finding.Finding.TheVariants as finding
use Rattle.site_check.specs.declared.refusal.PieceRefusal.{PieceRefusal}
use Rattle.site_check.specs.declared.refusal.PieceRefusal.TheVariants as refusal
use Rattle.site_check.specs.Findings.{Finds}
use Rattle.site_check.specs.Pieces.{AsksTruth, IsGoodPiece, IsWrongQuestion}
use Rattle.report_text.specs.declared.report.Report.{Report}
use Rattle.report_text.specs.declared.error.ReportError.{ReportError}
use Rattle.report_text.specs.declared.error.ReportError.TheVariants as reported
use Rattle.report_text.specs.Reports.{ReadsReport}
use Rattle.server_text.specs.declared.text_error.TextError.{TextError}
use Rattle.server_text.specs.declared.text_error.TextError.TheVariants as text_error
use Rattle.server_text.specs.declared.request.Request.{Request}
use Rattle.server_text.specs.declared.request.Request.TheVariants as request
use Rattle.server_text.specs.Entries.{Entry, Published, Issued, Stopped, Filed, Reported, Asked, Enters, Versions, SiteText, FileBytes, Results, Bad}

-- the number of LFs of a text
abbrev pub line_count : List ℕ → ℕ
line_count text = count_by (λ byte. byte == 10) text

-- the line of a site's text that is refused
abbrev pub refused_line : PieceRefusal → ℕ
refused_line (refusal.Question line fault) = line
refused_line (refusal.Script line fault) = line

-- The line that is told of what is found in a site's text. Of a wrong digest it is the last one, and of a text that is too long 0.
abbrev pub TellsFinding : List ℕ → Finding → ℕ → Type 0
TellsFinding text (finding.BadLine at) line = line ≡ at
TellsFinding text (finding.TwiceId at) line = line ≡ at
TellsFinding text (finding.WrongDigest stated found) line = line ≡ line_count text
TellsFinding text finding.TooLong line = line ≡ 0
TellsFinding text (finding.BadPiece refusal) line = line ≡ refused_line refusal
TellsFinding text (finding.Good fixlets baselines) line = ⊥
TellsFinding text finding.Memory line = ⊥

-- something is found in the text of a site, and this line is told of it
abbrev pub IsRefusedSite : List ℕ → ℕ → Type 0
IsRefusedSite text line = (finding : Finding) × Finds text finding × TellsFinding text finding line

-- the text is that of a site named `actionsite`, which only the server makes
abbrev pub IsActionsite : List ℕ → Type 0
IsActionsite text = (site : Site) × ReadsSite text (Ok site) × (site.name ≡ codes "actionsite")

-- The site of a text that is to be published, or the line that is told: that of what is found in it, or the first of `actionsite`.
abbrev pub ReadsPublished : List ℕ → Result Site ℕ → Type 0
ReadsPublished text (Ok site) = ReadsSite text (Ok site) × (site.name ≢ codes "actionsite") × All IsGoodPiece (pieces_of site)
ReadsPublished text (Err line) = IsRefusedSite text line ⊎ (IsActionsite text × (line ≡ 1))

-- the line that is told of a text that isn't read as an action: 0 where it is too long
abbrev pub TellsError : SiteError → ℕ → Type 0
TellsError (error.BadLine at) line = line ≡ at
TellsError error.TooLong line = line ≡ 0
TellsError other line = ⊥

-- a target that is no question, or one that asks for one truth
abbrev pub IsGoodTarget : Target → Type 0
IsGoodTarget (Where question) = AsksTruth question
IsGoodTarget other = ⊤

-- a question that doesn't
abbrev pub IsWrongTarget : Target → Type 0
IsWrongTarget (Where question) = (kind : RelKind) × (place : Place) × IsWrongQuestion question kind place
IsWrongTarget other = ⊥

-- The first line of an action that the server refuses: a target, which is the fifth line, or `state stopped`, the last but one.
abbrev pub TellsAction : List ℕ → Action → ℕ → Type 0
TellsAction text action line =
    (IsWrongTarget action.target × (line ≡ 5))
    ⊎ (IsGoodTarget action.target × (action.stopped ≡ true) × (line ≡ line_count text - 1))

-- the text isn't read as an action, and this line is told of it
abbrev pub IsNoAction : List ℕ → ℕ → Type 0
IsNoAction text line = (error : SiteError) × ReadsAction text (Err error) × TellsError error line

-- the text is that of an action which the server refuses, and this line is told of it
abbrev pub IsRefusedAction : List ℕ → ℕ → Type 0
IsRefusedAction text line = (action : Action) × ReadsAction text (Ok action) × TellsAction text action line

-- the action of a text that is to be acted on, or the line that is told
abbrev pub ReadsIssued : List ℕ → Result Action ℕ → Type 0
ReadsIssued text (Ok action) = ReadsAction text (Ok action) × IsGoodTarget action.target × (action.stopped ≡ false)
ReadsIssued text (Err line) = IsNoAction text line ⊎ IsRefusedAction text line

-- the line that is told of a text that isn't read as a report: 0 where it is too long
abbrev pub TellsReportError : ReportError → ℕ → Type 0
TellsReportError (reported.BadReport at) line = line ≡ at
TellsReportError reported.TooLong line = line ≡ 0
TellsReportError reported.Memory line = ⊥

-- the report of a text, or the line that is told
abbrev pub ReadsReported : List ℕ → Result Report ℕ → Type 0
ReadsReported text (Ok report) = ReadsReport text (Ok report)
ReadsReported text (Err line) = (error : ReportError) × ReadsReport text (Err error) × TellsReportError error line

-- what was read of a text, or the line that is told; want of memory tells nothing
abbrev pub Tells : {V : Type 0} → (Result V ℕ → Type 0) → Result V TextError → Type 0
Tells Reads (Ok value) = Reads (Ok value)
Tells Reads (Err (text_error.BadText line)) = Reads (Err line)
Tells Reads (Err text_error.Memory) = ⊤

-- what was read is to be accepted, or its text is bad
abbrev pub asked_of : {V : Type 0} → (V → Entry) → Result V ℕ → Asked
asked_of entry (Ok value) = Enters (entry value)
asked_of entry (Err line) = Bad line

-- what a request asks
abbrev pub Asks : Request → Asked → Type 0
Asks (request.Publish text) asked = (site : Result Site ℕ) × ReadsPublished text site × (asked ≡ asked_of Published site)
Asks (request.Act text) asked = (action : Result Action ℕ) × ReadsIssued text action × (asked ≡ asked_of Issued action)
Asks (request.Stop id) asked = asked ≡ Enters (Stopped id)
Asks (request.File bytes) asked = asked ≡ Enters (Filed bytes)
Asks request.AskSites asked = asked ≡ Versions
Asks (request.AskSite name version) asked = asked ≡ SiteText name version
Asks (request.AskFile digest) asked = asked ≡ FileBytes digest
Asks (request.Report text) asked = (report : Result Report ℕ) × ReadsReported text report × (asked ≡ asked_of Reported report)
Asks (request.Results computer) asked = asked ≡ Results computer
