-- A request asks one thing.
use Rattle.std.proofs.Common.{◌≡◌, ◌≢◌, ℕ, ◌^◌, ◌+◌, ◌-◌, ◌<◌, ◌≤◌, min, ◌⊎◌, inl, inr, List, [], ◌∷◌, ◌++◌, Bool, true, false, length, codes, refl, sym, ap, ◌∙◌, subst, arith}
use Rattle.std.specs.Prelude.{All, Ok, Err, count_by}
use Rattle.std.specs.declared.result.Result.{Result}
use Rattle.std.proofs.lemmas.List.Elements.{All-nil}
use Rattle.line_forms.specs.BadLines.{AnswersBadLine}
use Rattle.line_forms.proofs.BadLines.{first_bad_line-one}
use Rattle.rel_lexer.specs.declared.place.Place.{Place}
use Rattle.rel_trace.specs.declared.kind.RelKind.{RelKind}
use Rattle.rel_types.specs.Plans.{PlainNode}
use Rattle.rel_eval.specs.Questions.{Reading, question, Reads}
use Rattle.fix_site.specs.declared.site.Site.{Site}
use Rattle.fix_site.specs.declared.action.Action.{Action}
use Rattle.fix_site.specs.declared.action.Target.{Target}
use Rattle.fix_site.specs.declared.action.Target.TheVariants as target
use Rattle.fix_site.specs.declared.block.Block.{Block}
use Rattle.fix_site.specs.declared.block.Block.TheVariants.{Fixlet as fixlet_block, Baseline as baseline_block, Action as action_block}
use Rattle.fix_site.specs.declared.error.SiteError.{SiteError}
use Rattle.fix_site.specs.declared.error.SiteError.TheVariants as error
use Rattle.fix_site.specs.Actions.{AreActionLines, IsAction, action_text}
use Rattle.fix_site.specs.Answers.{IsShort, ReadsAction, ReadsSite}
use Rattle.fix_site.specs.Blocks.{IsKindOf, block_lines}
use Rattle.fix_site.specs.Pieces.{blocks_pieces, pieces_of}
use Rattle.report_text.specs.declared.report.Report.{Report}
use Rattle.report_text.specs.declared.error.ReportError.{ReportError}
use Rattle.report_text.specs.declared.error.ReportError.TheVariants as reported
use Rattle.report_text.specs.Reports.{AreReportLines, IsReport, ReadsReport, report_text}
use Rattle.site_check.specs.declared.finding.Finding.{Finding}
use Rattle.site_check.specs.declared.finding.Finding.TheVariants as finding
use Rattle.site_check.specs.Findings.{Finds, is_baseline, is_fixlet}
use Rattle.site_check.specs.Pieces.{IsGoodPiece, IsNoTruth, IsTruth, IsWrongReading}
use Rattle.server_text.specs.declared.request.Request.{Request}
use Rattle.server_text.specs.declared.request.Request.TheVariants as request
use Rattle.server_text.specs.Entries.{Asked, Issued, Published, Reported}
use Rattle.server_text.specs.RequestTexts.{Asks, IsGoodTarget, IsNoAction, IsRefusedAction, IsWrongTarget, ReadsIssued, ReadsPublished, ReadsReported, TellsAction, TellsError, TellsFinding, TellsReportError, asked_of, line_count}
use Rattle.server_text.proofs.ReadAgain.{Again, OneReport}

-- the laws of what texts are read as
abbrev pub OneFinding : Type 0
OneFinding = (text : List ℕ) (x y : Finding) → Finds text x → Finds text y → x ≢ finding.Memory → y ≢ finding.Memory → x ≡ y

abbrev pub OneReading : Type 0
OneReading = (text : List ℕ) (answer other : Result Site SiteError) → answer ≢ Err error.Memory → other ≢ Err error.Memory → ReadsSite text answer → ReadsSite text other → answer ≡ other

abbrev pub OnePlan : Type 0
OnePlan = (text : List ℕ) (x y : Reading) → Reads text x → Reads text y → x ≡ y

abbrev pub OneAction : Type 0
OneAction = (action other : Action) → IsAction action → IsAction other → action_text action ≡ action_text other → action ≡ other

abbrev pub ActionAgain : Type 0
ActionAgain = (action : Action) (answer : Result Action SiteError) → IsAction action → IsShort (action_text action) → ReadsAction (action_text action) answer → (answer ≡ Ok action) ⊎ (answer ≡ Err error.Memory)

true_false : (b : Bool) → b ≡ true → b ≡ false → ⊥
true_false b one other = cc

-- ---- sites

abbrev pub read_site : Site → Result Site SiteError
read_site site = Ok site

abbrev no_site : SiteError → Result Site SiteError
no_site e = Err e

pub some_site : (site : Site) → read_site site ≢ no_site error.Memory
some_site site e = cc

pub same_site : (site other : Site) → read_site site ≡ read_site other → site ≡ other
same_site site other e = cc

pub one_site : OneReading → (text : List ℕ) (site other : Site) → ReadsSite text (Ok site) → ReadsSite text (Ok other) → site ≡ other
one_site readings text site other h k = same_site site other (readings text (read_site site) (read_site other) (some_site site) (some_site other) h k)

-- the site `actionsite` has no pieces, as its blocks are actions
none_behind : (name : List ℕ) (line : ℕ) (blocks : List Block) → ((before after : List Block) (block : Block) → blocks ≡ before ++ block ∷ after → IsKindOf name block) → name ≡ codes "actionsite" → blocks_pieces line blocks ≡ []
none_behind name line [] kinds is = refl
none_behind name line (fixlet_block fixlet ∷ blocks) kinds is = absurd (kinds [] blocks (fixlet_block fixlet) refl is)
none_behind name line (baseline_block baseline ∷ blocks) kinds is = absurd (kinds [] blocks (baseline_block baseline) refl is)
none_behind name line (action_block action ∷ blocks) kinds is =
    none_behind name (line + length (block_lines (action_block action))) blocks
    (λ before after block e. kinds (action_block action ∷ before) after block (ap (λ l. action_block action ∷ l) e)) is

good_actionsite : (text : List ℕ) (site : Site) → ReadsSite text (Ok site) → site.name ≡ codes "actionsite" → All IsGoodPiece (pieces_of site)
good_actionsite text site reads is =
    let are = reads.1.blocks in
    subst (All IsGoodPiece) (sym (none_behind site.name 2 site.blocks (λ before after block e. (are before after block e).kind) is)) (All-nil IsGoodPiece)

abbrev good_of : Site → Finding
good_of site = finding.Good (count_by is_fixlet site.blocks) (count_by is_baseline site.blocks)

finds_good : (text : List ℕ) (site : Site) → ReadsSite text (Ok site) → All IsGoodPiece (pieces_of site) → Finds text (good_of site)
finds_good text site reads good = record { site = site; reads = reads; pieces = good; fixlet_count = refl; baseline_count = refl }

good_known : (site : Site) → good_of site ≢ finding.Memory
good_known site e = cc

told_known : (text : List ℕ) (line : ℕ) (found : Finding) → TellsFinding text found line → found ≢ finding.Memory
told_known text line found tells e = let P : Finding → Type 0 = λ f. TellsFinding text f line in subst P e tells

-- nothing is told of a good site
none_told : OneFinding → (text : List ℕ) (site : Site) (found : Finding) (line : ℕ) → ReadsSite text (Ok site) → All IsGoodPiece (pieces_of site) → Finds text found → TellsFinding text found line → ⊥
none_told findings text site found line reads good finds tells =
    let P : Finding → Type 0 = λ f. TellsFinding text f line in
    subst P (findings text found (good_of site) finds (finds_good text site reads good) (told_known text line found tells) (good_known site)) tells

told_once : (text : List ℕ) (found : Finding) (line other : ℕ) → TellsFinding text found line → TellsFinding text found other → line ≡ other
told_once text (finding.BadLine at) line other h k = h ∙ sym k
told_once text (finding.TwiceId at) line other h k = h ∙ sym k
told_once text (finding.WrongDigest stated right) line other h k = h ∙ sym k
told_once text finding.TooLong line other h k = h ∙ sym k
told_once text (finding.BadPiece refusal) line other h k = h ∙ sym k
told_once text (finding.Good fixlets baselines) line other h k = absurd h
told_once text finding.Memory line other h k = absurd h

published_line : OneFinding → (text : List ℕ) (line other : ℕ) → ReadsPublished text (Err line) → ReadsPublished text (Err other) → line ≡ other
published_line findings text line other (inl h) (inl k) =
    let P : Finding → Type 0 = λ f. TellsFinding text f line in
    let same = findings text h.0 k.0 h.1 k.1 (told_known text line h.0 h.2) (told_known text other k.0 k.2) in
    told_once text k.0 line other (subst P same h.2) k.2
published_line findings text line other (inl h) (inr k) = absurd (none_told findings text k.0.0 h.0 line k.0.1 (good_actionsite text k.0.0 k.0.1 k.0.2) h.1 h.2)
published_line findings text line other (inr h) (inl k) = absurd (none_told findings text h.0.0 k.0 other h.0.1 (good_actionsite text h.0.0 h.0.1 h.0.2) k.1 k.2)
published_line findings text line other (inr h) (inr k) = h.1 ∙ sym k.1

published_or_bad : OneFinding → OneReading → (text : List ℕ) (site : Site) (line : ℕ) → ReadsPublished text (Ok site) → ReadsPublished text (Err line) → ⊥
published_or_bad findings readings text site line h (inl k) = none_told findings text site k.0 line h.0 h.2 k.1 k.2
published_or_bad findings readings text site line h (inr k) = h.1 (ap (λ s. s.name) (one_site readings text site k.0.0 h.0 k.0.1) ∙ k.0.2)

one_published : OneFinding → OneReading → (text : List ℕ) (x y : Result Site ℕ) → ReadsPublished text x → ReadsPublished text y → asked_of Published x ≡ asked_of Published y
one_published findings readings text (Ok site) (Ok other) h k = let same = one_site readings text site other h.0 k.0 in cc
one_published findings readings text (Ok site) (Err line) h k = absurd (published_or_bad findings readings text site line h k)
one_published findings readings text (Err line) (Ok site) h k = absurd (published_or_bad findings readings text site line k h)
one_published findings readings text (Err line) (Err other) h k = let same = published_line findings text line other h k in cc

-- ---- actions

truth_or_none : (plan : PlainNode) (kind : RelKind) → IsTruth plan → IsNoTruth plan kind → ⊥
truth_or_none plan kind is (inl several) = true_false _ several.0 is.singular
truth_or_none plan kind is (inr other) = true_false _ is.boolean other.1

good_or_wrong : OnePlan → (asked : Target) → IsGoodTarget asked → IsWrongTarget asked → ⊥
good_or_wrong plans (target.Where text) good wrong =
    let kind = wrong.0 in
    let place = wrong.1 in
    let P : Reading → Type 0 = λ reading. IsWrongReading reading kind place in
    truth_or_none good.0 kind good.2 (subst P (plans text wrong.2.0 (question good.0) wrong.2.1 good.1) wrong.2.2).0
good_or_wrong plans target.All good wrong = absurd wrong
good_or_wrong plans (target.Computers names) good wrong = absurd wrong

abbrev is_action : Action → Result Action SiteError
is_action action = Ok action

abbrev no_action : SiteError → Result Action SiteError
no_action e = Err e

action_or_error : (e : SiteError) (action : Action) → no_action e ≡ is_action action → ⊥
action_or_error e action is = cc

same_cause : (e other : SiteError) → no_action e ≡ no_action other → e ≡ other
same_cause e other is = cc

action_never_bad : ActionAgain → (text : List ℕ) (action : Action) (e : SiteError) (line : ℕ) → ReadsAction text (Ok action) → ReadsAction text (Err e) → TellsError e line → ⊥
action_never_bad again text action e line h k tells =
    let P : List ℕ → Type 0 = λ t. ReadsAction t (Err e) in
    elim (again action (Err e) h.1 (subst IsShort h.2 h.0) (subst P h.2 k)) as (λ c. ⊥) [
      | inl is ↦ action_or_error e action is
      | inr is ↦ let Q : SiteError → Type 0 = λ o. TellsError o line in subst Q (same_cause e error.Memory is) tells
    ]

one_bad : (AreGood : List (List ℕ) → Type 0) (text : List ℕ) (line other : ℕ) → AnswersBadLine AreGood text line → AnswersBadLine AreGood text other → line ≡ other
one_bad AreGood text line other h k = h.2 ∙ ap (λ n. min n (2 ^ 32 - 1)) (first_bad_line-one AreGood text h.0 k.0 h.1 k.1) ∙ sym k.2

short_or_long : (most : ℕ) (text : List ℕ) → length text ≤ most → most < length text → ⊥
short_or_long most text short long = omega arith

one_no_action : (text : List ℕ) (line other : ℕ) (x y : SiteError) → ReadsAction text (Err x) → ReadsAction text (Err y) → TellsError x line → TellsError y other → line ≡ other
one_no_action text line other (error.BadLine a) (error.BadLine b) h k s t = s ∙ one_bad AreActionLines text a b h.1 k.1 ∙ sym t
one_no_action text line other (error.BadLine a) error.TooLong h k s t = absurd (short_or_long 4194304 text h.0 k)
one_no_action text line other error.TooLong (error.BadLine b) h k s t = absurd (short_or_long 4194304 text k.0 h)
one_no_action text line other error.TooLong error.TooLong h k s t = s ∙ sym t
one_no_action text line other (error.TwiceId a) y h k s t = absurd h
one_no_action text line other (error.WrongDigest stated right) y h k s t = absurd h
one_no_action text line other error.Memory y h k s t = absurd s
one_no_action text line other x (error.TwiceId b) h k s t = absurd k
one_no_action text line other x (error.WrongDigest stated right) h k s t = absurd k
one_no_action text line other x error.Memory h k s t = absurd t

one_read : OneAction → (text : List ℕ) (action other : Action) → ReadsAction text (Ok action) → ReadsAction text (Ok other) → action ≡ other
one_read one text action other h k = one action other h.1 k.1 (sym h.2 ∙ k.2)

one_told : OnePlan → (text : List ℕ) (action : Action) (line other : ℕ) → TellsAction text action line → TellsAction text action other → line ≡ other
one_told plans text action line other (inl h) (inl k) = h.1 ∙ sym k.1
one_told plans text action line other (inl h) (inr k) = absurd (good_or_wrong plans action.target k.0 h.0)
one_told plans text action line other (inr h) (inl k) = absurd (good_or_wrong plans action.target h.0 k.0)
one_told plans text action line other (inr h) (inr k) = h.2 ∙ sym k.2

issued_line : OnePlan → OneAction → ActionAgain → (text : List ℕ) (line other : ℕ) → ReadsIssued text (Err line) → ReadsIssued text (Err other) → line ≡ other
issued_line plans one again text line other (inl h) (inl k) = one_no_action text line other h.0 k.0 h.1 k.1 h.2 k.2
issued_line plans one again text line other (inl h) (inr k) = absurd (action_never_bad again text k.0 h.0 line k.1 h.1 h.2)
issued_line plans one again text line other (inr h) (inl k) = absurd (action_never_bad again text h.0 k.0 other h.1 k.1 k.2)
issued_line plans one again text line other (inr h) (inr k) =
    let P : Action → Type 0 = λ a. TellsAction text a line in
    one_told plans text k.0 line other (subst P (one_read one text h.0 k.0 h.1 k.1) h.2) k.2

told_or_issued : OnePlan → (text : List ℕ) (action : Action) (line : ℕ) → IsGoodTarget action.target → action.stopped ≡ false → TellsAction text action line → ⊥
told_or_issued plans text action line good still (inl k) = good_or_wrong plans action.target good k.0
told_or_issued plans text action line good still (inr k) = true_false action.stopped k.1 still

issued_or_bad : OnePlan → OneAction → ActionAgain → (text : List ℕ) (action : Action) (line : ℕ) → ReadsIssued text (Ok action) → ReadsIssued text (Err line) → ⊥
issued_or_bad plans one again text action line h (inl k) = action_never_bad again text action k.0 line h.0 k.1 k.2
issued_or_bad plans one again text action line h (inr k) =
    let P : Action → Type 0 = λ a. TellsAction text a line in
    told_or_issued plans text action line h.1 h.2 (subst P (one_read one text k.0 action k.1 h.0) k.2)

one_issued : OnePlan → OneAction → ActionAgain → (text : List ℕ) (x y : Result Action ℕ) → ReadsIssued text x → ReadsIssued text y → asked_of Issued x ≡ asked_of Issued y
one_issued plans one again text (Ok action) (Ok other) h k = let same = one_read one text action other h.0 k.0 in cc
one_issued plans one again text (Ok action) (Err line) h k = absurd (issued_or_bad plans one again text action line h k)
one_issued plans one again text (Err line) (Ok action) h k = absurd (issued_or_bad plans one again text action line k h)
one_issued plans one again text (Err line) (Err other) h k = let same = issued_line plans one again text line other h k in cc

-- ---- reports

abbrev is_report : Report → Result Report ReportError
is_report report = Ok report

abbrev no_report : ReportError → Result Report ReportError
no_report e = Err e

report_or_error : (e : ReportError) (report : Report) → no_report e ≡ is_report report → ⊥
report_or_error e report is = cc

same_error : (e other : ReportError) → no_report e ≡ no_report other → e ≡ other
same_error e other is = cc

report_never_bad : Again → (text : List ℕ) (report : Report) (e : ReportError) (line : ℕ) → ReadsReport text (Ok report) → ReadsReport text (Err e) → TellsReportError e line → ⊥
report_never_bad again text report e line h k tells =
    let P : List ℕ → Type 0 = λ t. ReadsReport t (Err e) in
    elim (again report (Err e) h.1 (subst P h.2 k)) as (λ c. ⊥) [
      | inl is ↦ report_or_error e report is
      | inr is ↦ let Q : ReportError → Type 0 = λ o. TellsReportError o line in subst Q (same_error e reported.Memory is) tells
    ]

one_no_report : (text : List ℕ) (line other : ℕ) (x y : ReportError) → ReadsReport text (Err x) → ReadsReport text (Err y) → TellsReportError x line → TellsReportError y other → line ≡ other
one_no_report text line other (reported.BadReport a) (reported.BadReport b) h k s t = s ∙ one_bad AreReportLines text a b h.1 k.1 ∙ sym t
one_no_report text line other (reported.BadReport a) reported.TooLong h k s t = absurd (short_or_long 65536 text h.0 k)
one_no_report text line other reported.TooLong (reported.BadReport b) h k s t = absurd (short_or_long 65536 text k.0 h)
one_no_report text line other reported.TooLong reported.TooLong h k s t = s ∙ sym t
one_no_report text line other reported.Memory y h k s t = absurd s
one_no_report text line other x reported.Memory h k s t = absurd t

one_reported : OneReport → Again → (text : List ℕ) (x y : Result Report ℕ) → ReadsReported text x → ReadsReported text y → asked_of Reported x ≡ asked_of Reported y
one_reported one again text (Ok report) (Ok other) h k = let same = one report other h.1 k.1 (sym h.2 ∙ k.2) in cc
one_reported one again text (Ok report) (Err line) h k = absurd (report_never_bad again text report k.0 line h k.1 k.2)
one_reported one again text (Err line) (Ok report) h k = absurd (report_never_bad again text report h.0 line k h.1 h.2)
one_reported one again text (Err line) (Err other) h k = let same = one_no_report text line other h.0 k.0 h.1 k.1 h.2 k.2 in cc

-- ---- requests

pub means_one : OneReading → OneFinding → OnePlan → OneAction → ActionAgain → OneReport → Again → (asks : Request) (asked other : Asked) → Asks asks asked → Asks asks other → asked ≡ other
means_one readings findings plans action action_again report report_again (request.Publish text) asked other h k = h.2 ∙ one_published findings readings text h.0 k.0 h.1 k.1 ∙ sym k.2
means_one readings findings plans action action_again report report_again (request.Act text) asked other h k = h.2 ∙ one_issued plans action action_again text h.0 k.0 h.1 k.1 ∙ sym k.2
means_one readings findings plans action action_again report report_again (request.Stop id) asked other h k = h ∙ sym k
means_one readings findings plans action action_again report report_again (request.File bytes) asked other h k = h ∙ sym k
means_one readings findings plans action action_again report report_again request.AskSites asked other h k = h ∙ sym k
means_one readings findings plans action action_again report report_again (request.AskSite name version) asked other h k = h ∙ sym k
means_one readings findings plans action action_again report report_again (request.AskFile digest) asked other h k = h ∙ sym k
means_one readings findings plans action action_again report report_again (request.Report text) asked other h k = h.2 ∙ one_reported report report_again text h.0 k.0 h.1 k.1 ∙ sym k.2
means_one readings findings plans action action_again report report_again (request.Results computer) asked other h k = h ∙ sym k
