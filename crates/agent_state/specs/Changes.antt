-- What gathering, settling and supplying do to a state, and what lookups answer.
use Rattle.std.specs.Prelude.{◌≡◌, ℕ, zero, suc, ◌==◌, ◌<◌, ◌≤◌, not, if◌then◌else◌, List, [], ◌∷◌, filter, Bool, true, false, Option, Some, None}
use Rattle.std.specs.List.{find, list_any}
use Rattle.std.specs.Str.{bytes_eq}
use Rattle.act_rules.specs.declared.tally.Tally.{Tally}
use Rattle.act_rules.specs.Tallies.{StandsFor}
use Rattle.report_text.specs.declared.answer.Gathered.{Gathered}
use Rattle.report_text.specs.declared.answer.Gathered.TheVariants as gathered
use Rattle.report_text.specs.declared.answer.Verdict.{Verdict}
use Rattle.report_text.specs.declared.answer.Verdict.TheVariants as verdict
use Rattle.report_text.specs.declared.report.Report.{Report}
use Rattle.fix_site.specs.declared.action.Action.{Action}
use Rattle.fix_site.specs.declared.site.Site.{Site}
use Rattle.agent_text.specs.Histories.{rows_at}
use Rattle.agent_attempt.specs.Attempts.{PlainAttempt}
use Rattle.agent_attempt.specs.ActionContents.{actions_of, site_at}
use Rattle.agent_attempt.specs.Supplies.{Supplies}
use Rattle.agent_state.specs.States.{State}

-- ---- sites
-- the version of a site, 0 where it isn't gathered
abbrev pub kept_version : Option Site → ℕ
kept_version None = 0
kept_version (Some site) = site.version

-- the sites with this one at its name
abbrev pub with_site : Site → List Site → List Site
with_site site [] = site ∷ []
with_site site (other ∷ sites) = if bytes_eq other.name site.name then site ∷ sites else other ∷ with_site site sites

abbrev pub with_sites : List Site → State → State
with_sites sites s = record s { sites = sites }

-- A site is kept where its version is greater than that of the kept one. Otherwise the kept version is answered, and nothing changes, as
-- at want of memory.
abbrev pub GathersSite : State → Site → Gathered → State → Type 0
GathersSite old site gathered.New new =
    (kept_version (site_at site.name old.sites) < site.version) × (new ≡ with_sites (with_site site old.sites) old)
GathersSite old site (gathered.Older version) new =
    (version ≡ kept_version (site_at site.name old.sites)) × (site.version ≤ version) × (new ≡ old)
GathersSite old site gathered.Memory new = new ≡ old

-- ---- reports
-- whether there is a report with this number
abbrev pub has_report : ℕ → List Report → Bool
has_report seq reports = list_any (λ (report : Report). report.seq == seq) reports

-- the reports without the one with this number
abbrev pub without_report : ℕ → List Report → List Report
without_report seq reports = filter (λ (report : Report). not (report.seq == seq)) reports

-- of the first `shown` reports, how many are left without the one of this number
abbrev pub shown_without : ℕ → ℕ → List Report → ℕ
shown_without seq shown [] = shown
shown_without seq zero (report ∷ reports) = zero
shown_without seq (suc shown) (report ∷ reports) =
    if report.seq == seq then shown else suc (shown_without seq shown reports)

-- the state without the report of this number, which is unsaved then
abbrev pub with_dropped : ℕ → State → State
with_dropped seq s = record s {
  reports = without_report seq s.reports;
  shown = shown_without seq s.shown s.reports;
  unsaved = true;
}

-- whether it was dropped
abbrev pub DropsState : ℕ → State → Bool → State → Type 0
DropsState seq old true new = (has_report seq old.reports ≡ true) × (new ≡ with_dropped seq old)
DropsState seq old false new = (has_report seq old.reports ≡ false) × (new ≡ old)

-- A report that is stored is dropped where it is there. Every other verdict changes nothing.
abbrev pub SettlesState : ℕ → Verdict → State → Bool → State → Type 0
SettlesState seq verdict.Stored old answer new = DropsState seq old answer new
SettlesState seq _ old answer new = (answer ≡ false) × (new ≡ old)

-- ---- files
-- a file is supplied to the held attempt, if there is one
abbrev pub SuppliesHeld : Option PlainAttempt → List ℕ → Option (List ℕ) → Bool → Option PlainAttempt → Type 0
SuppliesHeld None digest bytes answer held = (answer ≡ false) × (held ≡ None)
SuppliesHeld (Some old) digest bytes answer None = ⊥
SuppliesHeld (Some old) digest bytes answer (Some new) = Supplies old digest bytes answer new

abbrev pub SuppliesState : State → List ℕ → Option (List ℕ) → Bool → State → Type 0
SuppliesState old digest bytes answer new =
    (new ≡ record old { held = new.held }) × SuppliesHeld old.held digest bytes answer new.held

-- ---- tallies
-- the action of an id, if the gathered `actionsite` has it
abbrev pub action_at : ℕ → State → Option Action
action_at id s = find (λ (action : Action). action.id == id) (actions_of s.sites)

-- There is a tally exactly of the actions of the gathered `actionsite`, and it stands for the rows of its action under its retries.
abbrev pub TalliesRows : State → ℕ → Option Action → Option Tally → Type 0
TalliesRows s id None answer = answer ≡ None
TalliesRows s id (Some action) None = ⊥
TalliesRows s id (Some action) (Some tally) = StandsFor tally action.rules.retries (rows_at id s.histories)

abbrev pub AnswersTally : State → ℕ → Option Tally → Type 0
AnswersTally s id answer = TalliesRows s id (action_at id s) answer
