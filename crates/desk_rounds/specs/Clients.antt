-- The clients of an upstream: relays and agents. Each keeps sites, and has reports to post.
use Rattle.std.specs.Prelude.{◌≡◌, ℕ, Bool, true, false, List, ◌∷◌, ◌++◌, length, Option, Some, None, Ok, Err}
use Rattle.std.specs.declared.result.Result.{Result}
use Rattle.std.specs.declared.alloc.AllocError.{AllocError}
use Rattle.fix_site.specs.declared.site.Site.{Site}
use Rattle.report_text.specs.declared.answer.Gathered.{Gathered}
use Rattle.report_text.specs.declared.answer.Verdict.{Verdict}
use Rattle.report_text.specs.declared.answer.Verdict.TheVariants as verdict
use Rattle.report_text.specs.declared.report.Report.{Report}
use Rattle.relay_core.specs.KeptSites.{KeepsSite}
use Rattle.relay_core.specs.Relays.{RelayState}
use Rattle.relay_core.specs.ReportKeys.{key_of, report_digest}
use Rattle.relay_core.specs.ReportsUp.{after_sent}
use Rattle.agent_state.specs.Changes.{GathersSite, SettlesState}
use Rattle.agent_state.specs.States.{State}
use Rattle.agent_core.specs.ShownReports.{shown_reports}
use Rattle.desk_rounds.specs.declared.judged.Asker.{Asker}
use Rattle.desk_rounds.specs.declared.judged.Asker.TheVariants as asker
use Rattle.desk_rounds.specs.declared.judged.Judged.{Judged}
use Rattle.desk_rounds.specs.declared.judged.Judged.TheVariants as judged
use Rattle.desk_rounds.specs.Lines.{Line}
use Rattle.desk_rounds.specs.Parts.{Part}
use Rattle.desk_rounds.specs.Ways.{Way, way}

-- How a client goes about it, by what it keeps: its sort; its sites, and what becomes of one that it is to keep; the reports that it has to
-- post, the oldest first, and what becomes of one of which an upstream said this.
pub record Client (K : Type 0) : Type 1 where
  pub asker : Asker
  pub sites : K → List Site
  pub keeps : K → Site → Gathered → K → Type 0
  pub reports : K → List Report
  pub settles : K → Report → Judged → K → Type 0

-- ---- a relay
-- The digest of the report that the server holds of the key of this one, by what was said of this: after `ok` and `again` this one's own,
-- and after a conflict the one that was named. Nothing else tells of one.
abbrev pub held_of : Judged → Report → Option (List ℕ)
held_of judged.Ok report = Some (report_digest report)
held_of judged.Again report = Some (report_digest report)
held_of (judged.Conflict digest) report = Some digest
held_of other report = None

-- the relay after that was said of a queued report, which else stays queued
abbrev pub relay_told : RelayState → Report → Option (List ℕ) → RelayState
relay_told relay report (Some digest) = after_sent relay (key_of report) digest
relay_told relay report None = relay

abbrev pub relay_client : Client RelayState
relay_client = record {
  asker = asker.Relay;
  sites = λ relay. relay.sites;
  keeps = KeepsSite;
  reports = λ relay. relay.queue;
  settles = λ relay report said after. after ≡ relay_told relay report (held_of said report);
}

-- The report at a place of the queue left it, and its key is known with this digest; or there was no memory. Only a private function cites
-- this.
abbrev pub HoldsAt : ℕ → List ℕ → RelayState → Result Unit AllocError → RelayState → Type 0
HoldsAt place digest old (Ok done) new =
    (before after : List Report) (report : Report) → old.queue ≡ before ++ report ∷ after → length before ≡ place
    → (new ≡ after_sent old (key_of report) digest) × (new.queue ≡ before ++ after)
HoldsAt place digest old (Err error) new = new ≡ old

-- ---- an agent
-- whether it takes it for stored. Only a private function cites this.
abbrev pub is_stored : Judged → Bool
is_stored judged.Ok = true
is_stored judged.Again = true
is_stored judged.Stored = true
is_stored other = false

-- the verdict that it is
abbrev pub verdict_of : Judged → Verdict
verdict_of judged.Ok = verdict.Stored
verdict_of judged.Again = verdict.Stored
verdict_of judged.Stored = verdict.Stored
verdict_of judged.Carried = verdict.Carried
verdict_of (judged.Conflict digest) = verdict.Conflict digest
verdict_of (judged.Full limit) = verdict.Full limit

abbrev pub agent_client : Client State
agent_client = record {
  asker = asker.Agent;
  sites = λ agent. agent.sites;
  keeps = GathersSite;
  reports = shown_reports;
  settles = λ agent report said after. (dropped : Bool) × SettlesState report.seq (verdict_of said) agent dropped after;
}

-- ---- a client, and what it asks
pub record At (K : Type 0) : Type 0 where
  pub client : K
  pub way : Way

abbrev pub at : {K : Type 0} → K → Way → At K
at client by = record { client = client; way = by }

-- the round is over, and the next one begins with its first upstream
abbrev pub at_rest : {K : Type 0} → At K → At K
at_rest it = at it.client (way it.way.link None)

-- these lines are printed, and then this is done
abbrev pub AfterSaid : {K : Type 0} → List Line → Part (At K) → Part (At K)
AfterSaid said rest old then lines new = (more : List Line) × rest old then more new × (lines ≡ said ++ more)

-- what concerns the client alone
abbrev pub OfClient : {K : Type 0} → Part K → Part (At K)
OfClient does old then lines new = does old.client then lines new.client × (new.way ≡ old.way)

module _ {K : Type 0} (c : Client K) where
  -- the report was settled, and it has gone from those that there are to post, or all of them are still there; or there was no memory
  abbrev pub SettlesIn : List Report → Report → List Report → Judged → K → Result Bool AllocError → K → Type 0
  SettlesIn before report after judged old (Ok true) new = c.settles old report judged new × (c.reports new ≡ before ++ after)
  SettlesIn before report after judged old (Ok false) new = c.settles old report judged new × (c.reports new ≡ c.reports old)
  SettlesIn before report after judged old (Err error) new = new ≡ old

  -- The report at a place of those that there are to post was settled.
  abbrev pub SettlesAt : ℕ → Judged → K → Result Bool AllocError → K → Type 0
  SettlesAt place judged old result new =
      (before after : List Report) (report : Report) → c.reports old ≡ before ++ report ∷ after → length before ≡ place
      → SettlesIn before report after judged old result new
