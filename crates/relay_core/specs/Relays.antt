-- What a relay keeps.
use Rattle.std.specs.Prelude.{ℕ, List, []}
use Rattle.report_text.specs.declared.report.Report.{Report}
use Rattle.fix_site.specs.declared.site.Site.{Site}
use Rattle.relay_core.specs.ReportKeys.{ReportKey}

-- A relay: the most reports that it queues; its queue, the oldest report first; the keys of which it knows that the server holds
-- a report, each with the digest of that report, the latest first; its sites.
pub record RelayState : Type 0 where
  pub limit : ℕ
  pub queue : List Report
  pub held : List (ReportKey × List ℕ)
  pub sites : List Site

-- the most reports that a relay of the desk queues
abbrev pub desk_queue : ℕ
desk_queue = 10000

-- a relay that keeps nothing
abbrev pub empty_relay : ℕ → RelayState
empty_relay limit = record { limit = limit; queue = []; held = []; sites = [] }
