-- What holds in every network that a schedule reaches.
use Rattle.std.specs.Prelude.{◌≢◌, ℕ, List, filter_map, All, Contains, Some, None, ⊤}
use Rattle.std.specs.declared.option.Option.{Option}
use Rattle.std.specs.List.{IsDistinct}
use Rattle.report_text.specs.declared.report.Report.{Report}
use Rattle.report_text.specs.declared.answer.Verdict.TheVariants as verdicts
use Rattle.relay_core.specs.ReportKeys.{ReportKey, key_of, report_digest, same_key}
use Rattle.server_text.specs.declared.reply.Reply.TheVariants as replies
use Rattle.server_text.specs.Entries.{Entry, Reported}
use Rattle.server_core.specs.TableViews.{IsHeld}
use Rattle.delivery.specs.Messages.{Message, VerdictToComputer, ReplyToRelay}
use Rattle.delivery.specs.Schedules.{Network}

-- the key of an accepted report
abbrev pub report_key : Entry → Option ReportKey
report_key (Reported report) = Some (key_of report)
report_key other = None

-- the verdict or the reply that a message brings, if it brings one, isn't that another report of the computer and number is there
abbrev pub TellsNoConflict : Message → Type 0
TellsNoConflict (VerdictToComputer computer seq verdict) = (kept : List ℕ) → verdict ≢ verdicts.Conflict kept
TellsNoConflict (ReplyToRelay relay key digest answered) = (kept : List ℕ) → answered ≢ replies.Conflict kept
TellsNoConflict other = ⊤

-- Each accepted report was made by its computer. No two accepted reports have one computer and number. Of each report that was ever
-- dropped, one with its computer, its number and its digest is accepted. No verdict and no reply that was ever given is a conflict.
pub record IsDelivered (n : Network) : Type 0 where
  pub made : (report : Report) → Contains n.accepted (Reported report) → Contains n.made (report.computer, report)
  pub once : IsDistinct same_key (filter_map report_key n.accepted)
  pub held : All (λ report. IsHeld n.accepted report.computer report.seq (report_digest report)) n.dropped
  pub agreed : All TellsNoConflict n.messages
