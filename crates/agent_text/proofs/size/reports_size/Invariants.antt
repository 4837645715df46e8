use Rattle.std.proofs.Common.{◌≡◌, ◌+◌, take}
use Rattle.std.specs.Prelude.{sum_by}
use Rattle.agent_text.specs.MostBytes.{report_bytes}
use Rattle.agent_text.proofs.size.reports_size.Given as goal

-- the bytes of the first reports and of the others so far
abbrev pub invariant-loop-report : goal.invariant-loop-report
invariant-loop-report l = l.most ≡ l.fn.reports.made.now.most + sum_by report_bytes (take l.report-index l.report-items)
