use Rattle.std.proofs.Common.{◌≡◌, take}
use Rattle.agent_text.proofs.saved.Reports.copy.Given as goal

abbrev pub invariant-loop-report : goal.invariant-loop-report
invariant-loop-report l = l.copies.items ≡ take l.report-index l.report-items
