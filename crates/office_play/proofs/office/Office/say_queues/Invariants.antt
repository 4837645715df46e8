use Rattle.std.proofs.Common.{◌≡◌, drop}
use Rattle.office_rules.specs.Endings.{by_name, queue_counts}
use Rattle.office_play.proofs.office.Office.say_queues.Given as goal

-- the counts of the relays that were passed
abbrev pub invariant-loop-at : goal.invariant-loop-at
invariant-loop-at l = l.counts ≡ by_name (queue_counts (drop l.at l.relays))
