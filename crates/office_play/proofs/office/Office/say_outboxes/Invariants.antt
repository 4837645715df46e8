use Rattle.std.proofs.Common.{◌≡◌, drop}
use Rattle.std.specs.Prelude.{map}
use Rattle.office_rules.specs.Endings.{by_name, outbox_counts}
use Rattle.office_play.specs.States.{shown_entry}
use Rattle.office_play.proofs.office.Office.say_outboxes.Given as goal

-- the counts of the computers that were passed
abbrev pub invariant-loop-at : goal.invariant-loop-at
invariant-loop-at l = l.counts ≡ by_name (outbox_counts (map shown_entry (drop l.at l.computers)))
