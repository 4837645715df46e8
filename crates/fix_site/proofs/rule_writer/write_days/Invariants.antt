use Rattle.std.proofs.Common.{◌≡◌, ◌++◌, take}
use Rattle.std.specs.Prelude.{map}
use Rattle.fix_site.specs.RuleLines.{day_digit}
use Rattle.fix_site.proofs.rule_writer.write_days.Given as goal

abbrev pub invariant-loop-day : goal.invariant-loop-day
invariant-loop-day l = l.out ≡ l.initial.out ++ map day_digit (take l.day-index l.days)
