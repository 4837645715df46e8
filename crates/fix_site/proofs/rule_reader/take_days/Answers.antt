use Rattle.std.proofs.Common.{map}
use Rattle.std.specs.Prelude.{codes}
use Rattle.line_forms.proofs.Passing.{takes_rest}
use Rattle.fix_site.specs.RuleLines.{day_digit}
use Rattle.fix_site.proofs.rule_reader.take_days.Goals as goal

pub returns : goal.returns
returns c =
    (c.in_ok-days.ensures.0, takes_rest c.args.lines.now c.skip_line.new.self (codes "days") c.in_ok-rest_ahead.field-0.now (map day_digit c.in_ok-days.days) c.in_ok-rest_ahead.ensures.0 c.in_ok-rest_ahead.ensures.1 c.in_ok-days.ensures.1 c.skip_line.ensures)
