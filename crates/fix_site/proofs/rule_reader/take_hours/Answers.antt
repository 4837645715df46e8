use Rattle.std.specs.Prelude.{codes}
use Rattle.line_forms.specs.FieldLists.{line_of}
use Rattle.line_forms.proofs.Passing.{takes_rest}
use Rattle.fix_site.specs.RuleLines.{hours_fields}
use Rattle.fix_site.proofs.rule_reader.take_hours.Goals as goal

pub returns : goal.returns
returns c =
    (c.in_ok-hours.ensures.0, takes_rest c.args.lines.now c.skip_line.new.self (codes "hours") c.in_ok-rest_ahead.field-0.now (line_of (hours_fields c.in_ok-hours.hours)) c.in_ok-rest_ahead.ensures.0 c.in_ok-rest_ahead.ensures.1 c.in_ok-hours.ensures.1 c.skip_line.ensures)
