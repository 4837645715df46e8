use Rattle.std.specs.Prelude.{codes}
use Rattle.line_forms.specs.FieldLists.{line_of}
use Rattle.line_forms.proofs.Passing.{takes_rest}
use Rattle.fix_site.specs.Readings.{counted_fields}
use Rattle.fix_site.proofs.rule_reader.take_retries.Goals as goal

pub returns : goal.returns
returns c =
    (c.in_ok-retries.ensures.0, c.in_ok-retries.ensures.1, takes_rest c.args.lines.now c.skip_line.new.self (codes "retries") c.in_ok-rest_ahead.field-0.now (line_of (counted_fields c.in_ok-retries.retries.count c.in_ok-retries.retries.wait)) c.in_ok-rest_ahead.ensures.0 c.in_ok-rest_ahead.ensures.1 c.in_ok-retries.ensures.2 c.skip_line.ensures)
