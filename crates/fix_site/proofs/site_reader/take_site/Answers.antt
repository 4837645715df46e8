use Rattle.std.specs.Prelude.{codes}
use Rattle.line_forms.specs.FieldLists.{line_of}
use Rattle.line_forms.proofs.Passing.{takes_rest}
use Rattle.fix_site.specs.Readings.{named_fields}
use Rattle.fix_site.proofs.site_reader.take_site.Goals as goal

pub returns : goal.returns
returns c =
    (c.in_ok-head.ensures.0, c.in_ok-head.ensures.1, takes_rest c.args.lines.now c.skip_line.new.self (codes "site") c.in_ok-rest_ahead.field-0.now (line_of (named_fields c.in_ok-head.head.name.now c.in_ok-head.head.id)) c.in_ok-rest_ahead.ensures.0 c.in_ok-rest_ahead.ensures.1 c.in_ok-head.ensures.2 c.skip_line.ensures)
