use Rattle.std.specs.Prelude.{codes}
use Rattle.line_forms.specs.FieldLists.{line_of}
use Rattle.line_forms.proofs.Passing.{takes_rest}
use Rattle.fix_site.specs.RuleLines.{reapply_fields}
use Rattle.fix_site.proofs.rule_reader.take_reapply.Goals as goal

pub returns : goal.returns
returns c =
    (c.in_ok-reapply.ensures.0, takes_rest c.args.lines.now c.skip_line.new.self (codes "reapply") c.in_ok-rest_ahead.field-0.now (line_of (reapply_fields c.in_ok-reapply.reapply)) c.in_ok-rest_ahead.ensures.0 c.in_ok-rest_ahead.ensures.1 c.in_ok-reapply.ensures.1 c.skip_line.ensures)
