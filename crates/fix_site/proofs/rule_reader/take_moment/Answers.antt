use Rattle.std.proofs.Common.{refl}
use Rattle.line_forms.proofs.Passing.{not_spelled, takes_rest}
use Rattle.fix_site.specs.RuleLines.{moment_field}
use Rattle.fix_site.specs.Readings.{IsMaybeMoment}
use Rattle.fix_site.proofs.rule_reader.take_moment.Goals as goal

pub returns-in_default-read_moment_field : goal.returns-in_default-read_moment_field
returns-in_default-read_moment_field c = (refl, not_spelled IsMaybeMoment moment_field c.args.lines.now c.args.word.now c.in-Some.field.now c.in-Some.ensures.0 c.in-Some.ensures.1 c.in_default-read_moment_field.ensures)

pub returns : goal.returns
returns c =
    (c.in-Some-read_moment_field.ensures.0, takes_rest c.args.lines.now c.skip_line.new.self c.args.word.now c.in-Some.field.now (moment_field c.in-Some-read_moment_field.moment) c.in-Some.ensures.0 c.in-Some.ensures.1 c.in-Some-read_moment_field.ensures.1 c.skip_line.ensures)
