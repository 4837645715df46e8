use Rattle.desk_http.proofs.Naming.{first_one, one_more, other_more, other_one, stays}
use Rattle.desk_http.proofs.fields.Named.after.Goals as goal

pub returns-then-not-eq_ignore_ascii_case : goal.returns-then-not-eq_ignore_ascii_case
returns-then-not-eq_ignore_ascii_case c =
    stays c.args.buf.now c.args.name.now c.of.result.now c.args.field.now c.eq_ignore_ascii_case.result c.of.ensures c.eq_ignore_ascii_case.ensures.test c.args.self c.if-not-eq_ignore_ascii_case.true

pub returns-in-Nothing : goal.returns-in-Nothing
returns-in-Nothing c =
    first_one c.args.buf.now c.args.name.now c.of.result.now c.args.field.now c.eq_ignore_ascii_case.result c.of.ensures c.eq_ignore_ascii_case.ensures.test c.args.self c.if-not-eq_ignore_ascii_case.false c.in-Nothing.is c.requires.1

pub returns-in-One : goal.returns-in-One
returns-in-One c =
    one_more c.args.buf.now c.args.name.now c.of.result.now c.args.field.now c.eq_ignore_ascii_case.result c.of.ensures c.eq_ignore_ascii_case.ensures.test c.args.self c.if-not-eq_ignore_ascii_case.false (other_one _ _ c.in-One.is)

pub returns-in-More : goal.returns-in-More
returns-in-More c =
    one_more c.args.buf.now c.args.name.now c.of.result.now c.args.field.now c.eq_ignore_ascii_case.result c.of.ensures c.eq_ignore_ascii_case.ensures.test c.args.self c.if-not-eq_ignore_ascii_case.false (other_more _ c.in-More.is)
