use Rattle.world_text.proofs.AddLemmas.{content_takes, one_field_line, no_kind_line, fields_take}
use Rattle.world_text.proofs.draft.Draft.add_line.Goals as goal

pub returns-in-Some-clause-adds : goal.returns-in-Some-clause-adds
returns-in-Some-clause-adds c =
    content_takes c.args.self.now c.add_content.new.self c.args.line.now c.in-Some.content.now c.add_content.result c.in-Some.ensures.0 c.add_content.ensures.adds

pub returns-in_default-first_field-clause-adds : goal.returns-in_default-first_field-clause-adds
returns-in_default-first_field-clause-adds c = λ other a.
    one_field_line c.args.self.now other c.args.line.now c.in_default.ensures c.in_default-first_field.ensures a

pub returns-in_default-kind_of-clause-adds : goal.returns-in_default-kind_of-clause-adds
returns-in_default-kind_of-clause-adds c = λ other a.
    let cut = c.in-Some-first_field.cut in
    no_kind_line c.args.self.now other c.args.line.now cut.first.now cut.rest.now c.in_default.ensures c.in-Some-first_field.ensures c.in_default-kind_of.ensures a

pub returns-clause-adds : goal.returns-clause-adds
returns-clause-adds c =
    let cut = c.in-Some-first_field.cut in
    fields_take c.in-Some-kind_of.kind c.args.self.now c.add_fields.new.self c.args.line.now cut.first.now cut.rest.now c.add_fields.result c.in_default.ensures c.in-Some-first_field.ensures
    c.in-Some-kind_of.ensures c.add_fields.ensures.adds
