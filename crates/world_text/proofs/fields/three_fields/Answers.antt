use Rattle.world_text.proofs.FieldLemmas.{no_field, no_second}
use Rattle.world_text.proofs.fields.three_fields.Goals as goal

pub returns-in_default : goal.returns-in_default
returns-in_default c = λ first second rest h. no_field c.args.text.now first h.0 c.in_default.ensures h.1

pub returns-in_default-first_field : goal.returns-in_default-first_field
returns-in_default-first_field c = λ first second rest h.
    no_second c.args.text.now c.in-Some.cut.first.now c.in-Some.cut.rest.now first second rest c.in-Some.ensures c.in_default-first_field.ensures h
