use Rattle.world_text.proofs.FieldLemmas.{no_field, no_version, no_name}
use Rattle.world_text.proofs.fields.read_versioned.Goals as goal

pub returns-in_default : goal.returns-in_default
returns-in_default c = λ version name h. no_field c.args.text.now version name c.in_default.ensures h.0

pub returns-in_default-read_version : goal.returns-in_default-read_version
returns-in_default-read_version c = λ version name h.
    no_version c.args.text.now c.in-Some.cut.first.now c.in-Some.cut.rest.now version name c.in-Some.ensures c.in_default-read_version.ensures h

pub returns-in_default-read_rest : goal.returns-in_default-read_rest
returns-in_default-read_rest c = λ version name h.
    no_name c.args.text.now c.in-Some.cut.first.now c.in-Some.cut.rest.now version name c.in-Some.ensures c.in_default-read_rest.ensures h
