use Rattle.group_text.proofs.FieldLemmas.{no_named, other_name, other_rest, named_whole}
use Rattle.group_text.proofs.group_reader.read_named.Goals as goal

pub returns-in_default : goal.returns-in_default
returns-in_default c = λ property rest is. no_named c.args.text.now property rest c.in_default.ensures is

pub returns-in_default-read_name : goal.returns-in_default-read_name
returns-in_default-read_name c = λ property rest is.
    other_name c.args.text.now c.in-Some.cut.first.now c.in-Some.cut.rest.now property rest c.in-Some.ensures c.in_default-read_name.ensures is

pub returns-in_default-read_rest : goal.returns-in_default-read_rest
returns-in_default-read_rest c = λ property rest is.
    other_rest c.args.text.now c.in-Some.cut.first.now c.in-Some.cut.rest.now property rest c.in-Some.ensures c.in_default-read_rest.ensures is

pub returns : goal.returns
returns c =
    named_whole c.args.text.now c.in-Some.cut.first.now c.in-Some.cut.rest.now c.in-Some-read_name.property.now c.in-Some-read_rest.text.now c.in-Some.ensures
    c.in-Some-read_name.ensures.0 c.in-Some-read_name.ensures.1 c.in-Some-read_rest.ensures.0 c.in-Some-read_rest.ensures.1
