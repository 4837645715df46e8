use Rattle.world_text.proofs.FieldLemmas.{system_rest, system_is}
use Rattle.world_text.proofs.head.read_system_line.Goals as goal

pub returns-in_default : goal.returns-in_default
returns-in_default c = λ version system h. c.in_default.ensures h.0 h.1.1

pub returns-in_default-read_versioned : goal.returns-in_default-read_versioned
returns-in_default-read_versioned c = λ version system h.
    c.in_default-read_versioned.ensures version system (system_rest c.args.line.now c.in-Some.rest.now version system c.in-Some.ensures h)

pub returns : goal.returns
returns c = system_is c.args.line.now c.in-Some.rest.now c.in-Some-read_versioned.system.version.now c.in-Some-read_versioned.system.name.now c.in-Some.ensures c.in-Some-read_versioned.ensures
