use Rattle.world_text.proofs.RowLemmas.{program_at, is_there}
use Rattle.world_text.proofs.thing.add_program.Goals as goal

pub returns-in_default-clause-adds : goal.returns-in_default-clause-adds
returns-in_default-clause-adds c = λ new a. c.in_default.ensures a.field a.code a.line (a.more, a.first, a.fields)

pub returns-in_default-read_number-clause-adds : goal.returns-in_default-read_number-clause-adds
returns-in_default-read_number-clause-adds c = λ new a.
    let f = c.in-Some.fields in
    let h = program_at c.args.world.now c.args.rest.now f.first.now f.second.now f.rest.now new c.in-Some.ensures a in
    c.in_default-read_number.ensures h.0 h.2

pub returns-in_default-read_number-2-clause-adds : goal.returns-in_default-read_number-2-clause-adds
returns-in_default-read_number-2-clause-adds c = λ new a.
    let f = c.in-Some.fields in
    let h = program_at c.args.world.now c.args.rest.now f.first.now f.second.now f.rest.now new c.in-Some.ensures a in
    c.in_default-read_number-2.ensures h.1 h.3

pub returns-in_default-read_rest-clause-adds : goal.returns-in_default-read_rest-clause-adds
returns-in_default-read_rest-clause-adds c = λ new a.
    let f = c.in-Some.fields in
    let h = program_at c.args.world.now c.args.rest.now f.first.now f.second.now f.rest.now new c.in-Some.ensures a in
    c.in_default-read_rest.ensures h.4

pub returns-then-has_program-clause-adds : goal.returns-then-has_program-clause-adds
returns-then-has_program-clause-adds c = λ new a.
    let f = c.in-Some.fields in
    let h = program_at c.args.world.now c.args.rest.now f.first.now f.second.now f.rest.now new c.in-Some.ensures a in
    is_there c.args.world.now.programs f.rest.now c.in-Some-read_rest.line.now c.has_program.result c.in-Some-read_rest.ensures.1 c.has_program.ensures c.if-has_program.true h.5
