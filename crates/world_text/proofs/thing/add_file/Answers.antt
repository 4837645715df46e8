use Rattle.world_text.proofs.FieldLemmas.{no_field}
use Rattle.world_text.proofs.RowLemmas.{file_at}
use Rattle.world_text.proofs.thing.add_file.Goals as goal

pub returns-in_default-clause-adds : goal.returns-in_default-clause-adds
returns-in_default-clause-adds c = λ new a. no_field c.args.rest.now a.field a.path c.in_default.ensures a.fields

pub returns-in_default-read_moment-clause-adds : goal.returns-in_default-read_moment-clause-adds
returns-in_default-read_moment-clause-adds c = λ new a.
    let h = file_at c.args.world.now c.args.rest.now c.in-Some.cut.first.now c.in-Some.cut.rest.now new c.in-Some.ensures a in
    c.in_default-read_moment.ensures h.0 h.1

pub returns-in_default-new_path-clause-adds : goal.returns-in_default-new_path-clause-adds
returns-in_default-new_path-clause-adds c = λ new a.
    let h = file_at c.args.world.now c.args.rest.now c.in-Some.cut.first.now c.in-Some.cut.rest.now new c.in-Some.ensures a in
    c.in_default-new_path.ensures h.2
