use Rattle.world_text.proofs.RowLemmas.{setting_at, is_there}
use Rattle.world_text.proofs.thing.add_setting.Goals as goal

pub returns-in_default-clause-adds : goal.returns-in_default-clause-adds
returns-in_default-clause-adds c = λ new a. c.in_default.ensures a.field a.name a.value (a.more, a.first, a.fields)

pub returns-in_default-read_moment-clause-adds : goal.returns-in_default-read_moment-clause-adds
returns-in_default-read_moment-clause-adds c = λ new a.
    let f = c.in-Some.fields in
    let h = setting_at c.args.world.now c.args.rest.now f.first.now f.second.now f.rest.now new c.in-Some.ensures a in
    c.in_default-read_moment.ensures h.0 h.1

pub returns-in_default-read_name-clause-adds : goal.returns-in_default-read_name-clause-adds
returns-in_default-read_name-clause-adds c = λ new a.
    let f = c.in-Some.fields in
    let h = setting_at c.args.world.now c.args.rest.now f.first.now f.second.now f.rest.now new c.in-Some.ensures a in
    c.in_default-read_name.ensures h.2

pub returns-in_default-read_rest-clause-adds : goal.returns-in_default-read_rest-clause-adds
returns-in_default-read_rest-clause-adds c = λ new a.
    let f = c.in-Some.fields in
    let h = setting_at c.args.world.now c.args.rest.now f.first.now f.second.now f.rest.now new c.in-Some.ensures a in
    c.in_default-read_rest.ensures h.3

pub returns-then-has_setting-clause-adds : goal.returns-then-has_setting-clause-adds
returns-then-has_setting-clause-adds c = λ new a.
    let f = c.in-Some.fields in
    let h = setting_at c.args.world.now c.args.rest.now f.first.now f.second.now f.rest.now new c.in-Some.ensures a in
    is_there c.args.world.now.settings f.second.now c.in-Some-read_name.name.now c.has_setting.result c.in-Some-read_name.ensures.1 c.has_setting.ensures c.if-has_setting.true h.4
