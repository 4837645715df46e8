use Rattle.std.proofs.Common.{ℕ, List, sym, subst, ◌∙◌, arith}
use Rattle.std.specs.Prelude.{Ok, Err}
use Rattle.group_core.specs.Lists.{HasPlace, itself}
use Rattle.group_core.proofs.Sorting.{if_ok, put_in, with_same}
use Rattle.group_core.proofs.member_list.put_name.Goals as goal

pub returns-in-Ok : goal.returns-in-Ok
returns-in-Ok c =
    let name : List ℕ = c.args.name in
    let H : List (List ℕ) → Type 0 = λ names. HasPlace itself names c.as_str.result.now (Ok c.in-Ok.field-0) in
    let here = subst H c.as_slice.ensures.value c.in-Ok.ensures in
    with_same itself c.args.names.now.items c.as_str.result.now c.in-Ok.field-0 name here c.as_str.ensures (sym (here.3 name ∙ c.as_str.ensures))

pub returns-in-Err : goal.returns-in-Err
returns-in-Err c =
    let H : List (List ℕ) → Type 0 = λ names. HasPlace itself names c.as_str.result.now (Err c.in-Err.place) in
    let here = subst H c.as_slice.ensures.value c.in-Err.ensures in
    c.insert.ensures.items ∙ if_ok c.insert.result _ _ (c.insert.ensures.succeeds (omega (arith, c.requires.room, c.args.names.now.ok.0)))
    ∙ put_in itself c.args.names.now.items c.as_str.result.now c.in-Err.place c.args.name here c.as_str.ensures
