use Rattle.std.proofs.Common.{ℕ, List, ◌++◌, subst, ◌∙◌}
use Rattle.std.specs.Prelude.{Ok, Err}
use Rattle.group_core.specs.Lists.{HasPlace, itself}
use Rattle.group_core.proofs.Sorting.{without_same}
use Rattle.group_core.proofs.member_list.take_name.Goals as goal

pub returns-in-Ok : goal.returns-in-Ok
returns-in-Ok c =
    let H : List (List ℕ) → Type 0 = λ names. HasPlace itself names c.args.name.now (Ok c.in-Ok.place) in
    let here = subst H c.as_slice.ensures.value c.in-Ok.ensures in
    c.remove.ensures.by_index.2 ∙ (λ t. here.1 t ++ here.2 t)

pub returns-in-Err : goal.returns-in-Err
returns-in-Err c =
    let H : List (List ℕ) → Type 0 = λ names. HasPlace itself names c.args.name.now (Err c.in-Err.field-0) in
    without_same itself c.args.names.now.items c.args.name.now c.in-Err.field-0 (subst H c.as_slice.ensures.value c.in-Err.ensures)
