use Rattle.std.proofs.Common.{List, subst, ◌∙◌}
use Rattle.std.specs.Prelude.{Ok, Err}
use Rattle.group_core.specs.declared.kept_row.KeptRow.{KeptRow}
use Rattle.group_core.specs.Lists.{HasPlace, row_name}
use Rattle.group_core.proofs.Sorting.{put_in, written}
use Rattle.group_core.proofs.row_list.put_row.Goals as goal

pub returns-in-Ok-clause-ok : goal.returns-in-Ok-clause-ok
returns-in-Ok-clause-ok c =
    let H : List KeptRow → Type 0 = λ rows. HasPlace row_name rows c.as_str.result.now (Ok c.in-Ok.place) in
    written row_name c.args.rows.now.items c.as_str.result.now c.in-Ok.place c.args.row (subst H c.as_slice.ensures.value c.in-Ok.ensures) c.as_str.ensures

pub returns-in_ok-insert-in-Err-clause-ok : goal.returns-in_ok-insert-in-Err-clause-ok
returns-in_ok-insert-in-Err-clause-ok c =
    let H : List KeptRow → Type 0 = λ rows. HasPlace row_name rows c.as_str.result.now (Err c.in-Err.place) in
    c.in_ok-insert-in-Err.ensures.items
    ∙ put_in row_name c.args.rows.now.items c.as_str.result.now c.in-Err.place c.args.row (subst H c.as_slice.ensures.value c.in-Err.ensures) c.as_str.ensures
