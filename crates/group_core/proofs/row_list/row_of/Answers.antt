use Rattle.std.proofs.Common.{Some, sym, ap, ◌∙◌}
use Rattle.group_core.specs.declared.kept_row.KeptRow.{KeptRow}
use Rattle.group_core.specs.Lists.{row_name}
use Rattle.group_core.proofs.Sorting.{found_there, not_there}
use Rattle.group_core.proofs.row_list.row_of.Goals as goal

pub bounds-rows-place : goal.bounds-rows-place
bounds-rows-place c = c.in-Ok.ensures.0

pub returns-in-Ok : goal.returns-in-Ok
returns-in-Ok c =
    let row : KeptRow = c.index-rows-place.result in
    ap Some c.index-rows-place.is ∙ sym (found_there row_name c.args.rows.now c.args.property.now c.in-Ok.place row c.in-Ok.ensures)

pub returns-in-Err : goal.returns-in-Err
returns-in-Err c = sym (not_there row_name c.args.rows.now c.args.property.now c.in-Err.field-0 c.in-Err.ensures)
