use Rattle.std.proofs.Common.{List, sym, ap, subst, ◌∙◌}
use Rattle.std.proofs.lemmas.List.Elements.{All-get_or}
use Rattle.group_core.specs.declared.computers.Computer.{Computer}
use Rattle.group_core.specs.declared.kept_row.KeptRow.{KeptRow}
use Rattle.group_core.specs.Lists.{Ascends, computer_name, row_name, rows_in}
use Rattle.group_core.proofs.Sorting.{ascends_none, found_there, not_there}
use Rattle.group_core.proofs.computers.rows_of.Goals as goal

pub bounds-computers-place : goal.bounds-computers-place
bounds-computers-place c = c.in-Ok.ensures.0

pub returns-in-Ok-clause-rows : goal.returns-in-Ok-clause-rows
returns-in-Ok-clause-rows c =
    let there : Computer = c.index-computers-place.result in
    c.as_slice.ensures.value
    ∙ sym (ap rows_in (found_there computer_name c.args.computers.now c.args.name.now c.in-Ok.place there c.in-Ok.ensures))

pub returns-in-Ok-clause-ascends : goal.returns-in-Ok-clause-ascends
returns-in-Ok-clause-ascends c =
    let there : Computer = c.index-computers-place.result in
    let P : Computer → Type 0 = λ x. Ascends row_name x.rows.items in
    let A : List KeptRow → Type 0 = Ascends row_name in
    subst A (sym (c.as_slice.ensures.value)) (All-get_or P c.args.computers.now c.in-Ok.place there c.in-Ok.ensures.0 c.requires.rows)

pub returns-in-Err-clause-rows : goal.returns-in-Err-clause-rows
returns-in-Err-clause-rows c =
    sym (ap rows_in (not_there computer_name c.args.computers.now c.args.name.now c.in-Err.field-0 c.in-Err.ensures))

pub returns-in-Err-clause-ascends : goal.returns-in-Err-clause-ascends
returns-in-Err-clause-ascends c = ascends_none row_name
