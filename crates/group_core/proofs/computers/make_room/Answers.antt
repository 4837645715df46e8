use Rattle.std.proofs.Common.{◌≡◌, List, refl, sym, ap, subst, ◌∙◌}
use Rattle.std.specs.Prelude.{Ok, Err}
use Rattle.group_core.specs.declared.computers.Computer.{Computer}
use Rattle.group_core.specs.Lists.{AreComputers, Ascends, HasPlace, computer_name, row_name, rows_at}
use Rattle.group_core.specs.declared.kept_row.KeptRow.{KeptRow}
use Rattle.group_core.proofs.ComputerLemmas.{ascends_there, computers_with, put_rows, set_computers, set_rows}
use Rattle.group_core.proofs.Sorting.{ascends_none, put_in}
use Rattle.group_core.proofs.computers.make_room.Goals as goal

pub returns-in_err-reserve-in-Ok-clause-same : goal.returns-in_err-reserve-in-Ok-clause-same
returns-in_err-reserve-in-Ok-clause-same c =
    let xs : List Computer = c.args.computers.now.items in
    let x : Computer = c.index_mut.result.now in
    let H : List Computer → Type 0 = λ l. HasPlace computer_name l c.as_str.result.now (Ok c.in-Ok.place) in
    set_rows xs c.as_str.result.now c.in-Ok.place x (record { name = x.name; rows = c.reserve.new.self }) (subst H c.as_slice.ensures.value c.in-Ok.ensures) c.index_mut.ensures.value refl c.in_err-reserve-in-Ok.ensures.items

pub returns-in_err-reserve-in-Ok-clause-ordered : goal.returns-in_err-reserve-in-Ok-clause-ordered
returns-in_err-reserve-in-Ok-clause-ordered c =
    let xs : List Computer = c.args.computers.now.items in
    let x : Computer = c.index_mut.result.now in
    let H : List Computer → Type 0 = λ l. HasPlace computer_name l c.as_str.result.now (Ok c.in-Ok.place) in
    let here = subst H c.as_slice.ensures.value c.in-Ok.ensures in
    let A : List KeptRow → Type 0 = Ascends row_name in
    set_computers xs c.as_str.result.now c.in-Ok.place x (record { name = x.name; rows = c.reserve.new.self }) c.requires here c.index_mut.ensures.value refl
    (subst A (sym c.in_err-reserve-in-Ok.ensures.items) (ascends_there xs c.as_str.result.now c.in-Ok.place x c.requires here c.index_mut.ensures.value))

pub returns-in_ok-reserve-in-Ok-clause-same : goal.returns-in_ok-reserve-in-Ok-clause-same
returns-in_ok-reserve-in-Ok-clause-same c =
    let xs : List Computer = c.args.computers.now.items in
    let x : Computer = c.index_mut.result.now in
    let H : List Computer → Type 0 = λ l. HasPlace computer_name l c.as_str.result.now (Ok c.in-Ok.place) in
    set_rows xs c.as_str.result.now c.in-Ok.place x (record { name = x.name; rows = c.reserve.new.self }) (subst H c.as_slice.ensures.value c.in-Ok.ensures) c.index_mut.ensures.value refl c.in_ok-reserve-in-Ok.ensures.items

pub returns-in_ok-reserve-in-Ok-clause-ordered : goal.returns-in_ok-reserve-in-Ok-clause-ordered
returns-in_ok-reserve-in-Ok-clause-ordered c =
    let xs : List Computer = c.args.computers.now.items in
    let x : Computer = c.index_mut.result.now in
    let H : List Computer → Type 0 = λ l. HasPlace computer_name l c.as_str.result.now (Ok c.in-Ok.place) in
    let here = subst H c.as_slice.ensures.value c.in-Ok.ensures in
    let A : List KeptRow → Type 0 = Ascends row_name in
    set_computers xs c.as_str.result.now c.in-Ok.place x (record { name = x.name; rows = c.reserve.new.self }) c.requires here c.index_mut.ensures.value refl
    (subst A (sym c.in_ok-reserve-in-Ok.ensures.items) (ascends_there xs c.as_str.result.now c.in-Ok.place x c.requires here c.index_mut.ensures.value))

pub returns-in_ok-insert-in-Err-clause-same : goal.returns-in_ok-insert-in-Err-clause-same
returns-in_ok-insert-in-Err-clause-same c = λ other.
    let xs : List Computer = c.args.computers.now.items in
    let x : Computer = record { name = c.in_ok-of-in-Err.field-0; rows = c.in_ok-with_capacity-in-Err.field-0 } in
    let H : List Computer → Type 0 = λ l. HasPlace computer_name l c.as_str.result.now (Err c.in-Err.place) in
    let here = subst H c.as_slice.ensures.value c.in-Err.ensures in
    let named : c.as_str.result.now ≡ x.name = c.as_str.ensures ∙ sym c.in_ok-of-in-Err.ensures in
    ap (λ l. rows_at l other) (c.in_ok-insert-in-Err.ensures.items ∙ put_in computer_name xs c.as_str.result.now c.in-Err.place x here named)
    ∙ put_rows xs c.as_str.result.now c.in-Err.place x here named c.in_ok-with_capacity-in-Err.ensures.items other

pub returns-in_ok-insert-in-Err-clause-ordered : goal.returns-in_ok-insert-in-Err-clause-ordered
returns-in_ok-insert-in-Err-clause-ordered c =
    let xs : List Computer = c.args.computers.now.items in
    let x : Computer = record { name = c.in_ok-of-in-Err.field-0; rows = c.in_ok-with_capacity-in-Err.field-0 } in
    let H : List Computer → Type 0 = λ l. HasPlace computer_name l c.as_str.result.now (Err c.in-Err.place) in
    let here = subst H c.as_slice.ensures.value c.in-Err.ensures in
    let named : c.as_str.result.now ≡ x.name = c.as_str.ensures ∙ sym c.in_ok-of-in-Err.ensures in
    let A : List KeptRow → Type 0 = Ascends row_name in
    subst AreComputers (sym (c.in_ok-insert-in-Err.ensures.items ∙ put_in computer_name xs c.as_str.result.now c.in-Err.place x here named))
    (computers_with x xs c.requires (subst A (sym c.in_ok-with_capacity-in-Err.ensures.items) (ascends_none row_name)))
