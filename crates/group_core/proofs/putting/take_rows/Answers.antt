use Rattle.std.proofs.Common.{◌≡◌, ℕ, List, All, map, get_or, refl, sym, ap, subst, ◌∙◌}
use Rattle.std.specs.Prelude.{Ok}
use Rattle.std.proofs.lemmas.List.{get_or-set_same}
use Rattle.group_core.specs.declared.computers.Computer.{Computer}
use Rattle.group_core.specs.declared.kept_row.KeptRow.{KeptRow}
use Rattle.group_core.specs.Keeping.{IsReady, settled}
use Rattle.group_core.specs.Lists.{AreComputers, Ascends, HasPlace, computer_name, itself, row_name, rows_at, with_all}
use Rattle.group_core.proofs.Booking.{all_shown}
use Rattle.group_core.proofs.ComputerLemmas.{ascends_there, other_set, own_set, place_there, rows_there, set_computers}
use Rattle.group_core.proofs.Sorting.{ascends_all}
use Rattle.group_core.proofs.putting.take_rows.Goals as goal

-- the computers as room was made, and the rows that were put
rows_ascend : (xs : List Computer) (name : List ℕ) (more place : ℕ) (x : Computer) (fresh rows : List KeptRow) → AreComputers xs → HasPlace computer_name xs name (Ok place) → x ≡ get_or xs place x
    → rows ≡ with_all row_name fresh x.rows.items → Ascends row_name rows
rows_ascend xs name more place x fresh rows are here is put =
    let A : List KeptRow → Type 0 = Ascends row_name in
    subst A (sym put) (ascends_all row_name fresh x.rows.items (ascends_there xs name place x are here is))

pub make_ready-requires : goal.make_ready-requires
make_ready-requires c =
    let xs : List Computer = c.make_room.new.computers.items in
    let here = place_there xs c.args.name.now _ c.in_ok-place.place c.in_ok-place.ensures.ordered c.in_ok-place.ensures.room in
    let A : List KeptRow → Type 0 = Ascends row_name in
    subst A (sym c.as_slice.ensures.value) (ascends_there xs c.args.name.now c.in_ok-place.place c.index.result.now c.in_ok-place.ensures.ordered here c.index.ensures)

pub settle-requires-clause-rows : goal.settle-requires-clause-rows
settle-requires-clause-rows c =
    let xs : List Computer = c.make_room.new.computers.items in
    let x : Computer = c.index_mut.result.now in
    let y : Computer = record { name = x.name; rows = c.put_all.new.rows } in
    let here = place_there xs c.args.name.now _ c.in_ok-place.place c.in_ok-place.ensures.ordered c.in_ok-place.ensures.room in
    let A : List KeptRow → Type 0 = Ascends row_name in
    let rows : c.as_slice-3.result.now ≡ c.put_all.new.rows.items =
    c.as_slice-3.ensures.value ∙ ap (λ (z : Computer). z.rows.items) (c.index-2.ensures ∙ get_or-set_same xs c.in_ok-place.place y c.index-2.result.now c.in_ok-place.ensures.room.inside) in
    subst A (sym rows) (rows_ascend xs c.args.name.now 0 c.in_ok-place.place x c.args.fresh.items c.put_all.new.rows.items c.in_ok-place.ensures.ordered here c.index_mut.ensures.value c.put_all.ensures)

pub settle-requires-clause-members : goal.settle-requires-clause-members
settle-requires-clause-members c =
    all_shown (λ m. Ascends itself m.members) c.args.groups.now c.make_ready.new.groups c.in_ok-make_ready.ensures.same c.requires.members

pub returns-clause-ordered : goal.returns-clause-ordered
returns-clause-ordered c =
    let xs : List Computer = c.make_room.new.computers.items in
    let x : Computer = c.index_mut.result.now in
    let y : Computer = record { name = x.name; rows = c.put_all.new.rows } in
    let here = place_there xs c.args.name.now _ c.in_ok-place.place c.in_ok-place.ensures.ordered c.in_ok-place.ensures.room in
    set_computers xs c.args.name.now c.in_ok-place.place x y c.in_ok-place.ensures.ordered here c.index_mut.ensures.value refl
    (rows_ascend xs c.args.name.now 0 c.in_ok-place.place x c.args.fresh.items c.put_all.new.rows.items c.in_ok-place.ensures.ordered here c.index_mut.ensures.value c.put_all.ensures)

pub returns-clause-own : goal.returns-clause-own
returns-clause-own c =
    let xs : List Computer = c.make_room.new.computers.items in
    let x : Computer = c.index_mut.result.now in
    let y : Computer = record { name = x.name; rows = c.put_all.new.rows } in
    let here = place_there xs c.args.name.now _ c.in_ok-place.place c.in_ok-place.ensures.ordered c.in_ok-place.ensures.room in
    own_set xs c.args.name.now c.in_ok-place.place x y here c.index_mut.ensures.value refl ∙ c.put_all.ensures
    ∙ ap (with_all row_name c.args.fresh.items) (sym (rows_there xs c.args.name.now c.in_ok-place.place x here c.index_mut.ensures.value) ∙ c.in_ok-place.ensures.same c.args.name.now)

pub returns-clause-others : goal.returns-clause-others
returns-clause-others c = λ other differs.
    let xs : List Computer = c.make_room.new.computers.items in
    let x : Computer = c.index_mut.result.now in
    let y : Computer = record { name = x.name; rows = c.put_all.new.rows } in
    let here = place_there xs c.args.name.now _ c.in_ok-place.place c.in_ok-place.ensures.ordered c.in_ok-place.ensures.room in
    other_set xs c.args.name.now c.in_ok-place.place x y here c.index_mut.ensures.value refl other differs ∙ c.in_ok-place.ensures.same other

pub returns-clause-groups : goal.returns-clause-groups
returns-clause-groups c =
    let xs : List Computer = c.make_room.new.computers.items in
    let x : Computer = c.index_mut.result.now in
    let y : Computer = record { name = x.name; rows = c.put_all.new.rows } in
    let here = place_there xs c.args.name.now _ c.in_ok-place.place c.in_ok-place.ensures.ordered c.in_ok-place.ensures.room in
    let rows : c.as_slice-3.result.now ≡ c.put_all.new.rows.items =
    c.as_slice-3.ensures.value ∙ ap (λ (z : Computer). z.rows.items) (c.index-2.ensures ∙ get_or-set_same xs c.in_ok-place.place y c.index-2.result.now c.in_ok-place.ensures.room.inside) in
    let own = own_set xs c.args.name.now c.in_ok-place.place x y here c.index_mut.ensures.value refl in
    let before : c.as_slice.result.now ≡ rows_at c.args.computers.now.items c.args.name.now =
    c.as_slice.ensures.value ∙ sym (rows_there xs c.args.name.now c.in_ok-place.place c.index.result.now here c.index.ensures) ∙ c.in_ok-place.ensures.same c.args.name.now in
    let R : List KeptRow → List KeptRow → Type 0 = λ rows newer. All (IsReady c.args.name.now rows newer) c.make_ready.new.groups in
    record {
      ready = c.make_ready.new.groups;
      same = c.in_ok-make_ready.ensures.same;
      made = subst (R (rows_at c.args.computers.now.items c.args.name.now)) c.as_slice-2.ensures.value (subst (λ rows. R rows c.as_slice-2.result.now) before c.in_ok-make_ready.ensures.ready);
      shows = c.settle.ensures ∙ ap (λ (l : List KeptRow). map (settled l) c.make_ready.new.groups) (rows ∙ sym own);
    }
