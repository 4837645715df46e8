use Rattle.std.proofs.Common.{◌≡◌, ◌+◌, ◌<◌, ◌≤◌, suc, List, ◌∷◌, length, sym, ap, subst, ◌∙◌, arith}
use Rattle.std.specs.Prelude.{vec_capacity}
use Rattle.std.specs.Vec.Iter.{into_iter_items}
use Rattle.std.proofs.lemmas.List.{nil_from_length}
use Rattle.group_core.specs.declared.kept_row.KeptRow.{KeptRow}
use Rattle.group_core.specs.Lists.{Ascends, row_name, with_all, with_one}
use Rattle.group_core.proofs.Sorting.{ascends_with, longer, on_ok}
use Rattle.group_core.proofs.row_list.put_all.Goals as goal

pub loop-row-init : goal.loop-row-init
loop-row-init c =
    let items : into_iter_items c.into_iter-row-iterator.result ≡ c.args.fresh.items = c.into_iter-row-iterator.ensures.into_iter_gives.0 in
    let R : List KeptRow → Type 0 = λ l. length c.args.rows.now.items + length l ≤ vec_capacity c.args.rows.now in
    record {
      whole = ap (λ l. with_all row_name l c.args.rows.now.items) items;
      ascends = c.requires.ascends;
      counted = omega (arith, c.into_iter-row-iterator.ensures.into_iter_gives.1, c.args.fresh.ok.0, ap (length {A = KeptRow}) items);
      room = subst R (sym items) c.requires.room;
    }

pub loop-row-preserved : goal.loop-row-preserved
loop-row-preserved c =
    let so = c.loop-row.invariant in
    let row : KeptRow = c.in-Some.row in
    let rows : List KeptRow = c.loop-row.rows.items in
    let rest : List KeptRow = into_iter_items c.next.new.self in
    let step : into_iter_items c.loop-row.row-iterator ≡ row ∷ rest = c.in-Some.ensures.steps.0 in
    let long : length (into_iter_items c.loop-row.row-iterator) ≡ suc (length rest) = ap (length {A = KeptRow}) step in
    let room : length rows < vec_capacity c.loop-row.rows = omega (arith, so.room, long) in
    let put : c.put_row.new.rows.items ≡ with_one row_name row rows = on_ok c.put_row.result _ (c.put_row.ensures.room room) c.put_row.ensures.ok in
    let A : List KeptRow → Type 0 = Ascends row_name in
    let more = longer row_name row rows in
    let count : length c.put_row.new.rows.items ≡ length (with_one row_name row rows) = ap (length {A = KeptRow}) put in
    record {
      whole = ap (with_all row_name rest) put ∙ ap (λ l. with_all row_name l rows) (sym step) ∙ so.whole;
      ascends = subst A (sym put) (ascends_with row_name row rows so.ascends);
      counted = omega (arith, so.counted, c.in-Some.ensures.steps.1, long);
      room = omega (arith, so.room, long, more, count, c.put_row.ensures.capacity);
    }

pub returns : goal.returns
returns c =
    let none : length (into_iter_items c.loop-row.row-iterator) ≡ 0 = sym c.loop-row.invariant.counted ∙ c.in-None.ensures.steps.0 in
    ap (λ l. with_all row_name l c.loop-row.rows.items) (sym (nil_from_length (into_iter_items c.loop-row.row-iterator) none)) ∙ c.loop-row.invariant.whole
