use Rattle.std.proofs.Common.{◌≡◌, ◌+◌, ◌≤◌, length}
use Rattle.std.specs.Prelude.{vec_capacity}
use Rattle.std.specs.Vec.Iter.{into_iter_items, into_iter_len}
use Rattle.group_core.specs.Lists.{Ascends, row_name, with_all}
use Rattle.group_core.proofs.row_list.put_all.Given as goal

-- with the rows that are left it comes to the same, and there is room for them
abbrev pub invariant-loop-row : goal.invariant-loop-row
invariant-loop-row l = record {
  whole : with_all row_name (into_iter_items l.row-iterator) l.rows.items ≡ with_all row_name l.fn.fresh.items l.fn.rows.items;
  ascends : Ascends row_name l.rows.items;
  counted : into_iter_len l.row-iterator ≡ length (into_iter_items l.row-iterator);
  room : length l.rows.items + length (into_iter_items l.row-iterator) ≤ vec_capacity l.rows;
}
