use Rattle.std.proofs.Common.{◌≡◌, ◌-◌, ◌≤◌, sym, ap, ◌∙◌, subst, arith, true, slice_set, slice_index_or}
use Rattle.std.specs.BTreeMap.{values}
use Rattle.std.specs.Option.{is_some}
use Rattle.std.proofs.lemmas.List.{length-set}
use Rattle.desk_keep.specs.Keys.{key_of, table_number}
use Rattle.desk_keep.specs.Tables.{row_at}
use Rattle.desk_keep.specs.Inside.{AreCounts, without}
use Rattle.desk_keep.proofs.Counting.{counts_fewer, counted_found}
use Rattle.desk_keep.proofs.Keeping.{found, removed, inside_removed}
use Rattle.desk_keep.proofs.ordered_rows.OrderedRows.remove.Goals as goal

pub overflow_sub-self : goal.overflow_sub-self
overflow_sub-self c =
    let inside = c.self.inside in
    let row = c.args.row.now in
    let some : is_some (row_at (key_of row) (values inside.rows)) ≡ true =
    ap is_some (sym (found inside.rows c.remove.new.self c.stored_key-key.result row c.stored_key-key.ensures c.self.invariant.rows c.self.invariant.entries) ∙ sym c.remove.ensures.value)
    ∙ sym c.is_some.ensures ∙ c.if-is_some.true in
    let at : table_number c.table.result ≡ c.from.result = sym (c.from.ensures ∙ c.number.ensures.number) in
    subst (λ i. 1 ≤ slice_index_or inside.counts i 0) at
    (counted_found inside.counts (values inside.rows) c.table.result row 0 (sym c.table.ensures) c.self.invariant.rows c.self.invariant.counts some)

pub invariant_of-self : goal.invariant_of-self
invariant_of-self c =
    let inside = c.self.inside in
    let counts = inside.counts in
    let rows = values inside.rows in
    let row = c.args.row.now in
    let key = c.stored_key-key.result in
    let is = c.stored_key-key.ensures in
    let fewer = slice_index_or counts c.from.result 0 - 1 in
    let some : is_some (row_at (key_of row) rows) ≡ true =
    ap is_some (sym (found inside.rows c.remove.new.self key row is c.self.invariant.rows c.self.invariant.entries) ∙ sym c.remove.ensures.value) ∙ sym c.is_some.ensures ∙ c.if-is_some.true in
    let at : table_number c.table.result ≡ c.from.result = sym (c.from.ensures ∙ c.number.ensures.number) in
    let enough : 1 ≤ slice_index_or counts (table_number c.table.result) 0 = counted_found counts rows c.table.result row 0 (sym c.table.ensures) c.self.invariant.rows c.self.invariant.counts some in
    let same = ap (λ i. slice_index_or counts i 0) at in
    let counted = counts_fewer counts rows c.table.result row fewer 0 c.self.invariant.tables (sym c.table.ensures) c.self.invariant.rows c.self.invariant.counts some (omega (arith, enough, same)) in
    inside_removed inside.rows c.remove.new.self key row is c.self.invariant.rows c.self.invariant.entries (slice_set counts c.from.result fewer) c.remove.ensures.entries
    (length-set counts c.from.result fewer ∙ c.self.invariant.tables) (subst (λ i. AreCounts (slice_set counts i fewer) (without (key_of row) rows)) at counted)

pub returns-then-is_some : goal.returns-then-is_some
returns-then-is_some c =
    removed c.self.inside.rows c.remove.new.self c.stored_key-key.result c.args.row.now c.stored_key-key.ensures c.self.invariant.rows c.self.invariant.entries c.remove.ensures.entries
    ∙ ap (without (key_of c.args.row.now)) c.self.view_is

pub returns-else-is_some : goal.returns-else-is_some
returns-else-is_some c =
    removed c.self.inside.rows c.remove.new.self c.stored_key-key.result c.args.row.now c.stored_key-key.ensures c.self.invariant.rows c.self.invariant.entries c.remove.ensures.entries
    ∙ ap (without (key_of c.args.row.now)) c.self.view_is
