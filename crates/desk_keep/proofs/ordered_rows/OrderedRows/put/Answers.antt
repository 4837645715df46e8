use Rattle.std.proofs.Common.{◌≡◌, ◌+◌, sym, ap, ◌∙◌, subst, false, None, Result, Ok, Err, OnErr, slice_set, slice_index_or}
use Rattle.std.specs.BTreeMap.{values}
use Rattle.std.specs.Option.{is_some}
use Rattle.std.proofs.lemmas.List.{length-set}
use Rattle.desk_keep.specs.Keys.{key_of, table_number}
use Rattle.desk_keep.specs.Tables.{put, row_at}
use Rattle.desk_keep.specs.Inside.{AreCounts}
use Rattle.desk_keep.proofs.Counting.{counts_more, counts_same}
use Rattle.desk_keep.proofs.Keeping.{found, inserted, inside_inserted}
use Rattle.desk_keep.proofs.Putting.{fits_found}
use Rattle.desk_keep.proofs.ordered_rows.OrderedRows.put.Goals as goal
use Rattle.desk_keep.proofs.ordered_rows.OrderedRows.put.Goals.{then-is_none, else-is_none}

on_err : {T E P : Type 0} (r : Result T E) → P → OnErr r P
on_err (Ok t) p = tt
on_err (Err e) p = p

pub returns-in_err-before-clause-absent : goal.returns-in_err-before-clause-absent
returns-in_err-before-clause-absent c =
    let here : row_at (key_of c.args.row) (values c.self.inside.rows) ≡ None =
    sym (found c.self.inside.rows c.insert.new.self c.stored_key-key.result c.args.row c.stored_key-key.ensures c.self.invariant.rows c.self.invariant.entries) ∙ c.in_err-before.ensures.absent in
    on_err c.from_residual.result (ap (row_at (key_of c.args.row)) (sym c.self.view_is) ∙ here)

pub invariant_of-self-then-is_none : goal.invariant_of-self-then-is_none
invariant_of-self-then-is_none c =
    let inside = c.self.inside in
    let counts = inside.counts in
    let rows = values inside.rows in
    let row = c.args.row in
    let key = c.stored_key-key.result in
    let is = c.stored_key-key.ensures in
    let more = slice_index_or counts c.from.result 0 + 1 in
    let before : c.in_ok-before.before ≡ row_at (key_of row) rows = c.in_ok-before.ensures.old ∙ found inside.rows c.insert.new.self key row is c.self.invariant.rows c.self.invariant.entries in
    let none : is_some (row_at (key_of row) rows) ≡ false = ap is_some (sym before) ∙ c.if-is_none.ensures in
    let at : table_number c.table-table.result ≡ c.from.result = sym (c.from.ensures ∙ c.number.ensures.number) in
    let counted = counts_more counts rows c.table-table.result row more 0 c.self.invariant.tables (sym c.table-table.ensures) c.self.invariant.rows c.self.invariant.counts none
    (ap (λ i. slice_index_or counts i 0 + 1) (sym at)) in
    inside_inserted inside.rows c.insert.new.self key row is c.self.invariant.rows c.self.invariant.entries (slice_set counts c.from.result more) c.requires c.in_ok-before.ensures.entries
    (length-set counts c.from.result more ∙ c.self.invariant.tables) (subst (λ i. AreCounts (slice_set counts i more) (put row rows)) at counted)

pub invariant_of-self-else-is_none : goal.invariant_of-self-else-is_none
invariant_of-self-else-is_none c =
    let inside = c.self.inside in
    let rows = values inside.rows in
    let row = c.args.row in
    let key = c.stored_key-key.result in
    let is = c.stored_key-key.ensures in
    let before : c.in_ok-before.before ≡ row_at (key_of row) rows = c.in_ok-before.ensures.old ∙ found inside.rows c.insert.new.self key row is c.self.invariant.rows c.self.invariant.entries in
    inside_inserted inside.rows c.insert.new.self key row is c.self.invariant.rows c.self.invariant.entries inside.counts c.requires c.in_ok-before.ensures.entries
    c.self.invariant.tables (counts_same inside.counts rows row c.self.invariant.rows c.self.invariant.counts (ap is_some (sym before) ∙ c.if-is_none.ensures))

pub returns-clause-ok : goal.returns-clause-ok
returns-clause-ok c =
    let told : values c.insert.new.self ≡ put c.args.row c.args.self.now =
    inserted c.self.inside.rows c.insert.new.self c.stored_key-key.result c.args.row c.stored_key-key.ensures c.self.invariant.rows c.self.invariant.entries c.in_ok-before.ensures.entries
    ∙ ap (put c.args.row) c.self.view_is in
    elim c.if-is_none.branch as (λ _. c.if-is_none.self ≡ put c.args.row c.args.self.now) [
      | then-is_none w ↦ w.self-is ∙ told
      | else-is_none w ↦ w.self-is ∙ told
    ]

pub returns-clause-before : goal.returns-clause-before
returns-clause-before c =
    c.in_ok-before.ensures.old
    ∙ found c.self.inside.rows c.insert.new.self c.stored_key-key.result c.args.row c.stored_key-key.ensures c.self.invariant.rows c.self.invariant.entries
    ∙ ap (row_at (key_of c.args.row)) c.self.view_is

pub returns-clause-fits : goal.returns-clause-fits
returns-clause-fits c =
    fits_found (key_of c.args.row) (values c.self.inside.rows) c.in_ok-before.before c.self.invariant.rows.fit
    (c.in_ok-before.ensures.old
    ∙ found c.self.inside.rows c.insert.new.self c.stored_key-key.result c.args.row c.stored_key-key.ensures c.self.invariant.rows c.self.invariant.entries)
