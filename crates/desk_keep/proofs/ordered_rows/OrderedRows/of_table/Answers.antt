use Rattle.std.proofs.Common.{ap, ◌∙◌, filter, ◌+◌, []}
use Rattle.std.specs.Map.{values_of}
use Rattle.desk_keep.specs.Keys.{table_number}
use Rattle.desk_keep.specs.Tables.{is_of}
use Rattle.desk_keep.proofs.Ranges.{rows_of_table}
use Rattle.desk_keep.proofs.ordered_rows.OrderedRows.of_table.Goals as goal

pub returns : goal.returns
returns c =
    let number = c.number-number.ensures.number in
    ap values_of (c.range.ensures.between tt)
    ∙ rows_of_table (table_number c.args.table) c.before_table-first.result c.before_table-end.result c.self.inside.rows.entries
    (c.before_table-first.ensures ∙ (λ i. record { table = number i; name = []; number = 0 }))
    (c.before_table-end.ensures ∙ (λ i. record { table = number i + 1; name = []; number = 0 }))
    c.self.invariant.entries c.self.invariant.rows.fit
    ∙ ap (filter (is_of c.args.table)) c.self.view_is
