use Rattle.std.proofs.Common.{◌<◌, ◌-◌, ◌^◌, length, ap, ◌∙◌, filter, subst, arith, All}
use Rattle.std.specs.Map.{values_of}
use Rattle.desk_keep.specs.Keys.{Key}
use Rattle.desk_keep.specs.Forms.{Fits}
use Rattle.desk_keep.specs.Tables.{is_result_of}
use Rattle.desk_keep.proofs.Ranges.{rows_of_computer, none_of_long, in_order}
use Rattle.desk_keep.proofs.ordered_rows.OrderedRows.of_computer.Goals as goal

pub returns-in_err-first : goal.returns-in_err-first
returns-in_err-first c =
    let long : 64 < length c.args.computer.now = subst (λ (k : Key). 64 < length k.name) c.named.ensures c.in_err-first.ensures in
    let fit : All Fits c.args.self.now = subst (All Fits) c.self.view_is c.self.invariant.rows.fit in
    rw c.from_residual.ensures (none_of_long c.args.computer.now c.args.self.now fit long)

pub range-requires : goal.range-requires
range-requires c =
    in_order c.args.computer.now (2 ^ 64 - 1) c.in_ok-first.first c.in_ok-last.last (c.in_ok-first.ensures ∙ c.named.ensures) (c.in_ok-last.ensures ∙ c.named-2.ensures)

pub returns : goal.returns
returns c =
    ap values_of (c.range.ensures.between tt)
    ∙ rows_of_computer c.args.computer.now (2 ^ 64 - 1) c.in_ok-first.first c.in_ok-last.last c.self.inside.rows.entries (omega arith)
    (c.in_ok-first.ensures ∙ c.named.ensures) (c.in_ok-last.ensures ∙ c.named-2.ensures) c.self.invariant.entries c.self.invariant.rows.fit
    ∙ ap (filter (is_result_of c.args.computer.now)) c.self.view_is
