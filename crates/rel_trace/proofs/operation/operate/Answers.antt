-- Where there is a row its answer is sound and is the outcome's, and where there is none there is no outcome.
use Rattle.std.proofs.Common.{sym, ◌∙◌}
use Rattle.rel_value.specs.Views.{shown}
use Rattle.rel_trace.proofs.Rows.{op-answer, op-works, op-without}
use Rattle.rel_trace.proofs.operation.operate.Goals as goal

pub of-requires : goal.of-requires
of-requires c =
    op-answer c.args.sign (shown c.value-left.result.now) (shown c.value-right.result.now) c.binary.result (sym c.has_row.ensures ∙ c.if-has_row.true) c.binary.ensures

pub returns-then-has_row : goal.returns-then-has_row
returns-then-has_row c =
    op-works c.args.sign (shown c.value-left.result.now) (shown c.value-right.result.now) c.args.left.now c.args.right.now c.binary.result c.of.result
    c.value-left.ensures.same c.value-right.ensures.same (sym c.has_row.ensures ∙ c.if-has_row.true) c.binary.ensures c.of.ensures

pub returns-else-has_row : goal.returns-else-has_row
returns-else-has_row c =
    op-without c.args.sign (shown c.value-left.result.now) (shown c.value-right.result.now) c.args.left.now c.args.right.now
    c.value-left.ensures.same c.value-right.ensures.same (sym c.has_row.ensures ∙ c.if-has_row.false)
