use Rattle.std.proofs.Common.{sym, ◌∙◌}
use Rattle.rel_value.specs.Views.{shown}
use Rattle.rel_trace.proofs.Rows.{negated-answer, negated-works, negated-without}
use Rattle.rel_trace.proofs.operation.opposite.Goals as goal

pub of-requires : goal.of-requires
of-requires c = negated-answer (shown c.value-value.result.now) c.negate.result (sym c.has_negation.ensures ∙ c.if-has_negation.true) c.negate.ensures.row

pub returns-then-has_negation : goal.returns-then-has_negation
returns-then-has_negation c =
    negated-works (shown c.value-value.result.now) c.args.value.now c.negate.result c.of.result
    c.value-value.ensures.same (sym c.has_negation.ensures ∙ c.if-has_negation.true) c.negate.ensures.row c.of.ensures

pub returns-else-has_negation : goal.returns-else-has_negation
returns-else-has_negation c =
    negated-without (shown c.value-value.result.now) c.args.value.now c.value-value.ensures.same (sym c.has_negation.ensures ∙ c.if-has_negation.false)
