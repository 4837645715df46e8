use Rattle.std.proofs.Common.{sym, ◌∙◌, SFits, w64}
use Rattle.std.proofs.lemmas.Int.{to_z-of_z}
use Rattle.rel_value.specs.Views.{shown}
use Rattle.rel_trace.proofs.Rows.{cast-answer, cast-works, cast-without}
use Rattle.rel_trace.proofs.operation.cast_of.Goals as goal

pub of-requires : goal.of-requires
of-requires c =
    let f : SFits w64 c.args.offset = c.ranges.offset in
    cast-answer c.args.to (shown c.value-value.result.now) c.args.offset c.cast.result (sym c.has_cast.ensures ∙ c.if-has_cast.true) (simp to_z-of_z at c.cast.ensures)

pub returns-then-has_cast : goal.returns-then-has_cast
returns-then-has_cast c =
    let f : SFits w64 c.args.offset = c.ranges.offset in
    cast-works c.args.to (shown c.value-value.result.now) c.args.value.now c.args.offset c.cast.result c.of.result
    c.value-value.ensures.same (sym c.has_cast.ensures ∙ c.if-has_cast.true) (simp to_z-of_z at c.cast.ensures) c.of.ensures

pub returns-else-has_cast : goal.returns-else-has_cast
returns-else-has_cast c =
    cast-without c.args.to (shown c.value-value.result.now) c.args.value.now c.args.offset c.value-value.ensures.same (sym c.has_cast.ensures ∙ c.if-has_cast.false)
