use Rattle.std.proofs.Common.{◌∙◌, sym}
use Rattle.std.proofs.lemmas.Bool.{false≢true}
use Rattle.line_forms.proofs.PathLemmas.{parts_first, parts_rest, parts_more, parts_one, only_parts}
use Rattle.line_forms.proofs.path.are_parts.Goals as goal

pub returns-then-not-is_part : goal.returns-then-not-is_part
returns-then-not-is_part c = (
  λ h. absurd (false≢true h),
  λ are. sym c.if-not-is_part.true ∙ c.is_part.ensures.1 (parts_first _ _ _ c.in-Some.ensures (c.loop-cut.invariant.to are)),
)

pub loop-cut-preserved : goal.loop-cut-preserved
loop-cut-preserved c = record {
  to = λ are. parts_rest _ _ _ c.in-Some.ensures (c.loop-cut.invariant.to are);
  from = λ are. c.loop-cut.invariant.from (parts_more _ _ _ c.in-Some.ensures (c.is_part.ensures.0 c.if-not-is_part.false) are);
}

pub returns : goal.returns
returns c = (
  λ h. c.loop-cut.invariant.from (parts_one _ (c.is_part-2.ensures.0 h)),
  λ are. c.is_part-2.ensures.1 (only_parts _ c.in_default.ensures (c.loop-cut.invariant.to are)),
)
