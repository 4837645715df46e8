use Rattle.std.proofs.Common.{◌≡◌, ◌-◌, true, false, get_or, take, length, sym, ap, ◌∙◌, arith}
use Rattle.std.specs.List.{slice_range}
use Rattle.rel_lexer.specs.Bytes.{is_blank}
use Rattle.rel_value.specs.Casts.{without_back}
use Rattle.rel_value.proofs.Trims.{back-step, back-stop}
use Rattle.rel_value.proofs.trim.without_back.Goals as goal

pub loop-left-preserved : goal.loop-left-preserved
loop-left-preserved c =
    let bs = c.loop-left.left.now in
    let last = length bs - 1 in
    let blank : is_blank (get_or bs last 0) ≡ true = ap (λ l. is_blank (get_or l last 0)) (sym c.as_bytes.ensures.value) ∙ sym c.is_blank.ensures ∙ c.if-is_blank.true in
    let cut : slice_range bs 0 last ≡ take last bs = ap (λ n. take n bs) (omega arith) in (
      c.range-left.utf8,
      ap without_back (c.range-left.ensures.value ∙ cut) ∙ back-step bs c.loop-left-test.true blank ∙ c.loop-left.invariant.1,
    )

pub returns-else-is_blank : goal.returns-else-is_blank
returns-else-is_blank c =
    let bs = c.loop-left.left.now in
    let last = length bs - 1 in
    let solid : is_blank (get_or bs last 0) ≡ false = ap (λ l. is_blank (get_or l last 0)) (sym c.as_bytes.ensures.value) ∙ sym c.is_blank.ensures ∙ c.if-is_blank.false in
    back-stop bs c.loop-left-test.true solid ∙ c.loop-left.invariant.1
