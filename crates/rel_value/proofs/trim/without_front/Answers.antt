use Rattle.std.proofs.Common.{◌≡◌, true, get_or, sym, ap, ◌∙◌}
use Rattle.std.proofs.lemmas.Str.{IsCharBoundary-after_ascii}
use Rattle.rel_lexer.specs.Bytes.{is_blank}
use Rattle.rel_value.proofs.Trims.{blank-ascii}
use Rattle.rel_value.proofs.trim.without_front.Goals as goal

pub range_from-left-requires : goal.range_from-left-requires
range_from-left-requires c =
    let bs = c.loop-left.left.now in
    let blank : is_blank (get_or bs 0 0) ≡ true = ap (λ l. is_blank (get_or l 0 0)) (sym c.as_bytes.ensures.value) ∙ sym c.is_blank.ensures ∙ c.if-is_blank.true in
    λ _. IsCharBoundary-after_ascii bs 0 c.loop-left.invariant.0 c.loop-left-test.true (blank-ascii (get_or bs 0 0) blank)
