use Rattle.std.proofs.Common.{◌≤◌, arith, sym, ◌∙◌}
use Rattle.desk_top.proofs.words.number_up_to.Goals as goal

pub returns : goal.returns
returns c =
    let least : 1 ≤ c.in-Some.number = omega (arith, c.if-number-eq0.false) in
    ((least, c.in-Some.ensures.0.0), sym c.as_str.ensures ∙ sym c.as_bytes.ensures.value ∙ c.in-Some.ensures.0.1)
