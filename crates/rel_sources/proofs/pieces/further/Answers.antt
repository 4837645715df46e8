use Rattle.std.proofs.Common.{◌≡◌, ◌+◌, ◌-◌, ℕ, length, drop, subst, length-drop, arith}
use Rattle.std.specs.Str.{IsCharBoundary}
use Rattle.std.proofs.lemmas.Str.{IsCharBoundary-from_rest}
use Rattle.rel_sources.proofs.pieces.further.Goals as goal

pub overflow_add-result : goal.overflow_add-result
overflow_add-result c =
    let inside = c.requires.taken c.in-Some.taken c.in-Some.is in
    let left : length (drop c.args.from c.args.text.now) ≡ length c.args.text.now - c.args.from = length-drop c.args.from c.args.text.now in
    omega (arith, inside.0)

pub returns-in-Some-clause-boundary : goal.returns-in-Some-clause-boundary
returns-in-Some-clause-boundary c =
    λ x e positive.
    let same : c.args.from + c.in-Some.taken ≡ x = cc in
    subst (λ (n : ℕ). IsCharBoundary c.args.text.now n) same
    (IsCharBoundary-from_rest c.args.text.now c.args.from c.in-Some.taken c.requires.inside (c.requires.taken c.in-Some.taken c.in-Some.is))
