use Rattle.std.proofs.Common.{◌∙◌, sym, ap, cond, [], arith}
use Rattle.bf_world.specs.Paths.{root, slash_behind}
use Rattle.bf_world.proofs.path.slash_behind.Goals as goal

pub returns-then-ends_with : goal.returns-then-ends_with
unfolding slash_behind
returns-then-ends_with c =
    let last = c.ends_with.ensures.byte (omega arith) (omega arith) (λ w o h. h) in
    ap (λ b. cond b [] root) (sym c.if-ends_with.true ∙ last)

pub returns-else-ends_with : goal.returns-else-ends_with
unfolding slash_behind
returns-else-ends_with c =
    let last = c.ends_with.ensures.byte (omega arith) (omega arith) (λ w o h. h) in
    ap (λ b. cond b [] root) (sym c.if-ends_with.false ∙ last)
