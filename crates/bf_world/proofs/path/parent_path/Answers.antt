use Rattle.std.proofs.Common.{◌≡◌, ◌-◌, ◌∙◌, ap, take, length, arith}
use Rattle.bf_world.proofs.PathCuts.{parent_of_cut, parent_of_none}
use Rattle.bf_world.proofs.path.parent_path.Goals as goal

pub returns-in-Some : goal.returns-in-Some
returns-in-Some c =
    let path = c.args.path.now in
    let first = c.in-Some.cut.first.now in
    let cut = rw c.as_bytes.ensures.value at c.in-Some.ensures in
    let whole : length first - 0 ≡ length first = omega arith in
    c.range.ensures.value ∙ ap (λ n. take n path) whole ∙ parent_of_cut path first c.in-Some.cut.rest.now cut

pub returns-in-None : goal.returns-in-None
returns-in-None c = parent_of_none c.args.path.now (rw c.as_bytes.ensures.value at c.in-None.ensures)
