use Rattle.std.proofs.Common.{◌≤◌, length, refl, arith}
use Rattle.std.proofs.lemmas.Bool.Decides.{nat_tests}
use Rattle.std.proofs.lemmas.Grind.{common_steps}
use Rattle.rel_sources.proofs.LineParts.{lines-end, lines-next}
use Rattle.rel_sources.proofs.lines.Lines.draw.Goals as goal

pub returns-then-is_empty : goal.returns-then-is_empty
returns-then-is_empty c =
    let past : length c.args.self.now.content ≤ c.args.self.now.from = grind (arith, nat_tests, common_steps) in
    (lines-end c.args.self.now past, lines-end c.args.self.now past)

pub returns : goal.returns
returns c =
    lines-next c.args.self.now _ _ c.first_line-first.result.line.now c.min-from.result c.first_line-first.result.taken _ c.first_line-first.ensures.lines (grind (arith, common_steps)) (grind (arith, common_steps)) c.in-Ok.ensures refl refl refl
