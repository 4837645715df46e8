use Rattle.std.proofs.Common.{ap, sym, ◌∙◌}
use Rattle.rel_value.specs.Signs.{occurs}
use Rattle.rel_sources.specs.Rows.{is_asked}
use Rattle.rel_sources.proofs.Standing.{contains-is}
use Rattle.rel_sources.proofs.lines.contains.Goals as goal

pub returns-in-Some : goal.returns-in-Some
returns-in-Some c =
    contains-is c.as_str.result.now c.args.line.now c.contains.result c.contains.ensures.cases
    ∙ ap (λ p. occurs p c.args.line.now) c.as_str.ensures
    ∙ ap (λ w. is_asked w c.args.line.now) (sym c.in-Some.is)
