use Rattle.std.proofs.Common.{List, All, sym, subst}
use Rattle.rel_sources.specs.Traces.{Item}
use Rattle.rel_sources.specs.Draws.{IsSoundItem}
use Rattle.rel_inspect.proofs.Soundness.{integers-sound}
use Rattle.rel_inspect.proofs.rows.integers.Goals as goal

pub several-requires : goal.several-requires
several-requires c = subst (λ (l : List Item). All IsSoundItem l) (sym c.new.ensures) (integers-sound _)
