use Rattle.std.proofs.Common.{subst}
use Rattle.bf_world.specs.Maps.{IsMap}
use Rattle.bf_world.proofs.MapLemmas.{IsMap-by_bytes}
use Rattle.bf_world.proofs.text_map.TextMap.iter.Goals as goal

pub returns-clause-ordered : goal.returns-clause-ordered
returns-clause-ordered g c = subst (λ l. IsMap l) c.self.view_is (IsMap-by_bytes c.self.inside.map.entries c.iter.ensures.ordered)
