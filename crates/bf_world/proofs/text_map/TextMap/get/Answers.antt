use Rattle.std.proofs.Common.{ap, ◌∙◌}
use Rattle.bf_world.specs.Maps.{at}
use Rattle.bf_world.proofs.MapLemmas.{at-by_bytes}
use Rattle.bf_world.proofs.text_map.TextMap.get.Goals as goal

pub returns : goal.returns
returns g c = c.get.ensures.value ∙ at-by_bytes c.args.key.now c.self.inside.map.entries ∙ ap (at c.args.key.now) c.self.view_is
