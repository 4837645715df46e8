use Rattle.std.proofs.Common.{ap, ◌∙◌}
use Rattle.bf_world.specs.Maps.{at, without, by_bytes}
use Rattle.bf_world.proofs.MapLemmas.{at-by_bytes, without-by_bytes}
use Rattle.bf_world.proofs.text_map.TextMap.remove.Goals as goal

pub returns-clause-value : goal.returns-clause-value
returns-clause-value g c = c.remove.ensures.value ∙ at-by_bytes c.args.key.now c.self.inside.map.entries ∙ ap (at c.args.key.now) c.self.view_is

pub returns-clause-entries : goal.returns-clause-entries
returns-clause-entries g c = ap by_bytes c.remove.ensures.entries ∙ without-by_bytes c.args.key.now c.self.inside.map.entries ∙ ap (without c.args.key.now) c.self.view_is
