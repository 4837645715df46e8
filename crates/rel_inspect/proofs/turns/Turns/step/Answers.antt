use Rattle.std.proofs.Common.{List, All, subst}
use Rattle.std.proofs.lemmas.List.Elements.{All-tail}
use Rattle.rel_sources.specs.Traces.{Item}
use Rattle.rel_sources.specs.Draws.{item_in, IsSoundItem}
use Rattle.rel_sources.specs.Sources.{items_in}
use Rattle.rel_inspect.proofs.turns.Turns.step.Goals as goal

pub returns-in-Item-clause-items : goal.returns-in-Item-clause-items
returns-in-Item-clause-items c =
    All-tail IsSoundItem (item_in c.in-Item.item) (items_in c.draw.new.self) (subst (λ (l : List Item). All IsSoundItem l) c.in-Item.ensures c.requires.items)
