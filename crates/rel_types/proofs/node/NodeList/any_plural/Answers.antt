use Rattle.std.proofs.Common.{◌∙◌, sym, ap}
use Rattle.std.specs.List.{list_any}
use Rattle.rel_types.specs.Plans.{is_plural}
use Rattle.rel_types.specs.Views.{shown_node}
use Rattle.rel_types.proofs.NodeLists.{any_shown}
use Rattle.rel_types.proofs.node.NodeList.any_plural.Goals as goal

pub returns : goal.returns
returns c = c.any_plural.ensures ∙ ap (list_any (λ n. is_plural (shown_node n))) c.as_slice.ensures.value ∙ sym (any_shown c.args.self.now)
