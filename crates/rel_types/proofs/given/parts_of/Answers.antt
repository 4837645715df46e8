use Rattle.std.proofs.Common.{◌∙◌, ap, map}
use Rattle.rel_value.specs.Views.{shown_kind}
use Rattle.rel_types.proofs.NodeLists.{kinds_in_order}
use Rattle.rel_types.proofs.given.parts_of.Goals as goal

pub returns : goal.returns
returns c = ap (map shown_kind) c.as_slice.ensures ∙ kinds_in_order c.args.kinds.now
