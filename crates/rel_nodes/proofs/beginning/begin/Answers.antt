use Rattle.std.proofs.Common.{sym, subst}
use Rattle.rel_types.specs.Views.{shown_node}
use Rattle.rel_nodes.specs.declared.node.Node.{Node}
use Rattle.rel_nodes.specs.Core.{Alike, core_of}
use Rattle.rel_nodes.specs.Nodes.{shape}
use Rattle.rel_nodes.proofs.beginning.begin.Goals as goal

pub returns : goal.returns
returns c = subst (λ (n : Node). Alike (shape n) (core_of (shown_node c.args.plan.now))) (sym c.into_inner.ensures) c.in_ok-node.ensures
