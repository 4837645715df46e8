use Rattle.std.proofs.Common.{◌≡◌, drop, map}
use Rattle.rel_value.specs.Views.{kinded, shown_kinds}
use Rattle.rel_types.specs.Plans.{kind_of}
use Rattle.rel_types.specs.Views.{shown_node}
use Rattle.rel_types.proofs.nodes.with_kinds.Given as goal

-- with what is left, the kinds are all
abbrev pub invariant-loop-node : goal.invariant-loop-node
invariant-loop-node l = kinded (shown_kinds l.kinds) (map (λ n. kind_of (shown_node n)) (drop l.node-index l.nodes)) ≡ kinded (shown_kinds l.fn.kinds) (map (λ n. kind_of (shown_node n)) l.fn.nodes)
