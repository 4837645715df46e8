-- What was made so far before a step ends, and how far down it goes.
use Rattle.std.proofs.Common.{◌≡◌, ◌+◌, ◌*◌}
use Rattle.rel_trace.specs.Scopes.{seen}
use Rattle.rel_nodes.specs.Measure.{cap, quiet}
use Rattle.rel_nodes.specs.Nodes.{shape}
use Rattle.rel_nodes.specs.Remainders.{of_node}
use Rattle.rel_nodes.proofs.Levels.{levels}
use Rattle.rel_nodes.proofs.Passed.{Passed}
use Rattle.rel_nodes.proofs.node.+step.Given as goal

abbrev pub invariant-Node::step-loop-alloc : goal.invariant-Node::step-loop-alloc
invariant-Node::step-loop-alloc g l =
    (shape l.self ≡ shape l.fn.self)
    × Passed (g.M.Machine.told l.fn.machine) l.fn.budget (of_node l.scene l.fn.self (seen l.scope)) (g.M.Machine.told l.machine) l.budget (of_node l.scene l.self (seen l.scope))

abbrev pub decreases-Node::step-loop-alloc : goal.decreases-Node::step-loop-alloc
decreases-Node::step-loop-alloc g l = l.budget * (cap (shape l.self) + 1) + quiet l.self

abbrev pub decreases-Node::step : goal.decreases-Node::step
decreases-Node::step g l = 3 * levels (shape l.self.now) + 1

abbrev pub decreases-Node::event : goal.decreases-Node::event
decreases-Node::event g l = 3 * levels (shape l.self.now)

abbrev pub decreases-go_on_one : goal.decreases-go_on_one
decreases-go_on_one g l = 3 * levels (shape l.part.now) + 2

abbrev pub decreases-go_on_two : goal.decreases-go_on_two
decreases-go_on_two g l = 3 * (levels (shape l.first.now) + levels (shape l.second.now)) + 2

abbrev pub decreases-go_on_choice : goal.decreases-go_on_choice
decreases-go_on_choice g l = 3 * (levels (shape l.test.now) + levels (shape l.yes.now) + levels (shape l.no.now)) + 2
