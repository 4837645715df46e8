-- How many quiet steps a node can make before its next look or turn.
use Rattle.std.specs.Prelude.{ℕ, ◌+◌, ◌*◌, Option, Some, None}
use Rattle.rel_inspect.specs.Left.{values_ahead}
use Rattle.rel_trace.specs.Ones.{one_quiet, zero_if}
use Rattle.rel_trace.specs.Twos.{TwoKind, then_kind, bar_kind, logic_kind, each_kind, sift_kind, argument_kind, left_kind, turned_kind, two_quiet}
use Rattle.rel_trace.specs.Choices.{choice_quiet}
use Rattle.rel_nodes.specs.declared.walking.Walking.{Walking}
use Rattle.rel_nodes.specs.declared.node.Node.{Node}
use Rattle.rel_nodes.specs.declared.node.Node.TheVariants as node
use Rattle.rel_nodes.specs.Core.{Core, nothing_core, constant_core, it_core, left_core, property_core, one_core, two_core, choice_core}
use Rattle.rel_nodes.specs.Nodes.{shape}

-- at most so many, where the first part has at most a and the second at most b
abbrev pub two_cap : TwoKind → ℕ → ℕ → ℕ
two_cap then_kind a b = a + (b + 1)
two_cap bar_kind a b = a + (b + 1)
two_cap (logic_kind l) a b = a * (b + 2) + (b + 1)
two_cap (each_kind h) a b = a + (b + 1)
two_cap (sift_kind h) a b = a + (b + 1)
two_cap argument_kind a b = a * (b + 2) + (b + 1)
two_cap left_kind a b = a * (b + 2) + (b + 1)
two_cap (turned_kind p) a b = a + (b + 1)

-- the same of a choice, whose test has at most a, and whose branches have at most b and c
abbrev pub choice_cap : ℕ → ℕ → ℕ → ℕ
choice_cap a b c = a * (b + c + 2) + (b + c + 1)

-- at most so many for a plan
abbrev pub cap : Core → ℕ
cap nothing_core = 0
cap (constant_core v) = 1
cap it_core = 1
cap left_core = 1
cap (property_core id argument object p) = 2
cap (one_core k c) = cap c + 1
cap (two_core k c d) = two_cap k (cap c) (cap d)
cap (choice_core t y n) = choice_cap (cap t) (cap y) (cap n)

-- a property begins its walk in a quiet step, and gives at most one value before the walk's next look or turn
abbrev pub property_quiet : Option Walking → ℕ
property_quiet None = 2
property_quiet (Some g) = values_ahead g.walk

abbrev pub quiet : Node → ℕ
quiet node.Nothing = 0
quiet (node.Pure x is_given) = zero_if is_given 1
quiet (node.Property r) = property_quiet r.walk
quiet (node.WithOne' p part state) = one_quiet state (quiet part)
quiet (node.WithTwo' p first q second state) = two_quiet state (quiet first) (quiet second) (cap (shape second))
quiet (node.WithChoice' p test q chosen r other state) = choice_quiet state (quiet test) (quiet chosen) (quiet other) (cap (shape chosen)) (cap (shape other))
