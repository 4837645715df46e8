-- What a node walks, and what it has still to give.
use Rattle.std.specs.Prelude.{Option, Some, None}
use Rattle.std.specs.declared.alloc.Global.{Global}
use Rattle.std.specs.declared.boxed.Box.{Box}
use Rattle.bf_world.specs.Worlds.{WorldState}
use Rattle.rel_sources.specs.declared.scene.Scene.{Scene}
use Rattle.rel_inspect.specs.Left.{left}
use Rattle.rel_trace.specs.Trace.{Trace, none}
use Rattle.rel_trace.specs.Scopes.{Around}
use Rattle.rel_trace.specs.Ones.{apply_kind, single_kind, one_kind, one_left, unless}
use Rattle.rel_trace.specs.Twos.{left_kind, two_kind, two_left}
use Rattle.rel_trace.specs.Choices.{choice_left}
use Rattle.rel_nodes.specs.declared.property.Property.{Property}
use Rattle.rel_nodes.specs.declared.walking.Walking.{Walking}
use Rattle.rel_nodes.specs.declared.pure.Pure.{Pure}
use Rattle.rel_nodes.specs.declared.pure.Pure.TheVariants as pure
use Rattle.rel_nodes.specs.declared.node.Node.{Node}
use Rattle.rel_nodes.specs.declared.node.Node.TheVariants as node
use Rattle.rel_nodes.specs.Meaning.{placed}
use Rattle.rel_nodes.specs.Core.{Core, nothing_core, constant_core, it_core, left_core, property_core, one_core, two_core, choice_core, core}

-- a property as a form of a plan
abbrev pub row_core : Property → Core
row_core r = property_core r.id r.argument r.object r.head

-- a pure part as a form of a plan
abbrev pub pure_shape : Pure → Core
pure_shape (pure.Constant v) = constant_core v
pure_shape pure.It = it_core
pure_shape pure.Left = left_core
pure_shape (pure.Applied' p part apply) = one_core (apply_kind apply) (pure_shape part)
pure_shape (pure.Single' p part place) = one_core (single_kind place) (pure_shape part)
pure_shape (pure.Joined' p first q second) = two_core left_kind (pure_shape first) (pure_shape second)

abbrev pub shape : Node → Core
shape node.Nothing = nothing_core
shape (node.Pure x is_given) = pure_shape x
shape (node.Property r) = row_core r
shape (node.WithOne' p part state) = one_core (one_kind state) (shape part)
shape (node.WithTwo' p first q second state) = two_core (two_kind state) (shape first) (shape second)
shape (node.WithChoice' p test q chosen r other state) = choice_core (shape test) (shape chosen) (shape other)

-- the same of a node on the heap
abbrev pub boxed_shape : Box Node Global → Core
boxed_shape b = shape b.value

-- what a property has still to give, before its walk began or after
abbrev pub property_left : WorldState → Scene → Property → Option Walking → Around → Trace
property_left w s r None a = core w s (row_core r) a
property_left w s r (Some g) a = placed r.head (left g.walk w s)

abbrev pub rest : WorldState → Scene → Node → Around → Trace
rest w s node.Nothing a = none
rest w s (node.Pure x is_given) a = unless is_given (core w s (pure_shape x) a)
rest w s (node.Property r) a = property_left w s r r.walk a
rest w s (node.WithOne' p part state) a = one_left state a s.offset (rest w s part a)
rest w s (node.WithTwo' p first q second state) a = two_left state (rest w s first a) (rest w s second) (core w s (shape second)) a
rest w s (node.WithChoice' p test q chosen r other state) a = choice_left state (rest w s test a) (rest w s chosen) (rest w s other) (core w s (shape chosen)) (core w s (shape other)) a
