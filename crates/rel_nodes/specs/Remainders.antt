-- What is left of a node, and of the forms that it is made of.
use Rattle.rel_sources.specs.declared.scene.Scene.{Scene}
use Rattle.rel_trace.specs.declared.choice.Choice.{Choice}
use Rattle.rel_trace.specs.declared.one.One.{One}
use Rattle.rel_trace.specs.declared.two.Two.{Two}
use Rattle.rel_trace.specs.Choices.{choice_left, choice_quiet}
use Rattle.rel_trace.specs.Ones.{one_left, one_quiet}
use Rattle.rel_trace.specs.Scopes.{Around}
use Rattle.rel_trace.specs.Twos.{two_left, two_quiet}
use Rattle.rel_nodes.specs.declared.node.Node.{Node}
use Rattle.rel_nodes.specs.declared.property.Property.{Property}
use Rattle.rel_nodes.specs.Core.{core}
use Rattle.rel_nodes.specs.Measure.{cap, property_quiet, quiet}
use Rattle.rel_nodes.specs.Nodes.{property_left, rest, shape}
use Rattle.rel_nodes.specs.Steps.{Remainder}

abbrev pub of_node : Scene → Node → Around → Remainder
of_node s n a = record { trace = λ w. rest w s n a; most = quiet n }

abbrev pub of_property : Scene → Property → Around → Remainder
of_property s p a = record { trace = λ w. property_left w s p p.walk a; most = property_quiet p.walk }

abbrev pub of_one : Scene → Node → One → Around → Remainder
of_one s part state a = record {
  trace = λ w. one_left state a s.offset (rest w s part a);
  most = one_quiet state (quiet part);
}

abbrev pub of_two : Scene → Node → Node → Two → Around → Remainder
of_two s first second state a = record {
  trace = λ w. two_left state (rest w s first a) (rest w s second) (core w s (shape second)) a;
  most = two_quiet state (quiet first) (quiet second) (cap (shape second));
}

abbrev pub of_choice : Scene → Node → Node → Node → Choice → Around → Remainder
of_choice s test chosen other state a = record {
  trace = λ w. choice_left state (rest w s test a) (rest w s chosen) (rest w s other) (core w s (shape chosen)) (core w s (shape other)) a;
  most = choice_quiet state (quiet test) (quiet chosen) (quiet other) (cap (shape chosen)) (cap (shape other));
}
