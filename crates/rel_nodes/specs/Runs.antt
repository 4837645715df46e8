-- Lists of parts, each put together with what stands before it. No public contract speaks of it.
use Rattle.std.specs.Prelude.{List, [], ◌∷◌, map}
use Rattle.rel_trace.specs.Twos.{TwoKind, then_kind, bar_kind, left_kind}
use Rattle.rel_nodes.specs.declared.runs.Joint.{Joint}
use Rattle.rel_nodes.specs.declared.runs.Joint.TheVariants.{Then, Bar, Left}
use Rattle.rel_nodes.specs.declared.runs.Run.{Run}
use Rattle.rel_nodes.specs.Core.{Core, nothing_core, two_core}
use Rattle.rel_nodes.specs.Nodes.{boxed_shape}

abbrev pub joint_kind : Joint → TwoKind
joint_kind Then = then_kind
joint_kind Bar = bar_kind
joint_kind Left = left_kind

-- a first part and then those of a list, from the left
abbrev pub nest : TwoKind → Core → List Core → Core
nest k c [] = c
nest k c (x ∷ xs) = nest k (two_core k c x) xs

-- the parts of a list, from the left
abbrev pub joined : TwoKind → List Core → Core
joined k [] = nothing_core
joined k (x ∷ xs) = nest k x xs

abbrev pub run_core : Run → Core
run_core r = nest (joint_kind r.joint) (boxed_shape r.first) (map boxed_shape r.rest.items)
