use Rattle.std.proofs.Common.{◌≡◌, map, take}
use Rattle.rel_value.specs.Views.{shown_kind}
use Rattle.rel_value.proofs.kind.+copy_kind.Given as goal

abbrev pub invariant-Kinds::copy-loop-kind : goal.invariant-Kinds::copy-loop-kind
invariant-Kinds::copy-loop-kind l = map shown_kind l.items.items ≡ map shown_kind (take l.kind-index l.kind-items)
