use Rattle.std.proofs.Common.{◌≡◌, drop, map}
use Rattle.rel_value.specs.Views.{shown_kind, shown_kinds}
use Rattle.rel_types.specs.Alike.{same_kinds}
use Rattle.rel_types.proofs.SameKinds.{same_list}
use Rattle.rel_types.proofs.alike.+alike.Given as goal

-- the kinds that are left decide
abbrev pub invariant-same_kinds-loop-number : goal.invariant-same_kinds-loop-number
invariant-same_kinds-loop-number l = same_list (map shown_kind (drop l.number l.lefts)) (map shown_kind (drop l.number l.rights)) ≡ same_kinds (shown_kinds l.fn.ones) (shown_kinds l.fn.others)
