use Rattle.std.proofs.Common.{◌≡◌, All, take}
use Rattle.group_core.specs.declared.kept_group.KeptGroup.{KeptGroup}
use Rattle.group_core.proofs.kept_group.place_of.Given as goal

-- none so far has the name
abbrev pub invariant-loop-i : goal.invariant-loop-i
invariant-loop-i l = All (λ (kept : KeptGroup). kept.group.name ≡ l.name → ⊥) (take l.i l.groups)
