use Rattle.std.proofs.Common.{◌≡◌, drop, length, take}
use Rattle.std.specs.Prelude.{map}
use Rattle.group_core.specs.Keeping.{settled, shown}
use Rattle.group_core.proofs.kept_group.settle.Given as goal

-- the groups so far are settled, and the others stand as they did
abbrev pub invariant-loop-group : goal.invariant-loop-group
invariant-loop-group l = record {
  long : length l.groups ≡ length l.fn.groups;
  done : map shown (take l.group-index l.groups) ≡ map (settled l.rows) (take l.group-index l.fn.groups);
  rest : drop l.group-index l.groups ≡ drop l.group-index l.fn.groups;
}
