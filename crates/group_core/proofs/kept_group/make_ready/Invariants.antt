use Rattle.std.proofs.Common.{◌≡◌, All, take}
use Rattle.std.specs.Prelude.{map}
use Rattle.group_core.specs.Keeping.{IsReady, shown}
use Rattle.group_core.proofs.kept_group.make_ready.Given as goal

-- the groups show what they did, and those so far are ready
abbrev pub invariant-loop-group : goal.invariant-loop-group
invariant-loop-group l = record {
  same : map shown l.groups ≡ map shown l.fn.groups;
  ready : All (IsReady l.name l.rows l.newer) (take l.group-index l.groups);
}
