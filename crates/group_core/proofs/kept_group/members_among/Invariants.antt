use Rattle.std.proofs.Common.{◌≡◌, take}
use Rattle.group_core.specs.Keeping.{fitting_names}
use Rattle.group_core.proofs.kept_group.members_among.Given as goal

-- those so far
abbrev pub invariant-loop-computer : goal.invariant-loop-computer
invariant-loop-computer l = l.members.items ≡ fitting_names l.group (take l.computer-index l.computers)
