use Rattle.std.proofs.Common.{◌≡◌, ◌++◌, take}
use Rattle.std.specs.Prelude.{flat_map}
use Rattle.office_rules.specs.GroupWords.{member_line}
use Rattle.office_play.proofs.listing.say_members.Given as goal

-- the lines of the members so far
abbrev pub invariant-loop-member : goal.invariant-loop-member
invariant-loop-member l = l.out ≡ l.fn.out ++ flat_map (member_line l.group) (take l.member-index l.members)
