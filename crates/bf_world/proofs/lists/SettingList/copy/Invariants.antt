use Rattle.std.proofs.Common.{◌≡◌, take}
use Rattle.bf_world.proofs.lists.SettingList.copy.Given as goal

abbrev pub invariant-loop-setting : goal.invariant-loop-setting
invariant-loop-setting l = l.copies.items ≡ take l.setting-index l.setting-items
