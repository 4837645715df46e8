use Rattle.std.proofs.Common.{refl}
use Rattle.desk_keep.proofs.memory.MemoryKeeperKeeper.apply.Goals as goal

pub invariant_of-self-2 : goal.invariant_of-self-2
invariant_of-self-2 c = c.apply.ensures.puts.good c.apply.new.self refl
