use Rattle.std.proofs.Common.{length}
use Rattle.desk_top.proofs.words.+are_spelled.Given as goal

abbrev pub decreases-are_spelled : goal.decreases-are_spelled
decreases-are_spelled l = length l.words.now
