use Rattle.std.proofs.Common.{length}
use Rattle.office_play.proofs.line.+say_spaced.Given as goal

abbrev pub decreases-say_spaced : goal.decreases-say_spaced
decreases-say_spaced l = length l.words.now
