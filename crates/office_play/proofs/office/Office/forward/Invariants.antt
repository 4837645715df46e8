use Rattle.std.proofs.Common.{◌-◌}
use Rattle.std.specs.List.{range_with_len}
use Rattle.office_rules.specs.Deeds.{DoesEach}
use Rattle.office_rules.specs.MessageWords.{DeliversAnswered}
use Rattle.office_play.specs.Links.{KeepsNames}
use Rattle.office_play.specs.Played.{Plays}
use Rattle.office_play.specs.States.{kept_of}
use Rattle.office_play.proofs.office.Office.forward.Given as goal

-- the messages so far arrived, and their answers did
abbrev pub invariant-loop-number : goal.invariant-loop-number
invariant-loop-number l =
    Plays (DoesEach DeliversAnswered (range_with_len l.first (l.number - l.first))) (kept_of l.initial.self) l.initial.out (kept_of l.self) l.out
    × KeepsNames (kept_of l.initial.self) (kept_of l.self)
