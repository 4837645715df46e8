use Rattle.std.proofs.Common.{take}
use Rattle.office_rules.specs.Deeds.{DoesEach}
use Rattle.office_rules.specs.MessageWords.{ReportsOne}
use Rattle.office_play.specs.Links.{KeepsNames}
use Rattle.office_play.specs.Played.{Plays}
use Rattle.office_play.specs.States.{kept_of}
use Rattle.office_play.proofs.office.Office.report.Given as goal

-- the reports so far were sent, and each arrived and was answered
abbrev pub invariant-loop-seq : goal.invariant-loop-seq
invariant-loop-seq l =
    Plays (DoesEach (ReportsOne l.name) (take l.seq-index l.seq-items)) (kept_of l.fn.self) l.fn.out (kept_of l.self) l.out × KeepsNames (kept_of l.fn.self) (kept_of l.self)
