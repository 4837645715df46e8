use Rattle.std.proofs.Common.{◌≡◌, ◌++◌, take}
use Rattle.std.specs.Prelude.{flat_map}
use Rattle.office_rules.specs.Endings.{results_of}
use Rattle.office_rules.specs.OfficeLines.{result_line}
use Rattle.office_play.specs.Ending.{IsSum}
use Rattle.office_play.proofs.ending.say_results.Given as goal

-- the lines and the sum of the results so far
abbrev pub invariant-loop-row : goal.invariant-loop-row
invariant-loop-row l =
    (l.out ≡ l.fn.out ++ flat_map result_line (results_of (take l.row-index l.row-items)))
    × IsSum l.sum (results_of (take l.row-index l.row-items))
