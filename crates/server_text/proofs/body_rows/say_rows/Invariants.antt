use Rattle.std.proofs.Common.{◌≡◌, ◌++◌, take}
use Rattle.std.specs.Prelude.{flat_map}
use Rattle.server_text.specs.Bodies.{result_line}
use Rattle.server_text.proofs.body_rows.say_rows.Given as goal

-- the lines of the results so far were written
abbrev pub invariant-loop-row : goal.invariant-loop-row
invariant-loop-row l = l.out ≡ l.initial.out ++ flat_map result_line (take l.row-index l.rows)
