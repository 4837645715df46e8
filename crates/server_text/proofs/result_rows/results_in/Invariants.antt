use Rattle.std.proofs.Common.{◌≡◌, take}
use Rattle.std.specs.Prelude.{filter_map}
use Rattle.server_text.specs.ToldRows.{result_row}
use Rattle.server_text.proofs.result_rows.results_in.Given as goal

-- the results of the rows so far
abbrev pub invariant-loop-row : goal.invariant-loop-row
invariant-loop-row l = l.results ≡ filter_map result_row (take l.row-index l.rows)
