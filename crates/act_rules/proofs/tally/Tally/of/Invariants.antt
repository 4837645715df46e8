use Rattle.std.proofs.Common.{◌≡◌, ◌<◌, ◌^◌, take, length}
use Rattle.act_rules.specs.Tallies.{Counts, ended_rows}
use Rattle.act_rules.proofs.tally.Tally.of.Given as goal

-- the tally stands for the rows so far
abbrev pub invariant-loop-row : goal.invariant-loop-row
invariant-loop-row l = record {
  few : length l.row-items < 2 ^ 32;
  items : l.row-items ≡ l.rows.rows;
  counts : Counts l.tally l.fn.retries (ended_rows (take l.row-index l.row-items));
}
