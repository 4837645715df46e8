use Rattle.std.proofs.Common.{◌≤◌}
use Rattle.std.specs.Prelude.{vec_capacity}
use Rattle.agent_core.proofs.Reporting.{Adds}
use Rattle.agent_core.proofs.finishing.add_rows.Given as goal

abbrev pub invariant-loop-history : goal.invariant-loop-history
invariant-loop-history l = record {
  so_far : Adds l.histories l.history-index l.rows.items;
  room : vec_capacity l.fn.rows ≤ vec_capacity l.rows;
}
