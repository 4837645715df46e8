-- Counts of faults of devices whose faults don't all end a run.
use Rattle.std.specs.Prelude.{ℕ, ◌≤◌}
use Rattle.desk_base.specs.Counts.{Rose}

-- The count never fell, and rose where the device ended the run.
pub record CountsMore (ended : Type 0) (old new : ℕ) : Type 0 where
  pub rose : ended → Rose old new
  pub later : old ≤ new
