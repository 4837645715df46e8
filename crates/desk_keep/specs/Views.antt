-- What a keeper tells of itself.
use Rattle.std.specs.Prelude.{ℕ, List}
use Rattle.std.specs.declared.option.Option.{Option}
use Rattle.desk_keep.specs.declared.change.Change.{Change}

-- the rows of all tables in ascending order of their keys, where it tells them, and its count of faults
pub record KeeperView : Type 0 where
  pub rows : Option (List Change)
  pub faults : ℕ
