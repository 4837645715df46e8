-- What the calls of a keeper do and answer. What is said of its rows holds where it tells them.
use Rattle.std.specs.Prelude.{◌≡◌, Bool, true, false, List, [], ◌∷◌, ◌++◌, map, filter, All, count_by, ⊤, None, Some}
use Rattle.std.specs.declared.option.Option.{Option}
use Rattle.desk_base.specs.Counts.{CountsFaults}
use Rattle.desk_keep.specs.declared.table.Table.TheVariants.{Sites}
use Rattle.desk_keep.specs.declared.change.Change.{Change}
use Rattle.desk_keep.specs.declared.answer.Applied.{Applied}
use Rattle.desk_keep.specs.declared.answer.Applied.TheVariants as applied
use Rattle.desk_keep.specs.declared.answer.Found.{Found}
use Rattle.desk_keep.specs.declared.answer.Found.TheVariants as found
use Rattle.desk_keep.specs.declared.answer.Listed.{Listed}
use Rattle.desk_keep.specs.declared.answer.Listed.TheVariants as listed
use Rattle.desk_keep.specs.declared.answer.Counted.{Counted}
use Rattle.desk_keep.specs.declared.answer.Counted.TheVariants as counted
use Rattle.desk_keep.specs.Keys.{Key, key_of}
use Rattle.desk_keep.specs.Forms.{Fits}
use Rattle.desk_keep.specs.Tables.{row_at, put_all, is_of, without_text, AreRows}
use Rattle.desk_keep.specs.Views.{KeeperView}

-- P holds of the rows, where they are told.
abbrev pub IfTold : Option (List Change) → (List Change → Type 0) → Type 0
IfTold told P = (rows : List Change) → told ≡ Some rows → P rows

-- A row was appended, so that rows stay in order and in their forms; or it wasn't, since they would not.
abbrev pub Appends : List Change → List Change → Change → Bool → Type 0
Appends old new row true = (new ≡ old ++ row ∷ []) × (AreRows old → AreRows new)
Appends old new row false = (new ≡ old) × ¬ AreRows (old ++ row ∷ [])

-- A batch was put, all of it or nothing.
abbrev pub Applies : Option (List Change) → Option (List Change) → List Change → Applied → Type 0
Applies old new batch applied.Done = IfTold old (λ rows. new ≡ Some (put_all batch rows))
Applies old new batch applied.Failed = new ≡ old
Applies old new batch applied.Memory = new ≡ old

-- The row of the key, or that there is none. A row that is answered is of the key and in its form, told or not.
abbrev pub Finds : Option (List Change) → Key → Found → Type 0
Finds told key (found.Change row) = (key_of row ≡ key) × Fits row × IfTold told (λ rows. row_at key rows ≡ Some row)
Finds told key found.Nothing = IfTold told (λ rows. row_at key rows ≡ None)
Finds told key found.Failed = ⊤
Finds told key found.Memory = ⊤

-- All rows that are asked for. Those that are answered are in ascending order of keys, in their forms and among those that are asked
-- for, told or not.
abbrev pub Lists : (Change → Bool) → Option (List Change) → Listed → Type 0
Lists asked told (listed.Changes rows) =
    AreRows rows × All (λ row. asked row ≡ true) rows × IfTold told (λ all. rows ≡ filter asked all)
Lists asked told listed.Failed = ⊤
Lists asked told listed.Memory = ⊤

-- All rows of sites without their texts, likewise.
abbrev pub ListsVersions : Option (List Change) → Listed → Type 0
ListsVersions told (listed.Changes rows) =
    AreRows rows × All (λ row. (is_of Sites row ≡ true) × (without_text row ≡ row)) rows
    × IfTold told (λ all. rows ≡ map without_text (filter (is_of Sites) all))
ListsVersions told listed.Failed = ⊤
ListsVersions told listed.Memory = ⊤

-- How many rows are asked for.
abbrev pub Counts : Option (List Change) → (Change → Bool) → Counted → Type 0
Counts told asked (counted.Rows count) = IfTold told (λ rows. count ≡ count_by asked rows)
Counts told asked counted.Failed = ⊤
Counts told asked counted.Memory = ⊤

-- Nothing changed but the count of faults, which rose where the call failed.
pub record OnlyReads (failed : Type 0) (old new : KeeperView) : Type 0 where
  pub rows : new.rows ≡ old.rows
  pub counts : CountsFaults failed old.faults new.faults

-- What is kept at a place was opened, and answered so.
pub record Opens (old : KeeperView) (answer : Applied) (new : KeeperView) : Type 0 where
  pub good : IfTold new.rows AreRows
  pub only : OnlyReads (answer ≡ applied.Failed) old new

-- A batch was to be put, and was answered so.
pub record Puts (batch : List Change) (old : KeeperView) (answer : Applied) (new : KeeperView) : Type 0 where
  pub applies : Applies old.rows new.rows batch answer
  pub good : IfTold new.rows AreRows
  pub counts : CountsFaults (answer ≡ applied.Failed) old.faults new.faults

-- The row of a key was asked for, and answered so.
pub record Gets (key : Key) (old : KeeperView) (answer : Found) (new : KeeperView) : Type 0 where
  pub finds : Finds old.rows key answer
  pub good : IfTold new.rows AreRows
  pub only : OnlyReads (answer ≡ found.Failed) old new

-- Rows were asked for, and answered as `asked` says of those that are told.
pub record ListsBy (asked : Option (List Change) → Listed → Type 0) (old : KeeperView) (answer : Listed) (new : KeeperView) : Type 0 where
  pub lists : asked old.rows answer
  pub good : IfTold new.rows AreRows
  pub only : OnlyReads (answer ≡ listed.Failed) old new

-- The number of rows was asked for, and answered so.
pub record CountsRows (asked : Change → Bool) (old : KeeperView) (answer : Counted) (new : KeeperView) : Type 0 where
  pub rows : Counts old.rows asked answer
  pub good : IfTold new.rows AreRows
  pub only : OnlyReads (answer ≡ counted.Failed) old new
