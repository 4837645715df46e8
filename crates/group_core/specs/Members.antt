-- The members of a group, computed from all samples.
use Rattle.std.specs.Prelude.{ℕ, Bool, false, not, if◌then◌else◌, ◌↔◌, IsTrue, IsSome, List, Contains, Option, Some, None}
use Rattle.std.specs.List.{list_any, list_all}
use Rattle.std.specs.List.Sorted.{IsStrictlySortedBy}
use Rattle.std.specs.Str.{bytes_eq}
use Rattle.bf_world.specs.Maps.{byte_order}
use Rattle.group_text.specs.declared.test.Test.{Test}
use Rattle.group_text.specs.declared.test.Test.TheVariants.{Has, Lacks, Error}
use Rattle.group_text.specs.declared.group.Group.{Group}
use Rattle.group_text.specs.Tests.{property_of}
use Rattle.group_sample.specs.declared.sample.Sample.{Sample}
use Rattle.group_core.specs.declared.kept_row.KeptRow.{KeptRow}
use Rattle.group_core.specs.Tables.{table_row}

-- whether a row has this text among its values
abbrev pub has_value : KeptRow → List ℕ → Bool
has_value kept text = list_any (λ value. bytes_eq value text) kept.row.values

-- whether a test holds of a row
abbrev pub row_passes : Test → KeptRow → Bool
row_passes (Has property text) kept = has_value kept text
row_passes (Lacks property text) kept = not (has_value kept text)
row_passes (Error property) kept = kept.row.error

-- whether a test holds of the row of its property, and not where there is none
abbrev pub passes : Test → Option KeptRow → Bool
passes test None = false
passes test (Some kept) = row_passes test kept

-- whether all tests of a group hold of these rows, or any of them, each of the row of its property
abbrev pub fits : (List ℕ → Option KeptRow) → Group → Bool
fits row_of group =
    if group.any then list_any (λ test. passes test (row_of (property_of test))) group.tests
    else list_all (λ test. passes test (row_of (property_of test))) group.tests

-- the computer is a member of the group: it has some row, and its rows fit
pub record IsMember (samples : List Sample) (group : Group) (computer : List ℕ) : Type 0 where
  pub property : List ℕ
  pub has_row : IsSome (table_row samples computer property)
  pub rows_fit : IsTrue (fits (table_row samples computer) group)

-- these are the members of the group, in byte order
pub record AreMembers (samples : List Sample) (group : Group) (members : List (List ℕ)) : Type 0 where
  pub each : (computer : List ℕ) → Contains members computer ↔ IsMember samples group computer
  pub ascending : IsStrictlySortedBy byte_order members
