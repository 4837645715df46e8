-- What a book keeps, and how a sample changes it. Only private functions cite these definitions.
use Rattle.std.specs.Prelude.{◌≡◌, ℕ, ◌<◌, ◌≤◌, Bool, true, false, ◌||◌, ◌&&◌, not, ◌==◌, if◌then◌else◌, get_or, IfSome, List, length, map, filter, All, Option, Some, None, vec_capacity}
use Rattle.std.specs.List.{list_any, IsDistinct}
use Rattle.std.specs.Str.{bytes_eq}
use Rattle.group_text.specs.declared.group.Group.{Group}
use Rattle.group_text.specs.declared.test.Test.{Test}
use Rattle.group_text.specs.Properties.{AreProperties}
use Rattle.group_text.specs.Tests.{property_of}
use Rattle.group_sample.specs.declared.sample.Sample.{Sample}
use Rattle.group_sample.specs.declared.sample.Sampled.{Sampled}
use Rattle.group_core.specs.declared.book.Book.TheInside.{Inside}
use Rattle.group_core.specs.declared.computers.Computer.{Computer}
use Rattle.group_core.specs.declared.kept_group.KeptGroup.{KeptGroup}
use Rattle.group_core.specs.declared.kept_row.KeptRow.{KeptRow}
use Rattle.group_core.specs.Books.{HasGroup, is_newer}
use Rattle.group_core.specs.Lists.{AreComputers, computer_name, itself, one_of, row_at, row_name, with_one, without}
use Rattle.group_core.specs.Members.{AreMembers, fits, passes, row_passes}
use Rattle.group_core.specs.Tables.{table_row}

-- ---- rows
-- a row with the number of its sample
abbrev pub numbered : ℕ → Sampled → KeptRow
numbered seq row = record { seq = seq; row = row }

-- the rows of a sample that are newer than these, with its number
abbrev pub newer_rows : List KeptRow → Sample → List KeptRow
newer_rows kept sample =
    map (numbered sample.seq) (filter (λ (row : Sampled). is_newer sample.seq (one_of row_name row.property kept)) sample.rows)

-- ---- groups
-- a group and its members
pub record Membership : Type 0 where
  pub group : Group
  pub members : List (List ℕ)

abbrev pub shown : KeptGroup → Membership
shown kept = record { group = kept.group; members = kept.members.items }

-- whether a test comes to something else by a newer row, if there is one, than by what is there
abbrev pub differs : Test → Option KeptRow → Option KeptRow → Bool
differs test there None = false
differs test there (Some newer) = if passes test there then not (row_passes test newer) else row_passes test newer

-- whether it does by the newer row of its property
abbrev pub is_turned : List KeptRow → List KeptRow → Test → Bool
is_turned rows newer test = differs test (one_of row_name (property_of test) rows) (one_of row_name (property_of test) newer)

-- whether a group can gain or lose the computer of these rows where newer ones replace some of them: one of its tests is turned, or it has
-- no test
abbrev pub can_change : List KeptRow → List KeptRow → Group → Bool
can_change rows newer group = length group.tests == 0 || list_any (is_turned rows newer) group.tests

-- where a group has a spare name, it has room for it
abbrev pub HasRoom : KeptGroup → Type 0
HasRoom kept = IfSome kept.spare (λ spare. length kept.members.items < vec_capacity kept.members)

-- a group is ready for the computer of this name and these rows where newer ones can change the group, and else stays as it is
pub record IsReady (name : List ℕ) (rows newer : List KeptRow) (kept : KeptGroup) : Type 0 where
  pub changes : can_change rows newer kept.group ≡ true → kept.spare ≡ Some name
  pub stays : can_change rows newer kept.group ≡ false → kept.spare ≡ None
  pub room : HasRoom kept

-- whether a computer is to be a member: it has rows, and they fit
abbrev pub is_fitting : Group → Computer → Bool
is_fitting group computer =
    not (length computer.rows.items == 0) && fits (λ property. one_of row_name property computer.rows.items) group

-- the names of those computers
abbrev pub fitting_names : Group → List Computer → List (List ℕ)
fitting_names group computers = map computer_name (filter (is_fitting group) computers)

-- the members with the computer or without it, as its rows fit the group or not
abbrev pub with_or_without : Bool → List ℕ → List (List ℕ) → List (List ℕ)
with_or_without true name members = with_one itself name members
with_or_without false name members = without itself name members

-- where there is a spare name
abbrev pub settled_members : Option (List ℕ) → Bool → List (List ℕ) → List (List ℕ)
settled_members None fit members = members
settled_members (Some name) fit members = with_or_without fit name members

-- a group when the rows of the computer are these
abbrev pub settled : List KeptRow → KeptGroup → Membership
settled rows kept = record {
  group = kept.group;
  members = settled_members kept.spare (fits (λ property. one_of row_name property rows) kept.group) kept.members.items;
}

-- Each group was made ready for the computer of these rows and the newer ones, and then it was made a member or not, by its rows as they
-- were after that.
pub record AreSettled (name : List ℕ) (rows newer after : List KeptRow) (old new : List KeptGroup) : Type 0 where
  pub ready : List KeptGroup
  pub same : map shown ready ≡ map shown old
  pub made : All (IsReady name rows newer) ready
  pub shows : map shown new ≡ map (settled after) ready

-- the groups that are kept
abbrev pub groups_of : List KeptGroup → List Group
groups_of kept = map (λ (k : KeptGroup). k.group) kept

-- the place at which the group of this name is kept, or that none is
abbrev pub IsPlaceOf : List KeptGroup → List ℕ → Option ℕ → Type 0
IsPlaceOf kept name None = ¬ HasGroup (groups_of kept) name
IsPlaceOf kept name (Some place) = (place < length kept) × ((d : KeptGroup) → (get_or kept place d).group.name ≡ name)

-- ---- books
-- what is kept belongs to the samples that were put
pub record KeepsBook (book : Inside) : Type 0 where
  pub properties : AreProperties book.properties.items
  pub few_properties : length book.properties.items ≤ book.limit
  pub few_groups : length book.groups.items ≤ book.limit
  pub distinct : IsDistinct bytes_eq (map (λ (kept : KeptGroup). kept.group.name) book.groups.items)
  pub computers : AreComputers book.computers.items
  pub table : (computer property : List ℕ) → row_at book.computers.items computer property ≡ table_row book.samples computer property
  pub members : All (λ (kept : KeptGroup). AreMembers book.samples kept.group kept.members.items) book.groups.items
