-- A book: what it keeps, and what its calls do.
use Rattle.std.specs.Prelude.{◌≡◌, ◌≢◌, ◌⊎◌, ℕ, ◌+◌, ◌<◌, ◌≤◌, nat_lt, Bool, true, not, if◌then◌else◌, List, [], ◌∷◌, ◌++◌, length, map, filter, All, Contains, MatchOption, Option, Some, None}
use Rattle.std.specs.List.{list_any}
use Rattle.std.specs.Str.{bytes_eq}
use Rattle.group_text.specs.declared.property.Property.{Property}
use Rattle.group_text.specs.declared.analysis.Analysis.{Analysis}
use Rattle.group_text.specs.declared.group.Group.{Group}
use Rattle.group_sample.specs.declared.sample.Sampled.{Sampled}
use Rattle.group_sample.specs.declared.sample.Sample.{Sample}
use Rattle.group_core.specs.declared.book.Added.{Added}
use Rattle.group_core.specs.declared.book.Added.TheVariants as added
use Rattle.group_core.specs.declared.book.Defined.{Defined}
use Rattle.group_core.specs.declared.book.Defined.TheVariants as defined
use Rattle.group_core.specs.declared.book.PutAnswer.{PutAnswer}
use Rattle.group_core.specs.declared.book.PutAnswer.TheVariants as put
use Rattle.group_core.specs.declared.kept_row.KeptRow.{KeptRow}
use Rattle.group_core.specs.Tables.{table_row}
use Rattle.group_core.specs.Members.{AreMembers}
use denote.Ref.{Bor}

-- A book: the most properties and the most groups that it keeps, these, and all samples that were put, the first one first.
pub record BookState : Type 0 where
  pub limit : ℕ
  pub properties : List Property
  pub groups : List Group
  pub samples : List Sample

-- a book that keeps nothing
abbrev pub empty_book : ℕ → BookState
empty_book limit = record { limit = limit; properties = []; groups = []; samples = [] }

-- ---- analyses

-- whether one of the properties has this name
abbrev pub has_name : List Property → List ℕ → Bool
has_name kept name = list_any (λ (p : Property). bytes_eq p.name name) kept

-- the property is kept as it is
abbrev pub IsKept : List Property → Property → Type 0
IsKept kept p = Contains kept p

-- the name of the property is that of another one
pub record IsTaken (kept : List Property) (p : Property) : Type 0 where
  pub other : Property
  pub among : Contains kept other
  pub same_name : other.name ≡ p.name
  pub differs : other ≢ p

-- the properties whose names are new
abbrev pub new_ones : List Property → List Property → List Property
new_ones kept properties = filter (λ (p : Property). not (has_name kept p.name)) properties

-- this is the name of the first of these properties whose name is taken
pub record IsFirstTaken (kept properties : List Property) (name : List ℕ) : Type 0 where
  pub before : List Property
  pub first : Property
  pub after : List Property
  pub properties_are : properties ≡ before ++ first ∷ after
  pub free : All (λ p. ¬ IsTaken kept p) before
  pub taken : IsTaken kept first
  pub name_is : name ≡ first.name

-- no name of these properties is taken, and not all of them are kept
pub record AreNew (kept properties : List Property) : Type 0 where
  pub free : All (λ p. ¬ IsTaken kept p) properties
  pub some : ¬ All (IsKept kept) properties

-- What becomes of an analysis. Each property may be kept as it is; the name of one may be taken; there may be too many; or the new ones are
-- appended. Want of memory changes nothing.
abbrev pub AddsAnalysis : BookState → Analysis → Added → BookState → Type 0
AddsAnalysis old analysis added.Again new = All (IsKept old.properties) analysis.properties × (new ≡ old)
AddsAnalysis old analysis (added.Taken name) new = IsFirstTaken old.properties analysis.properties name × (new ≡ old)
AddsAnalysis old analysis (added.Full limit) new =
    AreNew old.properties analysis.properties × (limit ≡ old.limit)
    × (old.limit < length old.properties + length (new_ones old.properties analysis.properties)) × (new ≡ old)
AddsAnalysis old analysis added.Ok new =
    AreNew old.properties analysis.properties
    × (length old.properties + length (new_ones old.properties analysis.properties) ≤ old.limit)
    × (new ≡ record old { properties = old.properties ++ new_ones old.properties analysis.properties })
AddsAnalysis old analysis added.Memory new = new ≡ old

-- ---- groups

-- a group of this name is kept
abbrev pub HasGroup : List Group → List ℕ → Type 0
HasGroup groups name = Contains (map (λ (g : Group). g.name) groups) name

-- the groups with this one, in the place of that of its name, or at the end
abbrev pub with_group : Group → List Group → List Group
with_group group [] = group ∷ []
with_group group (other ∷ groups) = if bytes_eq other.name group.name then group ∷ groups else other ∷ with_group group groups

-- there is a place for a group: one of its name is kept, or fewer are kept than may be
abbrev pub HasPlace : BookState → Group → Type 0
HasPlace book group = HasGroup book.groups group.name ⊎ (length book.groups < book.limit)

-- What becomes of a group. It may be kept as it is; there may be too many; or it is kept. Want of memory changes nothing.
abbrev pub DefinesGroup : BookState → Group → Defined → BookState → Type 0
DefinesGroup old group defined.Again new = Contains old.groups group × (new ≡ old)
DefinesGroup old group (defined.Full limit) new =
    (¬ HasGroup old.groups group.name) × (limit ≡ old.limit) × (old.limit ≤ length old.groups) × (new ≡ old)
DefinesGroup old group defined.Ok new =
    (¬ Contains old.groups group) × HasPlace old group × (new ≡ record old { groups = with_group group old.groups })
DefinesGroup old group defined.Memory new = new ≡ old

-- ---- samples

-- whether a row with this number changes the table, where it has this one
abbrev pub is_newer : ℕ → Option KeptRow → Bool
is_newer seq None = true
is_newer seq (Some kept) = nat_lt kept.seq seq

-- the rows of a sample that replace one of the table, or are new there
abbrev pub changed_rows : List Sample → Sample → List Sampled
changed_rows samples sample =
    filter (λ (row : Sampled). is_newer sample.seq (table_row samples sample.computer row.property)) sample.rows

-- A sample is put, and the answer is how many of its rows changed the table. Want of memory changes nothing.
abbrev pub PutsSample : BookState → Sample → PutAnswer → BookState → Type 0
PutsSample old sample (put.Changed count) new =
    (count ≡ length (changed_rows old.samples sample)) × (new ≡ record old { samples = old.samples ++ sample ∷ [] })
PutsSample old sample put.Memory new = new ≡ old

-- ---- members

-- these are the members of the group of this name
pub record HasMembers (book : BookState) (name : List ℕ) (members : List (List ℕ)) : Type 0 where
  pub group : Group
  pub kept : Contains book.groups group
  pub name_is : group.name ≡ name
  pub are : AreMembers book.samples group members

-- The answer is the members of the group of this name, or that none is kept.
abbrev pub AnswersMembers : BookState → List ℕ → Option (Bor (List (List ℕ))) → Type 0
AnswersMembers book name answer =
    MatchOption answer (¬ HasGroup book.groups name) (λ members. HasMembers book name members.now)
