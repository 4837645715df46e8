-- Lists in strictly ascending byte order of a name. Only private functions cite these definitions.
use Rattle.std.specs.Prelude.{◌≡◌, ℕ, ◌+◌, ◌<◌, ◌≤◌, List, [], ◌∷◌, ◌++◌, length, take, drop, map, filter, find, slice_index_or, All, Ok, Err, Option, Some, None, vec_capacity}
use Rattle.std.specs.declared.result.Result.{Result}
use Rattle.std.specs.Ordering.{is_lt}
use Rattle.std.specs.Str.{bytes_eq}
use Rattle.std.specs.List.Sorted.{IsStrictlySortedBy}
use Rattle.bf_world.specs.Maps.{byte_order}
use Rattle.group_core.specs.declared.computers.Computer.{Computer}
use Rattle.group_core.specs.declared.kept_row.KeptRow.{KeptRow}

-- the names ascend
abbrev pub Ascends : {X : Type 0} → (X → List ℕ) → List X → Type 0
Ascends name_of xs = IsStrictlySortedBy byte_order (map name_of xs)

-- the elements whose names come before this one, and those whose names come after it
abbrev pub before : {X : Type 0} → (X → List ℕ) → List ℕ → List X → List X
before name_of name xs = filter (λ x. is_lt (byte_order (name_of x) name)) xs

abbrev pub after : {X : Type 0} → (X → List ℕ) → List ℕ → List X → List X
after name_of name xs = filter (λ x. is_lt (byte_order name (name_of x))) xs

-- the list with this element at its name
abbrev pub with_one : {X : Type 0} → (X → List ℕ) → X → List X → List X
with_one name_of x xs = before name_of (name_of x) xs ++ x ∷ after name_of (name_of x) xs

-- the list with these elements, one after another
abbrev pub with_all : {X : Type 0} → (X → List ℕ) → List X → List X → List X
with_all name_of [] xs = xs
with_all name_of (y ∷ ys) xs = with_all name_of ys (with_one name_of y xs)

-- the list without the element of this name
abbrev pub without : {X : Type 0} → (X → List ℕ) → List ℕ → List X → List X
without name_of name xs = before name_of name xs ++ after name_of name xs

-- the element of this name
abbrev pub one_of : {X : Type 0} → (X → List ℕ) → List ℕ → List X → Option X
one_of name_of name xs = find (λ x. bytes_eq (name_of x) name) xs

-- the place of the element of this name, or the one where it would stand
abbrev pub HasPlace : {X : Type 0} → (X → List ℕ) → List X → List ℕ → Result ℕ ℕ → Type 0
HasPlace {X} name_of xs name (Ok place) =
    (place < length xs) × (take place xs ≡ before name_of name xs) × (drop (place + 1) xs ≡ after name_of name xs)
    × ((d : X) → name_of (slice_index_or xs place d) ≡ name)
HasPlace name_of xs name (Err place) =
    (place ≤ length xs) × (take place xs ≡ before name_of name xs) × (drop place xs ≡ after name_of name xs)

-- what a row, a computer and a member go by
abbrev pub row_name : KeptRow → List ℕ
row_name kept = kept.row.property

abbrev pub computer_name : Computer → List ℕ
computer_name computer = computer.name

abbrev pub itself : List ℕ → List ℕ
itself name = name

-- the rows of a computer, if there is one
abbrev pub rows_in : Option Computer → List KeptRow
rows_in None = []
rows_in (Some computer) = computer.rows.items

-- the rows of the computer of this name
abbrev pub rows_at : List Computer → List ℕ → List KeptRow
rows_at computers name = rows_in (one_of computer_name name computers)

-- the row of a computer's property
abbrev pub row_at : List Computer → List ℕ → List ℕ → Option KeptRow
row_at computers name property = one_of row_name property (rows_at computers name)

-- computers in order, each with its rows in order
pub record AreComputers (computers : List Computer) : Type 0 where
  pub ascending : Ascends computer_name computers
  pub rows : All (λ (c : Computer). Ascends row_name c.rows.items) computers

-- at this place stands the computer of this name, with room for so many rows more
pub record HasRoomAt (computers : List Computer) (name : List ℕ) (more place : ℕ) : Type 0 where
  pub inside : place < length computers
  pub named : (d : Computer) → (slice_index_or computers place d).name ≡ name
  pub room : (d : Computer) → let rows = (slice_index_or computers place d).rows in length rows.items + more ≤ vec_capacity rows
