-- What an argument or an object offers to a row.
use Rattle.std.specs.Prelude.{ℕ, ℤ, ◌≤◌, ⊤, length, if◌then◌else◌, List, [], ◌∷◌, ◌++◌, take, drop}
use Rattle.std.specs.declared.option.Option.{Option}
use Rattle.std.specs.declared.option.Option.TheVariants.{Some, None}
use Rattle.std.specs.Str.{bytes_eq}
use Rattle.bf_world.specs.Paths.{root, last_name}
use Rattle.rel_value.specs.Operands.{stretch}
use Rattle.rel_inspect.specs.declared.offered.Bounds.{Bounds}
use Rattle.rel_value.specs.Plain.{Plain, words, part, integer, file, folder, setting, process, a_package, system, tuple, Parts, no_parts, more_parts}

-- the text; a part stands for its own bytes
abbrev pub text_in : Option Plain → Option (List ℕ)
text_in (Some (words t)) = Some t
text_in (Some (part w from to)) = Some (stretch w from to)
text_in _ = None

abbrev pub integer_in : Option Plain → Option ℤ
integer_in (Some (integer z)) = Some z
integer_in _ = None

-- the path of a file
abbrev pub file_in : Option Plain → Option (List ℕ)
file_in (Some (file p)) = Some p
file_in _ = None

-- the path of a folder
abbrev pub folder_in : Option Plain → Option (List ℕ)
folder_in (Some (folder p)) = Some p
folder_in _ = None

-- the path of a file or folder
abbrev pub path_in : Option Plain → Option (List ℕ)
path_in (Some (file p)) = Some p
path_in (Some (folder p)) = Some p
path_in _ = None

-- the name: of a file or folder the last part of its path, and of `/` it is `/`
abbrev pub path_name : List ℕ → List ℕ
path_name p = if bytes_eq p root then root else last_name p

abbrev pub name_in : Option Plain → Option (List ℕ)
name_in (Some (file p)) = Some (path_name p)
name_in (Some (folder p)) = Some (path_name p)
name_in (Some (setting n v d)) = Some n
name_in (Some (process n)) = Some n
name_in (Some (a_package n v)) = Some n
name_in (Some (system n v)) = Some n
name_in _ = None

-- the numbers of the version of a package or system
abbrev pub version_in : Option Plain → Option (List ℕ)
version_in (Some (a_package n v)) = Some v
version_in (Some (system n v)) = Some v
version_in _ = None

-- the value of a setting
abbrev pub value_in : Option Plain → Option (List ℕ)
value_in (Some (setting n v d)) = Some v
value_in _ = None

-- the date of a setting
abbrev pub date_in : Option Plain → Option ℤ
date_in (Some (setting n v d)) = Some d
date_in _ = None

-- what stands before a part in its text
abbrev pub preceding_in : Option Plain → Option (List ℕ)
preceding_in (Some (part w from to)) = Some (take from w)
preceding_in _ = None

-- what stands behind a part in its text
abbrev pub following_in : Option Plain → Option (List ℕ)
following_in (Some (part w from to)) = Some (drop to w)
following_in _ = None

-- the parts of a tuple, from the first
abbrev pub part_list : Parts → List Plain
part_list no_parts = []
part_list (more_parts ps v) = part_list ps ++ (v ∷ [])

abbrev pub parts_in : Option Plain → Option (List Plain)
parts_in (Some (tuple ps)) = Some (part_list ps)
parts_in _ = None

-- a tuple of two integers
abbrev pub bounds_of : Plain → Plain → Option Bounds
bounds_of (integer a) (integer b) = Some (record { from = a; to = b })
bounds_of _ _ = None

abbrev pub bounds_of_list : List Plain → Option Bounds
bounds_of_list (a ∷ b ∷ []) = bounds_of a b
bounds_of_list _ = None

abbrev pub bounds_in : Option Plain → Option Bounds
bounds_in (Some (tuple ps)) = bounds_of_list (part_list ps)
bounds_in _ = None

-- The text has fewer than 2^32 bytes.
abbrev pub IsShort : Option (List ℕ) → Type 0
IsShort None = ⊤
IsShort (Some t) = length t ≤ 4294967295
