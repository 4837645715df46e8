-- The table of samples: for each computer and property, the row of the newest sample that has one.
use Rattle.std.specs.Prelude.{ℕ, nat_lt, if◌then◌else◌, List, [], ◌∷◌, ◌++◌, find, option_map, option_to_list, Option, Some, None}
use Rattle.std.specs.Str.{bytes_eq}
use Rattle.group_sample.specs.declared.sample.Sampled.{Sampled}
use Rattle.group_sample.specs.declared.sample.Sample.{Sample}
use Rattle.group_core.specs.declared.kept_row.KeptRow.{KeptRow}

-- the row of a property in a sample, with the sample's number
abbrev pub row_in : List ℕ → Sample → Option KeptRow
row_in property sample =
    option_map (λ (row : Sampled). record { seq = sample.seq; row = row })
    (find (λ (row : Sampled). bytes_eq row.property property) sample.rows)

-- the rows of a computer's property in samples, in the order in which they were put
abbrev pub rows_put : List Sample → List ℕ → List ℕ → List KeptRow
rows_put [] computer property = []
rows_put (sample ∷ samples) computer property =
    (if bytes_eq sample.computer computer then option_to_list (row_in property sample) else []) ++ rows_put samples computer property

-- of a row and one that was put later, if there is one, the later one where its number is greater
abbrev pub newer : KeptRow → Option KeptRow → KeptRow
newer row None = row
newer row (Some later) = if nat_lt row.seq later.seq then later else row

-- of some rows that of the greatest number, of equal numbers the first
abbrev pub newest : List KeptRow → Option KeptRow
newest [] = None
newest (row ∷ rows) = Some (newer row (newest rows))

-- the row that the table has of a computer's property
abbrev pub table_row : List Sample → List ℕ → List ℕ → Option KeptRow
table_row samples computer property = newest (rows_put samples computer property)
