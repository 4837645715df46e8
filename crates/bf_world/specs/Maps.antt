-- Finite maps from texts, each as the list of its entries in strictly ascending byte order of the keys.
use Rattle.std.specs.Prelude.{ℕ, List, map, String}
use Rattle.std.specs.declared.option.Option.{Option}
use Rattle.std.specs.declared.cmp.Ordering.{Ordering}
use Rattle.std.specs.Ordering.{nat_cmp}
use Rattle.std.specs.Cmp.Lexicographic.{slice_cmp}
use Rattle.std.specs.Map.{lookup, keys_of, remove_entry}
use Rattle.std.specs.BTreeMap.{insert_entry, is_at}
use Rattle.std.specs.List.Sorted.{IsStrictlySortedBy}
use Rattle.std.specs.String.{string_bytes}

-- the order of texts, byte by byte
abbrev pub byte_order : List ℕ → List ℕ → Ordering
byte_order = slice_cmp nat_cmp

-- the keys ascend
abbrev pub IsMap : {V : Type 0} → List (List ℕ × V) → Type 0
IsMap entries = IsStrictlySortedBy byte_order (keys_of entries)

-- the value at the key
abbrev pub at : {V : Type 0} → List ℕ → List (List ℕ × V) → Option V
at key entries = lookup (is_at (byte_order key)) entries

-- the map with this value at the key
abbrev pub put : {V : Type 0} → List ℕ → V → List (List ℕ × V) → List (List ℕ × V)
put key value entries = insert_entry byte_order entries key value

-- the map without the key
abbrev pub without : {V : Type 0} → List ℕ → List (List ℕ × V) → List (List ℕ × V)
without key entries = remove_entry (is_at (byte_order key)) entries

-- the entries with the bytes of their keys
abbrev pub by_bytes : {V A : Type 0} → List (String A × V) → List (List ℕ × V)
by_bytes entries = map (λ e. (string_bytes e.0, e.1)) entries
