-- What a row gives of a look's answer or of a text. An answer of another sort gives nothing.
use Rattle.std.specs.Prelude.{ℕ, zero, suc, ◌+◌, ℤ, pos, negsuc, ◌+ℤ◌, Bool, true, false, not, if◌then◌else◌, List, [], ◌∷◌, length, map, filter}
use Rattle.std.specs.declared.option.Option.{Option}
use Rattle.std.specs.declared.option.Option.TheVariants.{Some, None}
use Rattle.std.specs.Option.{option_map}
use Rattle.std.specs.List.{slice_get}
use Rattle.std.specs.Int.{int_gap}
use Rattle.std.specs.Str.{bytes_eq}
use Rattle.hex.specs.Hex.{encode_lower}
use Rattle.bf_world.specs.declared.answer.Answer.{Answer}
use Rattle.bf_world.specs.declared.answer.Answer.TheVariants as answer
use Rattle.bf_world.specs.declared.answer.Entry.{Entry}
use Rattle.bf_world.specs.declared.answer.PackageRow.{PackageRow}
use Rattle.bf_world.specs.declared.answer.SettingRow.{SettingRow}
use Rattle.bf_world.specs.Paths.{joined}
use Rattle.rel_value.specs.Plain.{Plain, part, integer, time, file, folder, setting, process, a_package, system}
use Rattle.rel_value.specs.Signs.{occurs}
use Rattle.rel_value.specs.Versions.{version_of}
use Rattle.rel_sources.specs.Traces.{Item, Absent, Present, Unfit, text_item}
use Rattle.rel_sources.specs.Words.{text_lines, first_place, last_place, pieces_from}

-- the value where there is one
abbrev pub item_of : Option Plain → Item
item_of None = Absent
item_of (Some v) = Present v

-- the text where there is one
abbrev pub text_item_of : Option (List ℕ) → Item
text_item_of None = Absent
text_item_of (Some t) = text_item t

-- ---- what stands at a path

abbrev pub file_item : List ℕ → Answer → Item
file_item path (answer.File size modified) = Present (file path)
file_item path _ = Absent

abbrev pub folder_item : List ℕ → Answer → Item
folder_item path answer.Folder = Present (folder path)
folder_item path _ = Absent

-- the folder at a path where it is asked for, or the file
abbrev pub path_item : Bool → List ℕ → Answer → Item
path_item true = folder_item
path_item false = file_item

abbrev pub size_item : Answer → Item
size_item (answer.File size modified) = Present (integer size)
size_item _ = Absent

abbrev pub modified_item : Answer → Item
modified_item (answer.File size modified) = Present (time modified)
modified_item _ = Absent

-- ---- what stands in a folder

abbrev pub entries_of : Answer → List Entry
entries_of (answer.Entries entries) = entries
entries_of _ = []

-- an entry of the sort that is asked for: a folder, or else a file
abbrev pub is_of_sort : Bool → Entry → Bool
is_of_sort true e = e.folder
is_of_sort false e = not e.folder

abbrev pub value_at : Bool → List ℕ → Plain
value_at true path = folder path
value_at false path = file path

abbrev pub entry_item : Bool → List ℕ → Entry → Item
entry_item folders path e = Present (value_at folders (joined path e.name))

-- the folders in a folder where these are asked for, and else the files
abbrev pub entry_items : Bool → List ℕ → List Entry → List Item
entry_items folders path entries = map (entry_item folders path) (filter (is_of_sort folders) entries)

-- ---- a file's content

abbrev pub lines_of : Answer → List (List ℕ)
lines_of (answer.Content bytes) = text_lines bytes
lines_of _ = []

-- an item that isn't asked for is passed over, unless it is unfit
abbrev pub kept : Bool → Item → Item
kept true i = i
kept false Unfit = Unfit
kept false i = Absent

-- the line contains the wanted text, where one is wanted
abbrev pub is_asked : Option (List ℕ) → List ℕ → Bool
is_asked None line = true
is_asked (Some wanted) line = occurs wanted line

-- a line where it is asked for; one that is too long is so whether it is asked for or not
abbrev pub line_item : Option (List ℕ) → List ℕ → Item
line_item wanted line = kept (is_asked wanted line) (text_item line)

-- the line of this number, counted from 1
abbrev pub numbered : ℤ → List (List ℕ) → Option (List ℕ)
numbered (pos zero) lines = None
numbered (pos (suc n)) lines = slice_get lines n
numbered (negsuc n) lines = None

-- a digest in hexadecimal digits
abbrev pub digest_item : (List ℕ → List ℕ) → Answer → Item
digest_item digest (answer.Content bytes) = text_item (encode_lower (digest bytes))
digest_item digest _ = Absent

-- ---- the computer

abbrev pub system_item : Answer → Item
system_item (answer.System name version) = item_of (option_map (system name) (version_of version))
system_item _ = Absent

abbrev pub name_item : Answer → Item
name_item (answer.Name name) = text_item name
name_item _ = Absent

-- the name is the wanted one, where one is wanted
abbrev pub is_wanted : Option (List ℕ) → List ℕ → Bool
is_wanted None name = true
is_wanted (Some wanted) name = bytes_eq name wanted

-- a member where its name is wanted
abbrev pub member : Option (List ℕ) → List ℕ → Item → Item
member wanted name item = if is_wanted wanted name then item else Absent

abbrev pub process_item : Option (List ℕ) → List ℕ → Item
process_item wanted name = member wanted name (Present (process name))

abbrev pub process_items : Option (List ℕ) → Answer → List Item
process_items wanted (answer.Names names) = map (process_item wanted) names
process_items wanted _ = []

-- every machine shows versions of their form, so a package has numbers
abbrev pub package_item : Option (List ℕ) → PackageRow → Item
package_item wanted row = member wanted row.name (item_of (option_map (a_package row.name) (version_of row.version)))

abbrev pub package_items : Option (List ℕ) → Answer → List Item
package_items wanted (answer.Packages rows) = map (package_item wanted) rows
package_items wanted _ = []

abbrev pub setting_item : Option (List ℕ) → SettingRow → Item
setting_item wanted row = member wanted row.name (Present (setting row.name row.value row.date))

abbrev pub setting_items : Option (List ℕ) → Answer → List Item
setting_items wanted (answer.Settings rows) = map (setting_item wanted) rows
setting_items wanted _ = []

-- ---- integers and parts of texts

-- so many integers from this one on
abbrev pub integers_from : ℤ → ℕ → List ℤ
integers_from z zero = []
integers_from z (suc n) = z ∷ integers_from (z +ℤ pos 1) n

-- the integers from the first to the second, none where that is less
abbrev pub integers : ℤ → ℤ → List ℤ
integers from to = integers_from from (int_gap from (to +ℤ pos 1))

abbrev pub integer_item : ℤ → Item
integer_item z = Present (integer z)

-- the part of a text at this place
abbrev pub part_at : List ℕ → List ℕ → ℕ → Plain
part_at wanted text place = part text place (place + length wanted)

-- the leftmost part of a text with these bytes; no part is empty
abbrev pub first_item : List ℕ → List ℕ → Item
first_item [] text = Absent
first_item (x ∷ xs) text = item_of (option_map (part_at (x ∷ xs) text) (first_place (x ∷ xs) text))

-- the rightmost
abbrev pub last_item : List ℕ → List ℕ → Item
last_item [] text = Absent
last_item (x ∷ xs) text = item_of (option_map (part_at (x ∷ xs) text) (last_place (x ∷ xs) text))

-- the pieces of a text from one place on
abbrev pub piece_items : List ℕ → List ℕ → Option ℕ → List Item
piece_items separator text from = map text_item (pieces_from separator text from)

-- the part of a tuple of this number, from 0
abbrev pub part_numbered : ℤ → List Plain → Option Plain
part_numbered (pos n) parts = slice_get parts n
part_numbered (negsuc n) parts = None
