-- What a look shows, as text.
use Rattle.std.specs.Prelude.{◌≡◌, ℕ, ℤ, List, ◌++◌, flat_map, codes, if◌then◌else◌}
use Rattle.std.specs.Fmt.{signed_decimal}
use Rattle.line_forms.specs.Fields.{field_text}
use Rattle.bf_world.specs.declared.answer.Answer.{Answer}
use Rattle.bf_world.specs.declared.answer.Answer.TheVariants as answer
use Rattle.bf_world.specs.declared.answer.Entry.{Entry}
use Rattle.bf_world.specs.declared.answer.PackageRow.{PackageRow}
use Rattle.bf_world.specs.declared.answer.SettingRow.{SettingRow}
use Rattle.bf_machine.specs.declared.machine.Looked.{Looked}
use Rattle.bf_machine.specs.declared.machine.Looked.TheVariants as of_look

-- a file: its size, and the moment at which it was last modified
unfoldable pub file_text : ℤ → ℤ → List ℕ
file_text size modified = codes "file " ++ (field_text (signed_decimal size) ++ signed_decimal modified)

-- two texts, each with a space behind it
unfoldable pub two_texts : List ℕ → List ℕ → List ℕ
two_texts first second = field_text first ++ field_text second

-- the name of an entry, that of a folder with a `/` behind it
unfoldable pub entry_text : Entry → List ℕ
entry_text entry = entry.name ++ (if entry.folder then codes "/ " else codes " ")

-- a package: its name and its version
abbrev pub row_text : PackageRow → List ℕ
row_text row = two_texts row.name row.version

-- a setting: its name, its date and its value
unfoldable pub setting_text : SettingRow → List ℕ
setting_text row = field_text row.name ++ (field_text (signed_decimal row.date) ++ field_text row.value)

-- an answer: names have a space behind each, and a file's bytes are as they are
abbrev pub answer_text : Answer → List ℕ
answer_text answer.Nothing = codes "nothing"
answer_text answer.Folder = codes "folder"
answer_text (answer.File size modified) = file_text size modified
answer_text (answer.Entries entries) = flat_map entry_text entries
answer_text (answer.Content content) = content
answer_text (answer.System name version) = two_texts name version
answer_text (answer.Name name) = name
answer_text (answer.Names names) = flat_map field_text names
answer_text (answer.Packages rows) = flat_map row_text rows
answer_text (answer.Settings rows) = flat_map setting_text rows

-- What a look shows was appended. Of want of memory nothing is.
abbrev pub AppendsShown : Looked → List ℕ → List ℕ → Type 0
AppendsShown (of_look.Answer answer) old new = new ≡ old ++ answer_text answer
AppendsShown of_look.Failed old new = new ≡ old ++ codes "failed"
AppendsShown of_look.Memory old new = ⊥
