-- What a look shows of a world.
use Rattle.std.specs.Prelude.{ℕ, pos, if◌then◌else◌, ◌&&◌, List, length, map, Some, None}
use Rattle.std.specs.declared.option.Option.{Option}
use Rattle.std.specs.Str.{bytes_eq}
use Rattle.std.specs.List.{filter_map}
use Rattle.std.specs.Map.{keys_of}
use Rattle.bf_world.specs.declared.parts.Node.{Node}
use Rattle.bf_world.specs.declared.parts.Node.TheVariants.{Folder, File}
use Rattle.bf_world.specs.declared.parts.SettingValue.{SettingValue}
use Rattle.bf_world.specs.declared.answer.Answer.{Answer}
use Rattle.bf_world.specs.declared.answer.Answer.TheVariants as answer
use Rattle.bf_world.specs.declared.answer.Entry.{Entry}
use Rattle.bf_world.specs.declared.answer.PackageRow.{PackageRow}
use Rattle.bf_world.specs.declared.answer.SettingRow.{SettingRow}
use Rattle.bf_world.specs.declared.key.Key.{Key}
use Rattle.bf_world.specs.declared.key.Key.TheVariants as key
use Rattle.bf_world.specs.Paths.{is_part, joined, last_name}
use Rattle.bf_world.specs.Places.{node_at, is_folder, folder_test}
use Rattle.bf_world.specs.Worlds.{WorldState}

-- the entry for what is at a path, where that is a part in the folder
unfoldable pub entry_in : List ℕ → List ℕ × Node → Option Entry
entry_in folder e =
    if is_part (last_name e.0) && bytes_eq (joined folder (last_name e.0)) e.0
    then Some (record { name = last_name e.0; folder = folder_test (Some e.1) }) else None

-- the entries of a folder, in byte order of their paths, and so of their names
unfoldable pub entries_in : WorldState → List ℕ → List Entry
entries_in w folder = filter_map (entry_in folder) w.paths

abbrev pub package_row : List ℕ × List ℕ → PackageRow
package_row e = record { name = e.0; version = e.1 }

abbrev pub setting_row : List ℕ × SettingValue → SettingRow
setting_row e = record { name = e.0; value = e.1.value; date = e.1.date }

abbrev pub stat_of : Option Node → Answer
stat_of None = answer.Nothing
stat_of (Some Folder) = answer.Folder
stat_of (Some (File content modified)) = answer.File (pos (length content)) modified

abbrev pub read_of : Option Node → Answer
read_of (Some (File content modified)) = answer.Content content
read_of _ = answer.Nothing

-- what a look answers
abbrev pub shown : WorldState → Key → Answer
shown w (key.Stat path) = stat_of (node_at w path)
shown w (key.List path) = if is_folder w path then answer.Entries (entries_in w path) else answer.Nothing
shown w (key.Read path) = read_of (node_at w path)
shown w key.System = answer.System w.system w.version
shown w key.ComputerName = answer.Name w.name
shown w key.Processes = answer.Names (keys_of w.processes)
shown w key.Packages = answer.Packages (map package_row w.packages)
shown w key.Settings = answer.Settings (map setting_row w.settings)
