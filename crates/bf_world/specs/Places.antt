-- What is where in a world.
use Rattle.std.specs.Prelude.{ℕ, Bool, true, false, if◌then◌else◌, ◌||◌, ◌==◌, List, [], length, Some}
use Rattle.std.specs.declared.option.Option.{Option}
use Rattle.std.specs.Str.{bytes_eq}
use Rattle.bf_world.specs.declared.parts.Node.{Node}
use Rattle.bf_world.specs.declared.parts.Node.TheVariants.{Folder, File}
use Rattle.bf_world.specs.Maps.{at, put, without}
use Rattle.bf_world.specs.Paths.{root, parent_path}
use Rattle.bf_world.specs.Worlds.{WorldState}

-- what is at a path
unfoldable pub node_at : WorldState → List ℕ → Option Node
node_at w path = if bytes_eq path root then Some Folder else at path w.paths

abbrev pub folder_test : Option Node → Bool
folder_test (Some Folder) = true
folder_test _ = false

abbrev pub file_test : Option Node → Bool
file_test (Some (File content modified)) = true
file_test _ = false

abbrev pub content_of : Option Node → List ℕ
content_of (Some (File content modified)) = content
content_of _ = []

-- a folder is at the path
unfoldable pub is_folder : WorldState → List ℕ → Bool
is_folder w path = folder_test (node_at w path)

-- a file is at the path
unfoldable pub is_file : WorldState → List ℕ → Bool
is_file w path = file_test (node_at w path)

-- the bytes of the file at the path, none where no file is there
unfoldable pub content_at : WorldState → List ℕ → List ℕ
content_at w path = content_of (node_at w path)

-- the folder in which the path stands is there, as the work folder and `/` always are
unfoldable pub has_parent : WorldState → List ℕ → Bool
has_parent w path = length (parent_path path) == 0 || is_folder w (parent_path path)

-- the world with this at the path
abbrev pub with_node : List ℕ → Node → WorldState → WorldState
with_node path node w = record w { paths = put path node w.paths }

-- the world with nothing at the path
abbrev pub without_node : List ℕ → WorldState → WorldState
without_node path w = record w { paths = without path w.paths }
