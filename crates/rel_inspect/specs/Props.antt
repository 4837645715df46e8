-- The table of properties: what a property does and gives over one object, with its argument, in a world and a scene.
use Rattle.std.specs.Prelude.{ℕ, pos, Bool, true, false, if◌then◌else◌, List, length, map}
use Rattle.std.specs.declared.option.Option.{Option}
use Rattle.std.specs.declared.option.Option.TheVariants.{Some, None}
use Rattle.std.specs.Option.{option_map}
use Rattle.std.specs.Str.{chars}
use Rattle.sha1.specs.Sha1.{sha1}
use Rattle.sha2.specs.Sha256.{sha256}
use Rattle.bf_world.specs.declared.answer.Answer.{Answer}
use Rattle.bf_world.specs.declared.key.Key.{Key}
use Rattle.bf_world.specs.declared.key.Key.TheVariants as key
use Rattle.bf_world.specs.Paths.{is_part, is_path, joined}
use Rattle.bf_world.specs.Shown.{shown}
use Rattle.bf_world.specs.Worlds.{WorldState}
use Rattle.rel_value.specs.declared.property.PropertyId.{PropertyId}
use Rattle.rel_value.specs.declared.property.PropertyId.TheVariants as id
use Rattle.rel_value.specs.Plain.{Plain, boolean, integer, time, interval, version, client, action}
use Rattle.rel_sources.specs.declared.scene.Scene.{Scene}
use Rattle.rel_sources.specs.Traces.{Trace, After, Look, none, one, once, turns, text_item}
use Rattle.rel_sources.specs.Scenes.{value_of}
use Rattle.rel_sources.specs.Words.{pieces_by}
use Rattle.rel_inspect.specs.Offered.{text_in, integer_in, file_in, folder_in, path_in, name_in, version_in, value_in, date_in, preceding_in, following_in, parts_in, bounds_in}
use Rattle.rel_sources.specs.Rows.{item_of, text_item_of, path_item, size_item, modified_item, entries_of, entry_items, lines_of, line_item, numbered, digest_item, system_item, name_item, process_items, package_items, setting_items, integers, integer_item, first_item, last_item, part_numbered}
use Rattle.rel_inspect.specs.Below.{descendants}

-- nothing where an argument or an object isn't of the row's kind
abbrev pub with : {A : Type 0} → Option A → (A → Trace) → Trace
with None f = none
with (Some x) f = f x

-- a look, and what follows its answer
abbrev pub looking : WorldState → Key → (Answer → Trace) → Trace
looking w k f = After (Look k) (f (shown w k))

-- the folder at a path where it is asked for, or the file; a text that is no path makes no look
abbrev pub at_path : Bool → WorldState → List ℕ → Trace
at_path folder w path = if is_path path then looking w (key.Stat path) (λ a. once (path_item folder path a)) else none

-- the same of what has this name in a folder; a name that isn't one part of a path makes no look
abbrev pub at_name : Bool → WorldState → List ℕ → List ℕ → Trace
at_name folder w path name = if is_part name then at_path folder w (joined path name) else none

abbrev pub prop : PropertyId → Option Plain → Option Plain → WorldState → Scene → Trace
prop id.True a o w s = one (boolean true)
prop id.False a o w s = one (boolean false)
prop id.Second a o w s = one (interval (pos 1))
prop id.Minute a o w s = one (interval (pos 60))
prop id.Hour a o w s = one (interval (pos 3600))
prop id.Day a o w s = one (interval (pos 86400))
prop id.Now a o w s = one (time s.moment)
prop id.FileAt a o w s = with (text_in a) (at_path false w)
prop id.FolderAt a o w s = with (text_in a) (at_path true w)
prop id.FileNamed a o w s = with (text_in a) (λ name. with (folder_in o) (λ path. at_name false w path name))
prop id.FolderNamed a o w s = with (text_in a) (λ name. with (folder_in o) (λ path. at_name true w path name))
prop id.File a o w s = with (folder_in o) (λ path. looking w (key.List path) (λ x. turns (entry_items false path (entries_of x))))
prop id.Folder a o w s = with (folder_in o) (λ path. looking w (key.List path) (λ x. turns (entry_items true path (entries_of x))))
prop id.Descendant a o w s = with (folder_in o) (descendants w)
prop id.Name a o w s = once (text_item_of (name_in o))
prop id.Pathname a o w s = once (text_item_of (path_in o))
prop id.Size a o w s = with (file_in o) (λ path. looking w (key.Stat path) (λ x. once (size_item x)))
prop id.ModificationTime a o w s = with (file_in o) (λ path. looking w (key.Stat path) (λ x. once (modified_item x)))
prop id.Line a o w s = with (file_in o) (λ path. looking w (key.Read path) (λ x. turns (map (line_item None) (lines_of x))))
prop id.LineAt a o w s = with (integer_in a) (λ n. with (file_in o) (λ path. looking w (key.Read path) (λ x. once (text_item_of (numbered n (lines_of x))))))
prop id.LineContaining a o w s = with (text_in a) (λ t. with (file_in o) (λ path. looking w (key.Read path) (λ x. turns (map (line_item (Some t)) (lines_of x)))))
prop id.Sha1 a o w s = with (file_in o) (λ path. looking w (key.Read path) (λ x. once (digest_item sha1 x)))
prop id.Sha256 a o w s = with (file_in o) (λ path. looking w (key.Read path) (λ x. once (digest_item sha256 x)))
prop id.OperatingSystem a o w s = looking w key.System (λ x. once (system_item x))
prop id.ComputerName a o w s = looking w key.ComputerName (λ x. once (name_item x))
prop id.Process a o w s = looking w key.Processes (λ x. turns (process_items (text_in a) x))
prop id.Package a o w s = looking w key.Packages (λ x. turns (package_items (text_in a) x))
prop id.Version a o w s = once (item_of (option_map version (version_in o)))
prop id.Client a o w s = one client
prop id.Action a o w s = one action
prop id.Setting a o w s = looking w key.Settings (λ x. turns (setting_items (text_in a) x))
prop id.Value a o w s = once (text_item_of (value_in o))
prop id.EffectiveDate a o w s = once (item_of (option_map time (date_in o)))
prop id.IntegerIn a o w s = with (bounds_in a) (λ b. turns (map integer_item (integers b.from b.to)))
prop id.Length a o w s = with (text_in o) (λ t. one (integer (pos (length (chars t)))))
prop id.First a o w s = with (text_in a) (λ part. with (text_in o) (λ t. once (first_item part t)))
prop id.Last a o w s = with (text_in a) (λ part. with (text_in o) (λ t. once (last_item part t)))
prop id.PrecedingText a o w s = once (text_item_of (preceding_in o))
prop id.FollowingText a o w s = once (text_item_of (following_in o))
prop id.SubstringSeparatedBy a o w s = with (text_in a) (λ x. with (text_in o) (λ t. turns (map text_item (pieces_by x t))))
prop id.Parameter a o w s = with (text_in a) (λ name. once (text_item_of (value_of name s.parameters)))
prop id.ExitCode a o w s = once (item_of (option_map integer s.exit))
prop id.Item a o w s = with (integer_in a) (λ n. with (parts_in o) (λ ps. once (item_of (part_numbered n ps))))
