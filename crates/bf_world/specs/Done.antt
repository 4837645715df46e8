-- What a command does to a world: its checks, in their order, and what it changes where none of them refuses.
use Rattle.std.specs.Prelude.{◌≡◌, ◌≢◌, ℕ, ◌^◌, ◌-◌, ◌+◌, ℤ, Bool, true, false, if◌then◌else◌, not, ◌||◌, nat_lt, List, [], ◌∷◌, ◌++◌, length, codes, fold, is_some, int_lt, ⊤, Some, None}
use Rattle.std.specs.declared.option.Option.{Option}
use Rattle.bf_world.specs.declared.parts.Node.TheVariants.{Folder, File}
use Rattle.bf_world.specs.declared.parts.SettingValue.{SettingValue}
use Rattle.bf_world.specs.declared.parts.Program.{Program}
use Rattle.bf_world.specs.declared.answer.PackageRow.{PackageRow}
use Rattle.bf_world.specs.declared.answer.Entry.{Entry}
use Rattle.bf_world.specs.declared.command.Command.{Command}
use Rattle.bf_world.specs.declared.command.Command.TheVariants as command
use Rattle.bf_world.specs.declared.command.Reason.{Reason}
use Rattle.bf_world.specs.declared.command.Reason.TheVariants as reason
use Rattle.bf_world.specs.declared.command.Acted.{Acted}
use Rattle.bf_world.specs.declared.command.Acted.TheVariants as acted
use Rattle.bf_world.specs.declared.command.ProcessNo.{ProcessNo}
use Rattle.bf_world.specs.Maps.{at, put, without}
use Rattle.bf_world.specs.Paths.{is_part, is_path, is_free, joined}
use Rattle.bf_world.specs.Places.{is_folder, is_file, content_at, has_parent, with_node, without_node}
use Rattle.bf_world.specs.Shown.{entries_in}
use Rattle.bf_world.specs.Worlds.{WorldState}

-- ---- checks: each is a test, and the reason with which it refuses where it doesn't hold
abbrev pub write_checks : WorldState → List ℕ → List (Bool × Reason)
write_checks w path =
    (is_free path, reason.BadPath) ∷ (has_parent w path, reason.NoSuchFolder) ∷ (not (is_folder w path), reason.AlreadyThere) ∷ []

abbrev pub delete_checks : WorldState → List ℕ → List (Bool × Reason)
delete_checks w path = (is_free path, reason.BadPath) ∷ (not (is_folder w path), reason.NotAFile) ∷ []

abbrev pub copy_checks : WorldState → List ℕ → List ℕ → List (Bool × Reason)
copy_checks w from to =
    (is_free from, reason.BadPath) ∷ (is_free to, reason.BadPath) ∷ (is_file w from, reason.NoSuchFile)
    ∷ (not (is_file w to || is_folder w to), reason.AlreadyThere) ∷ (has_parent w to, reason.NoSuchFolder) ∷ []

-- a folder that is there needs no parent
abbrev pub make_checks : WorldState → List ℕ → List (Bool × Reason)
make_checks w path =
    (is_free path, reason.BadPath) ∷ (not (is_file w path), reason.AlreadyThere)
    ∷ (is_folder w path || has_parent w path, reason.NoSuchFolder) ∷ []

abbrev pub is_empty : List Entry → Bool
is_empty [] = true
is_empty (e ∷ es) = false

abbrev pub drop_checks : WorldState → List ℕ → List (Bool × Reason)
drop_checks w path =
    (is_free path, reason.BadPath) ∷ (is_folder w path, reason.NoSuchFolder) ∷ (is_empty (entries_in w path), reason.NotEmpty) ∷ []

-- a program is known, and fewer than 4,294,967,295 were started
abbrev pub start_checks : WorldState → Option Program → List (Bool × Reason)
start_checks w program =
    (is_some program, reason.NotStarted) ∷ (nat_lt (length w.started) (2 ^ 32 - 1), reason.NotStarted) ∷ []

-- the folder in which fetched files are placed
abbrev pub download : List ℕ
download = codes "__Download"

abbrev pub place_checks : WorldState → List ℕ → List (Bool × Reason)
place_checks w name =
    (is_part name, reason.BadPath) ∷ (is_path (joined download name), reason.BadPath)
    ∷ (not (is_file w download), reason.AlreadyThere) ∷ (not (is_folder w (joined download name)), reason.AlreadyThere) ∷ []

-- the checks of each command, in their order
abbrev pub checks : WorldState → Command → List (Bool × Reason)
checks w (command.Write path content) = write_checks w path
checks w (command.Append path content) = write_checks w path
checks w (command.Delete path) = delete_checks w path
checks w (command.Copy from to) = copy_checks w from to
checks w (command.Move from to) = copy_checks w from to
checks w (command.MakeFolder path) = make_checks w path
checks w (command.DropFolder path) = drop_checks w path
checks w (command.Start line hidden) = start_checks w (at line w.programs)
checks w (command.Put name value date) = []
checks w (command.Drop name date) = []
checks w (command.Place name content) = place_checks w name

-- the reason of the first check that doesn't hold
abbrev pub refusal : List (Bool × Reason) → Option Reason
refusal [] = None
refusal (check ∷ checks) = if check.0 then refusal checks else Some check.1

-- ---- changes
-- the world with the file's bytes, modified at the moment
abbrev pub with_file : List ℕ → List ℕ → ℤ → WorldState → WorldState
with_file path content moment w = with_node path (File content moment) w

-- the world with a folder at the path, where none was
abbrev pub with_folder : List ℕ → WorldState → WorldState
with_folder path w = if is_folder w path then w else with_node path Folder w

-- the versions with those that are given, of which a later one replaces an earlier one
abbrev pub given : List PackageRow → List (List ℕ × List ℕ) → List (List ℕ × List ℕ)
given rows packages = fold (λ versions row. put row.name row.version versions) packages rows

-- the world in which a known program was started once more, and its packages are put
abbrev pub with_started : Option Program → WorldState → WorldState
with_started None w = w
with_started (Some program) w =
    record w { packages = given program.gives w.packages; started = w.started ++ record { left = program.polls; exit = program.exit } ∷ [] }

-- the setting has no value, or one from before this moment
abbrev pub is_older : Option SettingValue → ℤ → Bool
is_older None date = true
is_older (Some setting) date = int_lt setting.date date

-- the world with the setting's value, where that is older
abbrev pub with_setting : List ℕ → SettingValue → WorldState → WorldState
with_setting name setting w =
    if is_older (at name w.settings) setting.date then record w { settings = put name setting w.settings } else w

-- the world without the setting, where that is older
abbrev pub without_setting : List ℕ → ℤ → WorldState → WorldState
without_setting name date w =
    if is_older (at name w.settings) date then record w { settings = without name w.settings } else w

-- the world after a command that is done
abbrev pub after : WorldState → Command → ℤ → WorldState
after w (command.Write path content) moment = with_file path content moment w
after w (command.Append path content) moment = with_file path (content_at w path ++ content) moment w
after w (command.Delete path) moment = without_node path w
after w (command.Copy from to) moment = with_file to (content_at w from) moment w
after w (command.Move from to) moment = without_node from (with_file to (content_at w from) moment w)
after w (command.MakeFolder path) moment = with_folder path w
after w (command.DropFolder path) moment = without_node path w
after w (command.Start line hidden) moment = with_started (at line w.programs) w
after w (command.Put name value date) moment = with_setting name (record { value = value; date = date }) w
after w (command.Drop name date) moment = without_setting name date w
after w (command.Place name content) moment = with_file (joined download name) content moment (with_folder download w)

-- what a command answers that is done: a program that is started has the number of those before it
abbrev pub answer_of : WorldState → Command → Acted
answer_of w (command.Start line hidden) = acted.Started (record { 0 = length w.started })
answer_of w _ = acted.Done

-- ---- the whole
-- an answer, and the world after it
pub record Outcome : Type 0 where
  pub answer : Acted
  pub after : WorldState

abbrev pub outcome_of : WorldState → Option Reason → Outcome → Outcome
outcome_of w None outcome = outcome
outcome_of w (Some reason) outcome = record { answer = acted.Refused reason; after = w }

-- what a command answers, and the world after it
abbrev pub done : WorldState → Command → ℤ → Outcome
done w command moment =
    outcome_of w (refusal (checks w command)) (record { answer = answer_of w command; after = after w command moment })

-- The answer is that of the command, with its world; without memory nothing was done.
abbrev pub Acts : WorldState → WorldState → Acted → Outcome → Type 0
Acts old new acted.Memory outcome = new ≡ old
Acts old new answer outcome = outcome ≡ record { answer = answer; after = new }

-- A Start is never answered by Done, and no other command by Started.
abbrev pub FitsCommand : Command → Acted → Type 0
FitsCommand (command.Start line hidden) answer = answer ≢ acted.Done
FitsCommand _ answer = (process : ProcessNo) → answer ≢ acted.Started process

-- Only a Start raises the number of programs that were started.
abbrev pub StartsByStart : Command → ℕ → ℕ → Type 0
StartsByStart (command.Start line hidden) old new = ⊤
StartsByStart _ old new = new ≡ old

-- A program that is started gets the number of those before it.
abbrev pub CountsStarted : ℕ → ℕ → Acted → Type 0
CountsStarted old new (acted.Started process) = (process ≡ record { 0 = old }) × (new ≡ old + 1)
CountsStarted old new answer = new ≡ old
