-- Where a run stands, and what it does from there.
use Rattle.std.specs.Prelude.{◌≡◌, ◌<◌, ⊤, ℕ, false, List, [], ◌∷◌, length, Option, Some, None}
use Rattle.bf_world.specs.declared.command.Command.TheVariants as command
use Rattle.rel_sources.specs.declared.pair.Pair.{Pair}
use Rattle.script_text.specs.declared.tree.Statement.{Statement}
use Rattle.script_text.specs.declared.tree.Arm.{Arm, out-Arm}
use Rattle.script_text.specs.Views.{shown_statement, shown_statements}
use Rattle.script_text.specs.Scripts.{PlainScript}
use Rattle.script_run.specs.declared.place.Place.{Place}
use Rattle.script_run.specs.declared.place.Place.TheVariants.{Ready, Wanting, Supplied, Placing, Doing, Waiting, Testing, Asking, Done, Failed}
use Rattle.script_run.specs.declared.todo.Todo.{Todo}
use Rattle.script_run.specs.declared.todo.Todo.TheVariants.{Fetches, Statements}
use Rattle.script_run.specs.declared.run.Run.{Run}
use Rattle.script_run.specs.declared.ran.Ran.{Ran}
use Rattle.script_run.specs.declared.ran.Ran.TheVariants as ran
use Rattle.script_run.specs.Causes.{HasTexts}
use Rattle.script_run.specs.Walks.{Settled, Walk, Rest, ending, failing, testing, doing, polling}
use Rattle.script_run.specs.LineWalks.{line_walk, fetching, placing}
use Rattle.script_run.specs.ScriptWalks.{walk, walk_all, fetch_all, after}
use Rattle.script_run.specs.Asking.{known_in}

-- statements one after another, as a run keeps them
abbrev pub statements_walk : List Statement → Rest → Rest
statements_walk [] rest = rest
statements_walk (statement ∷ statements) rest = walk (shown_statement statement) (statements_walk statements rest)

-- the body of an arm where its test is true, else what comes of the others
abbrev pub arm_walk : Arm → Rest → Rest → Rest
arm_walk arm rest other = testing (out-Arm arm).line (out-Arm arm).test (walk_all (shown_statements (out-Arm arm).body) rest) other

-- arms, as a run keeps them
abbrev pub arms_walk : List Arm → Rest → Rest → Rest
arms_walk [] rest other = other
arms_walk (arm ∷ arms) rest other = arm_walk arm rest (arms_walk arms rest other)

-- what is left of one list
abbrev pub todo_walk : Todo → Rest → Rest
todo_walk (Fetches list) rest = fetch_all list.items rest
todo_walk (Statements list) rest = statements_walk list.items rest

-- what is left of the lists around the place, the innermost first
abbrev pub todos_walk : List Todo → Rest
todos_walk [] = ending
todos_walk (todo ∷ todos) = todo_walk todo (todos_walk todos)

-- what a place does, before the rest
abbrev pub place_walk : Place → Rest → Rest
place_walk Ready rest = rest
place_walk (Wanting fetch) rest = fetching fetch rest
place_walk (Supplied fetch bytes) rest = placing fetch bytes rest
place_walk (Placing line name bytes) rest = doing line false (command.Place name bytes) rest
place_walk (Doing line what) rest = line_walk line what rest
place_walk (Waiting line process) rest = polling line process.0 rest
place_walk (Testing arms other) rest = arms_walk arms.items rest (walk_all (shown_statements other) rest)
place_walk (Asking arm arms other) rest =
    arm_walk arm rest (arms_walk arms.items rest (walk_all (shown_statements other) rest))
place_walk Done rest = ending
place_walk (Failed line midway cause) rest = failing line midway cause

-- the rest of the script behind the place
abbrev pub around : Run → Rest
around run = todo_walk run.current (todos_walk run.later.items)

-- what a run does from its place, after further results
abbrev pub from : Run → Walk
from run more = place_walk run.place (around run) (known_in run.kept.scene) more

-- A run stands where the script with these parameters does after these results: it knows the same parameters and exit code, waits for
-- the same program or file, and after any further results it does the same.
abbrev pub Stands : PlainScript → List Pair → Run → List Settled → Type 0
Stands script given run settled = (more : List Settled) → after script given settled more ≡ from run more

-- the program that is waited for is one of so many
abbrev pub WaitsBelow : ℕ → Place → Type 0
WaitsBelow started (Waiting line process) = process.0 < started
WaitsBelow started _ = ⊤

-- the SHA-256 of the file that is wanted at a place
abbrev pub wanted_at : Place → Option (List ℕ)
wanted_at (Wanting fetch) = Some fetch.sha256
wanted_at _ = None

-- Memory can run out there: nothing of the line at the place is settled, or its file has the right size; or the line failed for a digest,
-- which is told in texts.
abbrev pub IsBeforeLine : Place → Type 0
IsBeforeLine (Wanting fetch) = ⊥
IsBeforeLine (Supplied fetch bytes) = length bytes ≡ fetch.size
IsBeforeLine (Waiting line process) = ⊥
IsBeforeLine Done = ⊥
IsBeforeLine (Failed line midway cause) = HasTexts cause
IsBeforeLine _ = ⊤

-- Where memory ran out, the place is such a one.
abbrev pub MemoryLeaves : Ran → Place → Type 0
MemoryLeaves ran.Memory place = IsBeforeLine place
MemoryLeaves _ place = ⊤
