-- An attempt that is held can want so many files at most. Other crates may cite these lemmas.
use Rattle.std.proofs.Common.{ℕ, suc, ◌≡◌, ◌+◌, List, [], ◌∷◌, length, false, Option, Some, None, refl, subst}
use Rattle.std.specs.Prelude.{sum_by}
use Rattle.std.specs.Option.{option_map}
use Rattle.bf_world.specs.declared.command.Command.TheVariants as command
use Rattle.script_text.specs.declared.prefetch.Prefetch.{Prefetch}
use Rattle.script_text.specs.declared.tree.Arm.{Arm, out-Arm}
use Rattle.script_text.specs.declared.tree.Statement.{Statement}
use Rattle.script_text.specs.Views.{shown_statement, shown_statements}
use Rattle.script_text.proofs.PrefetchCounts.{few_prefetches}
use Rattle.script_run.specs.Asking.{known_in}
use Rattle.script_run.specs.RunPlaces.{arm_walk, arms_walk, around, from, place_walk, statements_walk, todo_walk, todos_walk}
use Rattle.script_run.specs.ScriptWalks.{fetch_all, walk_all}
use Rattle.script_run.specs.Walks.{Rest}
use Rattle.script_run.specs.declared.place.Place.{Place}
use Rattle.script_run.specs.declared.place.Place.TheVariants.{Ready, Wanting, Supplied, Placing, Doing, Waiting, Testing, Asking, Done, Failed}
use Rattle.script_run.specs.declared.run.Run.{Run}
use Rattle.script_run.specs.declared.todo.Todo.{Todo}
use Rattle.script_run.specs.declared.todo.Todo.TheVariants.{Fetches, Statements}
use Rattle.agent_attempt.specs.declared.attempt.Part.{Part}
use Rattle.agent_attempt.specs.declared.attempt.Stage.{Stage}
use Rattle.agent_attempt.specs.declared.attempt.Stage.TheVariants as of_stage
use Rattle.agent_attempt.specs.Attempts.{PlainAttempt}
use Rattle.agent_attempt.specs.Stages.{AttemptState, shown_attempt, shown_stage}
use Rattle.agent_core.specs.Agents.{AgentState, shown_state}
use Rattle.agent_core.specs.Wants.{AllFetchAtMost, AttemptWantsAtMost, FetchesAtMost, StageWantsAtMost, WantsAtMost, tail_of}
use Rattle.agent_core.proofs.FewWants.{Few, doing_few, ending_few, failing_few, fetching_few, line_few, placing_few, polling_few, testing_few, walk_all_few, walk_few}
use Rattle.agent_core.proofs.FewerWants.{same_attempt}

-- ---- components
script_fetches : (part : Part) → FetchesAtMost part (length part.fixlet.script)
script_fetches part = few_prefetches part.fixlet.script

abbrev lines_of_each : List Part → List ℕ
lines_of_each [] = []
lines_of_each (part ∷ left) = length part.fixlet.script ∷ lines_of_each left

all_fetch : (left : List Part) → AllFetchAtMost left (lines_of_each left)
all_fetch [] = tt
all_fetch (part ∷ left) = (script_fetches part, all_fetch left)

-- ---- a run
-- no more than some number of files are wanted
abbrev Bounded : Rest → Type 0
Bounded rest = (most : ℕ) × Few most rest

statements_few : (most : ℕ) (statements : List Statement) (rest : Rest) → Few most rest → Few most (statements_walk statements rest)
statements_few most [] rest few = few
statements_few most (statement ∷ statements) rest few = walk_few most (shown_statement statement) (statements_walk statements rest) (statements_few most statements rest few)

arm_few : (most : ℕ) (arm : Arm) (rest other : Rest) → Few most rest → Few most other → Few most (arm_walk arm rest other)
arm_few most arm rest other few o =
    let body = shown_statements (out-Arm arm).body in
    testing_few most (out-Arm arm).line (out-Arm arm).test (walk_all body rest) other (walk_all_few most body rest few) o

arms_few : (most : ℕ) (arms : List Arm) (rest other : Rest) → Few most rest → Few most other → Few most (arms_walk arms rest other)
arms_few most [] rest other few o = o
arms_few most (arm ∷ arms) rest other few o = arm_few most arm rest (arms_walk arms rest other) few (arms_few most arms rest other few o)

fetches_bounded : (list : List Prefetch) (rest : Rest) → Bounded rest → Bounded (fetch_all list rest)
fetches_bounded [] rest bounded = bounded
fetches_bounded (fetch ∷ list) rest bounded =
    let more = fetches_bounded list rest bounded in
    (suc more.0, fetching_few more.0 fetch (fetch_all list rest) more.1)

todo_bounded : (todo : Todo) (rest : Rest) → Bounded rest → Bounded (todo_walk todo rest)
todo_bounded (Fetches list) rest bounded = fetches_bounded list.items rest bounded
todo_bounded (Statements list) rest (most, few) = (most, statements_few most list.items rest few)

todos_bounded : (todos : List Todo) → Bounded (todos_walk todos)
todos_bounded [] = (0, ending_few 0)
todos_bounded (todo ∷ todos) = todo_bounded todo (todos_walk todos) (todos_bounded todos)

place_bounded : (place : Place) (rest : Rest) → Bounded rest → Bounded (place_walk place rest)
place_bounded Ready rest bounded = bounded
place_bounded (Wanting fetch) rest (most, few) = (suc most, fetching_few most fetch rest few)
place_bounded (Supplied fetch bytes) rest (most, few) = (most, placing_few most fetch bytes rest few)
place_bounded (Placing line name bytes) rest (most, few) = (most, doing_few most line false (command.Place name bytes) rest few)
place_bounded (Doing line what) rest (most, few) = (most, line_few most line what rest few)
place_bounded (Waiting line process) rest (most, few) = (most, polling_few most line process.0 rest few)
place_bounded (Testing arms other) rest (most, few) =
    let last = walk_all (shown_statements other) rest in
    (most, arms_few most arms.items rest last few (walk_all_few most (shown_statements other) rest few))
place_bounded (Asking arm arms other) rest (most, few) =
    let last = walk_all (shown_statements other) rest in
    (most, arm_few most arm rest (arms_walk arms.items rest last) few (arms_few most arms.items rest last few (walk_all_few most (shown_statements other) rest few)))
place_bounded Done rest bounded = (0, ending_few 0)
place_bounded (Failed line midway cause) rest bounded = (0, failing_few 0 line midway cause)

run_bounded : (run : Run) → (most : ℕ) × WantsAtMost (from run) most
run_bounded run =
    let all = place_bounded run.place (around run) (todo_bounded run.current (todos_walk run.later.items) (todos_bounded run.later.items)) in
    (all.0, all.1 (known_in run.kept.scene))

-- ---- an attempt
stage_bounded : (left : List Part) (stage : Stage) → (most : ℕ) × StageWantsAtMost left (shown_stage stage) most
stage_bounded [] of_stage.Coming = (0, tt)
stage_bounded [] of_stage.Starting = (0, tt)
stage_bounded [] (of_stage.Running run) = run_bounded run
stage_bounded [] (of_stage.Judging exit) = (0, tt)
stage_bounded (part ∷ left) of_stage.Coming = (length part.fixlet.script, script_fetches part)
stage_bounded (part ∷ left) of_stage.Starting = (length part.fixlet.script, script_fetches part)
stage_bounded (part ∷ left) (of_stage.Running run) = run_bounded run
stage_bounded (part ∷ left) (of_stage.Judging exit) = (0, tt)

attempt_bounded : (a : AttemptState) → (most : ℕ) × AttemptWantsAtMost (shown_attempt a) most
attempt_bounded a =
    let first = stage_bounded a.left a.stage in
    let rest = lines_of_each (tail_of a.left) in
    (first.0 + sum_by (λ n. n) rest, (first.0, rest, first.1, all_fetch (tail_of a.left), refl))

held_bounded : (held : Option AttemptState) (attempt : PlainAttempt) → option_map shown_attempt held ≡ Some attempt → (most : ℕ) × AttemptWantsAtMost attempt most
held_bounded None attempt is = absurd (cc)
held_bounded (Some own) attempt is =
    let all = attempt_bounded own in
    (all.0, subst (λ (x : PlainAttempt). AttemptWantsAtMost x all.0) (same_attempt (shown_attempt own) attempt is) all.1)

pub agent_bounded : (agent : AgentState) (attempt : PlainAttempt) → (shown_state agent).held ≡ Some attempt → (most : ℕ) × AttemptWantsAtMost attempt most
agent_bounded agent attempt held = held_bounded agent.held attempt held
