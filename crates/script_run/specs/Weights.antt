-- How many steps a run can still make. Only private functions cite these definitions.
use Rattle.std.specs.Prelude.{ℕ, ◌+◌, ◌*◌, List, [], ◌∷◌, length}
use Rattle.script_text.specs.declared.tree.Statement.{Statement}
use Rattle.script_text.specs.declared.tree.Arm.{Arm, out-Arm}
use Rattle.script_text.specs.Trees.{PlainStatement, act, choice, Statements, no_statements, more_statements, Arms, no_arms, more_arms}
use Rattle.script_text.specs.Views.{shown_statement, shown_statements}
use Rattle.script_run.specs.declared.place.Place.{Place}
use Rattle.script_run.specs.declared.place.Place.TheVariants.{Ready, Wanting, Supplied, Placing, Doing, Waiting, Testing, Asking, Done, Failed}
use Rattle.script_run.specs.declared.todo.Todo.{Todo}
use Rattle.script_run.specs.declared.todo.Todo.TheVariants.{Fetches, Statements as statements_left}
use Rattle.script_run.specs.declared.run.Run.{Run}

abbrev mutual
  pub weight : PlainStatement → ℕ
  weight (act line what) = 3
  weight (choice arms other) = 3 + (arms_weight arms + all_weight other)

  pub all_weight : Statements → ℕ
  all_weight no_statements = 0
  all_weight (more_statements statements last) = all_weight statements + weight last

  pub arms_weight : Arms → ℕ
  arms_weight no_arms = 0
  arms_weight (more_arms arms line test body) = arms_weight arms + (2 + all_weight body)

abbrev pub list_weight : List Statement → ℕ
list_weight [] = 0
list_weight (statement ∷ statements) = weight (shown_statement statement) + list_weight statements

abbrev pub arm_weight : Arm → ℕ
arm_weight arm = 2 + all_weight (shown_statements (out-Arm arm).body)

abbrev pub arm_list_weight : List Arm → ℕ
arm_list_weight [] = 0
arm_list_weight (arm ∷ arms) = arm_weight arm + arm_list_weight arms

abbrev pub todo_weight : Todo → ℕ
todo_weight (Fetches list) = 3 * length list.items
todo_weight (statements_left list) = list_weight list.items

abbrev pub todos_weight : List Todo → ℕ
todos_weight [] = 0
todos_weight (todo ∷ todos) = (1 + todo_weight todo) + todos_weight todos

abbrev pub place_weight : Place → ℕ
place_weight Ready = 1
place_weight (Wanting fetch) = 3
place_weight (Supplied fetch bytes) = 3
place_weight (Placing line name bytes) = 2
place_weight (Doing line what) = 3
place_weight (Waiting line process) = 2
place_weight (Testing arms other) = 3 + (arm_list_weight arms.items + all_weight (shown_statements other))
place_weight (Asking arm arms other) = 2 + (arm_weight arm + (arm_list_weight arms.items + all_weight (shown_statements other)))
place_weight Done = 0
place_weight (Failed line midway cause) = 0

abbrev pub around_weight : Run → ℕ
around_weight run = todo_weight run.current + todos_weight run.later.items

abbrev pub run_weight : Run → ℕ
run_weight run = place_weight run.place + around_weight run
