-- What the test of an arm is to a run, before lists that are kept elsewhere.
use Rattle.std.proofs.Common.{◌≡◌, ◌≢◌, ℕ, ◌+◌, Bool, true, List, [], ◌∷◌, sym, ap, subst, ◌∙◌, arith}
use Rattle.std.specs.Prelude.{if◌then◌else◌}
use Rattle.bf_machine.specs.Views.{MachineView}
use Rattle.rel_sources.specs.declared.scene.Scene.{Scene}
use Rattle.rel_eval.specs.declared.told.Truth.{Truth}
use Rattle.rel_eval.specs.declared.told.Truth.TheVariants as truth
use Rattle.script_text.specs.declared.tree.Arm.{Arm, out-Arm}
use Rattle.script_text.specs.declared.tree.StatementList.{StatementList}
use Rattle.script_text.specs.declared.tree.Statement.{Statement}
use Rattle.script_text.specs.Views.{shown_statements, statement_items}
use Rattle.script_run.specs.declared.place.Place.{Place}
use Rattle.script_run.specs.declared.place.Place.TheVariants.{Ready}
use Rattle.script_run.specs.declared.todo.Todo.{Todo}
use Rattle.script_run.specs.Walks.{Known, Settled, judged, Walk, Rest, after_truth}
use Rattle.script_run.specs.ScriptWalks.{walk_all}
use Rattle.script_run.specs.Asking.{when_of, known_in, JudgesOn}
use Rattle.script_run.specs.RunSteps.{Any}
use Rattle.script_run.specs.RunPlaces.{statements_walk, arm_walk, arms_walk, todo_walk, todos_walk, place_walk}
use Rattle.script_run.specs.Weights.{all_weight, list_weight, todo_weight, todos_weight, place_weight}
use Rattle.script_run.specs.Fills.{Reaches}
use Rattle.script_run.proofs.Chains.{reach_one}
use Rattle.script_run.proofs.Moves.{ready_walk}
use Rattle.script_run.proofs.Trees.{StatementsShowEach, walk_statements, weight_statements}

-- what arms do, and what an arm before them does
abbrev pub choosing : Todo → List Todo → List Arm → StatementList → Rest
choosing current later arms other = arms_walk arms (todo_walk current (todos_walk later)) (walk_all (shown_statements other) (todo_walk current (todos_walk later)))

abbrev pub asked : Todo → List Todo → Arm → List Arm → StatementList → Rest
asked current later arm arms other = arm_walk arm (todo_walk current (todos_walk later)) (choosing current later arms other)

pub choosing_same : (current : Todo) (old new : List Todo) (arms : List Arm) (other : StatementList) (known : Known) (more : List Settled) → new ≡ old →
    choosing current old arms other known more ≡ choosing current new arms other known more
choosing_same current old new arms other known more e = ap (λ l. choosing current l arms other known more) (sym e)

pub asked_same : (current : Todo) (old new : List Todo) (arm : Arm) (arms : List Arm) (other : StatementList) (known : Known) (more : List Settled) → new ≡ old →
    asked current old arm arms other known more ≡ asked current new arm arms other known more
asked_same current old new arm arms other known more e = ap (λ l. asked current l arm arms other known more) (sym e)

-- the first of some arms
pub choosing_first : (current : Todo) (old new : List Todo) (arm : Arm) (all arms : List Arm) (other : StatementList) (known : Known) (more : List Settled) → new ≡ old → all ≡ arm ∷ arms →
    choosing current old all other known more ≡ asked current new arm arms other known more
choosing_first current old new arm all arms other known more e is =
    choosing_same current old new all other known more e ∙ ap (λ l. choosing current new l other known more) is

-- no arms
pub choosing_none : (current : Todo) (old new : List Todo) (all : List Arm) (other : StatementList) (known : Known) (more : List Settled) → new ≡ old → all ≡ [] →
    choosing current old all other known more ≡ walk_all (shown_statements other) (todo_walk current (todos_walk new)) known more
choosing_none current old new all other known more e is =
    choosing_same current old new all other known more e ∙ ap (λ l. choosing current new l other known more) is

-- what comes after the answer of an arm's test
abbrev pub after_arm : Arm → Rest → Rest → Truth → Rest
after_arm arm rest other = after_truth (out-Arm arm).line (walk_all (shown_statements (out-Arm arm).body) rest) other

-- the answer by its name
pub judged_as : (scene : Scene) (test : List ℕ) (old : MachineView) (x answer : Truth) (new : MachineView) → x ≡ answer → JudgesOn scene test old x new → JudgesOn scene test old answer new
judged_as scene test old x answer new is j = let P : Truth → Type 0 = λ a. JudgesOn scene test old a new in subst P is j

-- an answer that is a result
pub arm_reaches : (scene : Scene) (arm : Arm) (rest other : Rest) (old : MachineView) (x answer : Truth) (new : MachineView) (left : Walk) → x ≡ answer → answer ≢ truth.Memory →
    JudgesOn scene (out-Arm arm).test old x new → ((more : List Settled) → after_arm arm rest other answer (known_in scene) more ≡ left more) →
    Reaches Any (when_of scene) old (arm_walk arm rest other (known_in scene)) new left
arm_reaches scene arm rest other old x answer new left is ample j same =
    reach_one Any (when_of scene) old (arm_walk arm rest other (known_in scene)) (judged answer) new left tt (ample, judged_as scene (out-Arm arm).test old x answer new is j) same

-- ---- a body that comes first
pub pushed_first : {T : Type 0} (b : Bool) (value : T) (old new : List T) → new ≡ (if b then value ∷ old else old) → b ≡ true → new ≡ value ∷ old
pushed_first b value old new e ok = e ∙ ap (λ (c : Bool). if c then value ∷ old else old) ok

pub entered_walk : StatementsShowEach → (place : Place) (current value dest : Todo) (items : List Statement) (later new : List Todo) (body : StatementList) (known : Known) (more : List Settled) →
    place ≡ Ready → ((rest : Rest) → todo_walk dest rest ≡ statements_walk items rest) → items ≡ statement_items body → new ≡ value ∷ later → value ≡ current →
    walk_all (shown_statements body) (todo_walk current (todos_walk later)) known more ≡ place_walk place (todo_walk dest (todos_walk new)) known more
entered_walk show_each place current value dest items later new body known more ready d e is v =
    ap (λ (r : Rest). r known more) (walk_statements show_each body items (todo_walk current (todos_walk later)) e)
    ∙ ap (λ t. statements_walk items (todo_walk t (todos_walk later)) known more) (sym v)
    ∙ ap (λ l. statements_walk items (todos_walk l) known more) (sym is)
    ∙ ap (λ (r : Rest). r known more) (sym (d (todos_walk new)))
    ∙ ready_walk place (todo_walk dest (todos_walk new)) known more ready

pub entered_weight : StatementsShowEach → (place : Place) (current value dest : Todo) (items : List Statement) (later new : List Todo) (body : StatementList) →
    place ≡ Ready → todo_weight dest ≡ list_weight items → items ≡ statement_items body → new ≡ value ∷ later → value ≡ current →
    place_weight place + (todo_weight dest + todos_weight new) ≡ 2 + (all_weight (shown_statements body) + (todo_weight current + todos_weight later))
entered_weight show_each place current value dest items later new body ready d e is v =
    let p : place_weight place ≡ 1 = ap place_weight ready in
    let b : list_weight items ≡ all_weight (shown_statements body) = weight_statements show_each body items e in
    let l : todos_weight new ≡ (1 + todo_weight value) + todos_weight later = ap todos_weight is in
    let w : todo_weight value ≡ todo_weight current = ap todo_weight v in
    omega (arith, p, d, b, l, w)
