-- The walk through a list, however the list is kept, and its weight.
use Rattle.std.proofs.Common.{◌≡◌, ◌+◌, List, [], ◌∷◌, map, refl, sym, ap, ◌∙◌, arith}
use Rattle.script_text.specs.declared.tree.Statement.{Statement}
use Rattle.script_text.specs.declared.tree.Arm.{Arm, out-Arm}
use Rattle.script_text.specs.declared.tree.Statement.TheFolds.{fold_out-Arm}
use Rattle.script_text.specs.Trees.{PlainStatement, choice, Statements, no_statements, more_statements, Arms, no_arms, more_arms, PlainArm}
use Rattle.script_text.specs.declared.tree.Statement.TheVariants.{If}
use Rattle.script_text.specs.declared.tree.StatementList.{StatementList}
use Rattle.script_text.specs.declared.tree.ArmList.{ArmList}
use Rattle.script_text.specs.Views.{listed, armed, statement_step, arm_step, statements_step, arms_step, shown_statement, shown_arm, shown_statements, shown_arms, statement_items, arm_items}
use Rattle.script_run.specs.Walks.{Rest, testing}
use Rattle.script_run.specs.ScriptWalks.{walk, walk_all, walk_arms}
use Rattle.script_run.specs.RunPlaces.{statements_walk, arms_walk}
use Rattle.script_run.specs.Weights.{weight, all_weight, arms_weight, list_weight, arm_list_weight}

-- what script_text says of what lists and statements show, in its laws on them
abbrev pub StatementsShowEach : Type 0
StatementsShowEach = (list : StatementList) → shown_statements list ≡ listed no_statements (map shown_statement (statement_items list))

abbrev pub ArmsShowEach : Type 0
ArmsShowEach = (list : ArmList) → shown_arms list ≡ armed no_arms (map shown_arm (arm_items list))

abbrev pub ChoicesShowParts : Type 0
ChoicesShowParts = (arms : ArmList) (other : StatementList) → shown_statement (If arms other) ≡ choice (shown_arms arms) (shown_statements other)

pub walk_listed : (l : Statements) (items : List Statement) (rest : Rest) → walk_all (listed l (map shown_statement items)) rest ≡ walk_all l (statements_walk items rest)
walk_listed l [] rest = refl
walk_listed l (s ∷ items) rest = walk_listed (more_statements l (shown_statement s)) items rest

pub weight_listed : (l : Statements) (items : List Statement) → all_weight (listed l (map shown_statement items)) ≡ all_weight l + list_weight items
weight_listed l [] = omega arith
weight_listed l (s ∷ items) =
    let e : all_weight (listed (more_statements l (shown_statement s)) (map shown_statement items)) ≡ (all_weight l + weight (shown_statement s)) + list_weight items = weight_listed (more_statements l (shown_statement s)) items in
    omega (arith, e)

-- an arm shows its line, its test and its body
pub arm_shows : (arm : Arm) → shown_arm arm ≡ record { line = (out-Arm arm).line; test = (out-Arm arm).test; body = shown_statements (out-Arm arm).body }
arm_shows arm = fold_out-Arm PlainStatement PlainArm Arms Statements statement_step arm_step arms_step statements_step arm

pub walk_armed : (l : Arms) (items : List Arm) (rest other : Rest) → walk_arms (armed l (map shown_arm items)) rest other ≡ walk_arms l rest (arms_walk items rest other)
walk_armed l [] rest other = refl
walk_armed l (a ∷ items) rest other =
    walk_armed (more_arms l (shown_arm a).line (shown_arm a).test (shown_arm a).body) items rest other
    ∙ ap (λ (p : PlainArm). walk_arms l rest (testing p.line p.test (walk_all p.body rest) (arms_walk items rest other))) (arm_shows a)

pub weight_armed : (l : Arms) (items : List Arm) → arms_weight (armed l (map shown_arm items)) ≡ arms_weight l + arm_list_weight items
weight_armed l [] = omega arith
weight_armed l (a ∷ items) =
    let e : arms_weight (armed (more_arms l (shown_arm a).line (shown_arm a).test (shown_arm a).body) (map shown_arm items)) ≡ (arms_weight l + (2 + all_weight (shown_arm a).body)) + arm_list_weight items =
    weight_armed (more_arms l (shown_arm a).line (shown_arm a).test (shown_arm a).body) items in
    let f : all_weight (shown_arm a).body ≡ all_weight (shown_statements (out-Arm a).body) = ap (λ (p : PlainArm). all_weight p.body) (arm_shows a) in
    omega (arith, e, f)

-- what the statements of a list do
pub walk_statements : StatementsShowEach → (l : StatementList) (items : List Statement) (rest : Rest) → items ≡ statement_items l → walk_all (shown_statements l) rest ≡ statements_walk items rest
walk_statements show_each l items rest e =
    ap (λ s. walk_all s rest) (show_each l) ∙ walk_listed no_statements (statement_items l) rest ∙ ap (λ xs. statements_walk xs rest) (sym e)

pub weight_statements : StatementsShowEach → (l : StatementList) (items : List Statement) → items ≡ statement_items l → list_weight items ≡ all_weight (shown_statements l)
weight_statements show_each l items e =
    let w : all_weight (listed no_statements (map shown_statement (statement_items l))) ≡ 0 + list_weight (statement_items l) = weight_listed no_statements (statement_items l) in
    ap list_weight e ∙ omega (arith, w) ∙ sym (ap all_weight (show_each l))

-- a statement that is an `if`
pub walk_if : ArmsShowEach → ChoicesShowParts → (statement : Statement) (arms : ArmList) (other : StatementList) (items : List Arm) (rest : Rest) → statement ≡ If arms other → items ≡ arm_items arms →
    walk (shown_statement statement) rest ≡ arms_walk items rest (walk_all (shown_statements other) rest)
walk_if show_each shows_parts statement arms other items rest is e =
    ap (λ s. walk (shown_statement s) rest) is
    ∙ ap (λ s. walk s rest) (shows_parts arms other)
    ∙ ap (λ a. walk_arms a rest (walk_all (shown_statements other) rest)) (show_each arms)
    ∙ walk_armed no_arms (arm_items arms) rest (walk_all (shown_statements other) rest)
    ∙ ap (λ l. arms_walk l rest (walk_all (shown_statements other) rest)) (sym e)

pub weight_if : ArmsShowEach → ChoicesShowParts → (statement : Statement) (arms : ArmList) (other : StatementList) (items : List Arm) → statement ≡ If arms other → items ≡ arm_items arms →
    3 + (arm_list_weight items + all_weight (shown_statements other)) ≡ weight (shown_statement statement)
weight_if show_each shows_parts statement arms other items is e =
    let w : arms_weight (armed no_arms (map shown_arm (arm_items arms))) ≡ 0 + arm_list_weight (arm_items arms) = weight_armed no_arms (arm_items arms) in
    let a : arms_weight (shown_arms arms) ≡ arms_weight (armed no_arms (map shown_arm (arm_items arms))) = ap arms_weight (show_each arms) in
    let i : arm_list_weight items ≡ arm_list_weight (arm_items arms) = ap arm_list_weight e in
    let s : weight (shown_statement statement) ≡ 3 + (arms_weight (shown_arms arms) + all_weight (shown_statements other)) =
    ap (λ x. weight (shown_statement x)) is ∙ ap weight (shows_parts arms other) in
    omega (arith, w, a, i, s)
