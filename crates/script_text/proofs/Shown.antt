-- What a tree shows that is made of parts.
use Rattle.std.proofs.Common.{◌≡◌, ℕ, List, [], ◌∷◌, ◌++◌, map, refl, sym, ap, ◌∙◌}
use Rattle.std.proofs.lemmas.List.{map-append}
use Rattle.script_text.specs.declared.line.Line.{Line}
use Rattle.script_text.specs.declared.tree.Statement.{Statement}
use Rattle.script_text.specs.declared.tree.Statement.TheVariants.{Do, If, rolls-Do, rolls-If}
use Rattle.script_text.specs.declared.tree.Statement.TheOpen.{StatementList-F, ArmList-F}
use Rattle.script_text.specs.declared.tree.Statement.TheOpen as layer
use Rattle.script_text.specs.declared.tree.Arm.{Arm}
use Rattle.script_text.specs.declared.tree.StatementList.{StatementList, roll-StatementList, out-StatementList}
use Rattle.script_text.specs.declared.tree.ArmList.{ArmList, roll-ArmList, out-ArmList}
use Rattle.script_text.specs.declared.tree.Statement.TheFolds.{fold-roll-Statement, fold-roll-StatementList, fold-roll-ArmList, fold_out-StatementList, fold_out-ArmList}
use Rattle.script_text.specs.Trees.{PlainStatement, act, choice, Statements, no_statements, more_statements, Arms, no_arms, more_arms, PlainArm}
use Rattle.script_text.specs.Views.{listed, armed, statement_step, arm_step, statements_step, arms_step, shown_statement, shown_arm, shown_statements, shown_arms}

pub shown-Do : (n : ℕ) (l : Line) → shown_statement (Do n l) ≡ act n l
shown-Do n l = ap shown_statement (sym (rolls-Do n l)) ∙ fold-roll-Statement PlainStatement PlainArm Arms Statements statement_step arm_step arms_step statements_step (layer.Do n l)

pub shown-If : (a : ArmList) (s : StatementList) → shown_statement (If a s) ≡ choice (shown_arms a) (shown_statements s)
shown-If a s = ap shown_statement (sym (rolls-If a s)) ∙ fold-roll-Statement PlainStatement PlainArm Arms Statements statement_step arm_step arms_step statements_step (layer.If a s)

listed-push : (l : Statements) (xs : List PlainStatement) (x : PlainStatement) → listed l (xs ++ (x ∷ [])) ≡ more_statements (listed l xs) x
listed-push l [] x = refl
listed-push l (y ∷ ys) x = listed-push (more_statements l y) ys x

armed-push : (l : Arms) (xs : List PlainArm) (x : PlainArm) → armed l (xs ++ (x ∷ [])) ≡ more_arms (armed l xs) x.line x.test x.body
armed-push l [] x = refl
armed-push l (y ∷ ys) x = armed-push (more_arms l y.line y.test y.body) ys x

pub statements-roll : (r : StatementList-F Statement Arm ArmList StatementList) → shown_statements (roll-StatementList r) ≡ listed no_statements (map shown_statement r.items.items)
statements-roll r = fold-roll-StatementList PlainStatement PlainArm Arms Statements statement_step arm_step arms_step statements_step r

pub statements-out : (l : StatementList) → shown_statements l ≡ listed no_statements (map shown_statement (out-StatementList l).items.items)
statements-out l = fold_out-StatementList PlainStatement PlainArm Arms Statements statement_step arm_step arms_step statements_step l

pub arms-roll : (r : ArmList-F Statement Arm ArmList StatementList) → shown_arms (roll-ArmList r) ≡ armed no_arms (map shown_arm r.items.items)
arms-roll r = fold-roll-ArmList PlainStatement PlainArm Arms Statements statement_step arm_step arms_step statements_step r

pub arms-out : (l : ArmList) → shown_arms l ≡ armed no_arms (map shown_arm (out-ArmList l).items.items)
arms-out l = fold_out-ArmList PlainStatement PlainArm Arms Statements statement_step arm_step arms_step statements_step l

pub statements-pushed : (l : StatementList) (r : StatementList-F Statement Arm ArmList StatementList) (x : Statement) → r.items.items ≡ (out-StatementList l).items.items ++ (x ∷ []) → shown_statements (roll-StatementList r) ≡ more_statements (shown_statements l) (shown_statement x)
statements-pushed l r x e =
    statements-roll r
    ∙ ap (λ xs. listed no_statements (map shown_statement xs)) e
    ∙ ap (listed no_statements) (map-append shown_statement (out-StatementList l).items.items (x ∷ []))
    ∙ listed-push no_statements (map shown_statement (out-StatementList l).items.items) (shown_statement x)
    ∙ ap (λ k. more_statements k (shown_statement x)) (sym (statements-out l))

pub arms-pushed : (l : ArmList) (r : ArmList-F Statement Arm ArmList StatementList) (x : Arm) → r.items.items ≡ (out-ArmList l).items.items ++ (x ∷ []) → shown_arms (roll-ArmList r) ≡ more_arms (shown_arms l) (shown_arm x).line (shown_arm x).test (shown_arm x).body
arms-pushed l r x e =
    arms-roll r
    ∙ ap (λ xs. armed no_arms (map shown_arm xs)) e
    ∙ ap (armed no_arms) (map-append shown_arm (out-ArmList l).items.items (x ∷ []))
    ∙ armed-push no_arms (map shown_arm (out-ArmList l).items.items) (shown_arm x)
    ∙ ap (λ k. more_arms k (shown_arm x).line (shown_arm x).test (shown_arm x).body) (sym (arms-out l))
