-- What a tree of the code shows.
use Rattle.std.specs.Prelude.{List, [], ◌∷◌}
use Rattle.script_text.specs.declared.tree.Statement.{Statement}
use Rattle.script_text.specs.declared.tree.Arm.{Arm}
use Rattle.script_text.specs.declared.tree.StatementList.{StatementList, out-StatementList}
use Rattle.script_text.specs.declared.tree.ArmList.{ArmList, out-ArmList}
use Rattle.script_text.specs.declared.tree.Statement.TheOpen.{Statement-F, Do, If, Arm-F, StatementList-F, ArmList-F}
use Rattle.script_text.specs.declared.tree.Statement.TheFolds.{fold-Statement, fold-Arm, fold-StatementList, fold-ArmList}
use Rattle.script_text.specs.Trees.{PlainStatement, act, choice, Statements, no_statements, more_statements, Arms, no_arms, more_arms, PlainArm}

abbrev pub listed : Statements → List PlainStatement → Statements
listed l [] = l
listed l (x ∷ xs) = listed (more_statements l x) xs

abbrev pub armed : Arms → List PlainArm → Arms
armed l [] = l
armed l (x ∷ xs) = armed (more_arms l x.line x.test x.body) xs

abbrev pub statement_step : Statement-F PlainStatement PlainArm Arms Statements → PlainStatement
statement_step (Do n l) = act n l
statement_step (If arms other) = choice arms other

abbrev pub arm_step : Arm-F PlainStatement PlainArm Arms Statements → PlainArm
arm_step a = record { line = a.line; test = a.test; body = a.body }

abbrev pub statements_step : StatementList-F PlainStatement PlainArm Arms Statements → Statements
statements_step l = listed no_statements l.items.items

abbrev pub arms_step : ArmList-F PlainStatement PlainArm Arms Statements → Arms
arms_step l = armed no_arms l.items.items

abbrev pub shown_statement : Statement → PlainStatement
shown_statement = fold-Statement PlainStatement PlainArm Arms Statements statement_step arm_step arms_step statements_step

abbrev pub shown_arm : Arm → PlainArm
shown_arm = fold-Arm PlainStatement PlainArm Arms Statements statement_step arm_step arms_step statements_step

abbrev pub shown_statements : StatementList → Statements
shown_statements = fold-StatementList PlainStatement PlainArm Arms Statements statement_step arm_step arms_step statements_step

abbrev pub shown_arms : ArmList → Arms
shown_arms = fold-ArmList PlainStatement PlainArm Arms Statements statement_step arm_step arms_step statements_step

-- the statements of a list, and the arms of one
abbrev pub statement_items : StatementList → List Statement
statement_items l = (out-StatementList l).items.items

abbrev pub arm_items : ArmList → List Arm
arm_items l = (out-ArmList l).items.items
