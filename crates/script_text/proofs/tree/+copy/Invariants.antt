use Rattle.std.proofs.Common.{◌≡◌, drop, map}
use Rattle.script_text.specs.Views.{armed, listed, shown_arm, shown_arms, shown_statement, shown_statements}
use Rattle.script_text.proofs.tree.+copy.Given as goal

-- with what is left, the copies are all
abbrev pub invariant-StatementList::copy-loop-statement : goal.invariant-StatementList::copy-loop-statement
invariant-StatementList::copy-loop-statement l = listed (shown_statements l.copies) (map shown_statement (drop l.statement-index l.statement-items)) ≡ shown_statements l.self

abbrev pub invariant-ArmList::copy-loop-arm : goal.invariant-ArmList::copy-loop-arm
invariant-ArmList::copy-loop-arm l = armed (shown_arms l.copies) (map shown_arm (drop l.arm-index l.arm-items)) ≡ shown_arms l.self
