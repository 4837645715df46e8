use Rattle.script_text.proofs.Shown.{shown-Do, shown-If}
use Rattle.script_text.proofs.law.a_statement_shows_its_parts.Goals as goal

pub returns-clause-line : goal.returns-clause-line
returns-clause-line c = shown-Do

pub returns-clause-choice : goal.returns-clause-choice
returns-clause-choice c = shown-If
