use Rattle.server_core.proofs.Accepting.{tables_are_rows}
use Rattle.server_core.proofs.law.the_tables_are_rows.Goals as goal

pub returns : goal.returns
returns c = tables_are_rows
