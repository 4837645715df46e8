use Rattle.session_tables.proofs.Paths.{has_path}
use Rattle.session_tables.proofs.laws.rows_with_paths_are_shown.Goals as goal

pub returns : goal.returns
returns c = has_path
