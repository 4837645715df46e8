use Rattle.rel_kinds.proofs.Running.{aggregates-run}
use Rattle.rel_kinds.proofs.tables.aggregates_have_outcomes.Goals as goal

pub returns : goal.returns
returns c = aggregates-run
