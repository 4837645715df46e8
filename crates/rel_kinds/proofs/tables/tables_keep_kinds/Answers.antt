use Rattle.rel_kinds.proofs.Rows.{properties-keep, aggregates-keep, numbered-keeps}
use Rattle.rel_kinds.proofs.tables.tables_keep_kinds.Goals as goal

pub returns-clause-properties : goal.returns-clause-properties
returns-clause-properties c = properties-keep

pub returns-clause-aggregates : goal.returns-clause-aggregates
returns-clause-aggregates c = aggregates-keep

pub returns-clause-item : goal.returns-clause-item
returns-clause-item c = numbered-keeps
