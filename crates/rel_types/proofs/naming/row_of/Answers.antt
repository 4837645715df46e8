use Rattle.rel_types.proofs.Tables.{found_property, found_aggregate}
use Rattle.rel_types.proofs.naming.row_of.Goals as goal

pub returns-in-Some : goal.returns-in-Some
returns-in-Some c = found_property c.args.words.now c.args.argument c.args.object c.properties.result.now c.first_row.result c.in-Some.row c.properties.ensures c.in-Some.is c.first_row.ensures

pub returns-in-None : goal.returns-in-None
returns-in-None c = found_aggregate c.args.words.now c.args.argument c.args.object c.properties.result.now c.aggregates.result.now c.first_row.result c.first_row-in-None.result c.properties.ensures c.aggregates.ensures c.in-None.is c.first_row.ensures c.first_row-in-None.ensures
