use Rattle.rel_kinds.proofs.Taking.{properties-take}
use Rattle.rel_kinds.proofs.tables.properties_take_what_they_ask_for.Goals as goal

pub returns : goal.returns
returns c = properties-take
