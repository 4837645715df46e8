use Rattle.rel_inspect.specs.Facets.{offered}
use Rattle.rel_inspect.proofs.Tuples.{offer-sound}
use Rattle.rel_inspect.proofs.begin.begun.Goals as goal

pub part-requires : goal.part-requires
part-requires c = offer-sound (offered c.args.object) c.parts_in.result c.requires.object c.parts_in.ensures
