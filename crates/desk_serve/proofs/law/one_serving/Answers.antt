use Rattle.desk_serve.proofs.Once.{served_once}
use Rattle.desk_serve.proofs.law.one_serving.Goals as goal

pub returns : goal.returns
returns c = served_once (record { route = c.one_route.ensures; heard = c.what_is_heard_is_one_thing.ensures; meaning = c.one_meaning.ensures; keeper = c.a_keeper_fault_was_counted.ensures })
