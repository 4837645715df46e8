use Rattle.desk_serve.proofs.Counting.{served_counted}
use Rattle.desk_serve.proofs.law.what_ends_serving_was_counted.Goals as goal

pub returns : goal.returns
returns c = served_counted c.a_keeper_fault_was_counted.ensures
