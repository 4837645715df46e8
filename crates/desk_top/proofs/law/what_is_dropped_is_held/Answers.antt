use Rattle.desk_top.proofs.law.what_is_dropped_is_held.Goals as goal

pub returns : goal.returns
returns c = c.what_is_dropped_is_held.ensures
