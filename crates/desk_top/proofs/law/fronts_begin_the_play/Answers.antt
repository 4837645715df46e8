use Rattle.desk_top.proofs.law.fronts_begin_the_play.Goals as goal

pub returns : goal.returns
returns c = c.fronts_begin_the_play.ensures
