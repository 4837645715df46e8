use Rattle.desk_top.proofs.law.one_play.Goals as goal

pub returns : goal.returns
returns c = c.one_play.ensures
