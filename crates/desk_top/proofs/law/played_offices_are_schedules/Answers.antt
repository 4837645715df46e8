use Rattle.desk_top.proofs.law.played_offices_are_schedules.Goals as goal

pub returns : goal.returns
returns c = c.played_offices_are_schedules.ensures
