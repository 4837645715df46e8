use Rattle.site_check.proofs.Judging.{located_is_judged}
use Rattle.site_check.proofs.piece_check.unprepared.Goals as goal

pub returns : goal.returns
returns c = λ text h. located_is_judged text c.args.refusal.now c.in-Some.found c.in-Some.ensures h
