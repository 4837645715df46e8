use Rattle.desk_base.proofs.Flowing.{AppendsSome-front}
use Rattle.rel_session.proofs.halt.put.Goals as goal

pub returns-in-Failed-clause-written : goal.returns-in-Failed-clause-written
returns-in-Failed-clause-written g c = AppendsSome-front _ _ _ c.in-Failed.ensures.puts
