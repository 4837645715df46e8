use Rattle.rel_session.proofs.OneRun.{runs_once}
use Rattle.rel_session.proofs.laws.one_run.Goals as goal

pub returns : goal.returns
returns g c = runs_once g.R.Reader.reads g.met.R.Reader.one_reading
