use Rattle.script_run.proofs.Following.{advance_follows}
use Rattle.script_run.proofs.laws.an_advance_follows_the_course.Goals as goal

pub returns : goal.returns
returns c = advance_follows
