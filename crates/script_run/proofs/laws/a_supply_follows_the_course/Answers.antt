use Rattle.script_run.proofs.Following.{supply_follows}
use Rattle.script_run.proofs.laws.a_supply_follows_the_course.Goals as goal

pub returns : goal.returns
returns c = supply_follows
