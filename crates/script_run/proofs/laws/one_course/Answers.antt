use Rattle.script_run.proofs.OneCourse.{courses_are_one}
use Rattle.script_run.proofs.laws.one_course.Goals as goal

pub returns : goal.returns
returns c = courses_are_one
