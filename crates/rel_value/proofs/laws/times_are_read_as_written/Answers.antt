use Rattle.rel_value.proofs.OneMoment.{read-as-written, one-moment}
use Rattle.rel_value.proofs.laws.times_are_read_as_written.Goals as goal

pub returns-clause-read : goal.returns-clause-read
returns-clause-read c = read-as-written

pub returns-clause-one : goal.returns-clause-one
returns-clause-one c = λ text m n o p hm hn ho hp e f. one-moment text m o n p (hm, ho, e) (hn, hp, f)
