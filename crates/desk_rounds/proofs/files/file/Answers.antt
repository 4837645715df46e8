use Rattle.std.proofs.Common.{Err, Ok, refl}
use Rattle.desk_rounds.proofs.files.file.Goals as goal

pub returns-in-Ok : goal.returns-in-Ok
returns-in-Ok g c = (Ok c.in-Ok.came, c.in-Ok.ensures, (c.given_of.ensures, refl))

pub returns-in-Err : goal.returns-in-Err
returns-in-Err g c = (Err c.in-Err.miss, c.in-Err.ensures, c.not_given.ensures)
