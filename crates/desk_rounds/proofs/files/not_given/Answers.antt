use Rattle.std.proofs.Common.{refl}
use Rattle.desk_rounds.proofs.AgentParts.{given_missed}
use Rattle.desk_rounds.proofs.files.not_given.Goals as goal

pub returns-in_default : goal.returns-in_default
returns-in_default c = given_missed c.args.miss _ _ c.in_default.not-Memory refl
