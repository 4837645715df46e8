use Rattle.delivery.proofs.Carriers.{carried_alike, told_alike, verdict_alike}
use Rattle.delivery.proofs.law.a_relay_delivers_as_its_carrier.Goals as goal

pub returns-clause-verdict : goal.returns-clause-verdict
returns-clause-verdict c = verdict_alike

pub returns-clause-up : goal.returns-clause-up
returns-clause-up c = carried_alike

pub returns-clause-sent : goal.returns-clause-sent
returns-clause-sent c = told_alike
