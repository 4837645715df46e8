use Rattle.bf_machine.proofs.Alike.{done-alike}
use Rattle.bf_machine.proofs.Answering.{steps-alike}
use Rattle.bf_machine.proofs.laws.commands_are_answered_alike.Goals as goal

pub returns-clause-one : goal.returns-clause-one
returns-clause-one c = λ moment w other command p. let alike = done-alike w other command moment p in (alike.answer, alike.same)

pub returns-clause-all : goal.returns-clause-all
returns-clause-all c = λ moment old new steps w other is p steady all. steps-alike moment old new steps w other is p steady all
