use Rattle.office_rules.proofs.PrintedAlike.{printed_as_answered, worlds_alike}
use Rattle.office_rules.proofs.law.commands_are_printed_as_answered.Goals as goal

pub returns-clause-worlds : goal.returns-clause-worlds
returns-clause-worlds c = λ orders written o played.
    worlds_alike c.a_turn_acts_step_by_step.ensures c.commands_are_answered_alike.ensures.all orders written o played

pub returns-clause-lines : goal.returns-clause-lines
returns-clause-lines c = λ name moment accepted sites old said new alike turns.
    printed_as_answered c.a_turn_acts_step_by_step.ensures c.commands_are_answered_alike.ensures.all name moment accepted sites old said new
    alike turns
