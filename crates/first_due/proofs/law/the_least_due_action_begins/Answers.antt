use Rattle.first_due.proofs.Beginning.{turn_promises}
use Rattle.first_due.proofs.law.the_least_due_action_begins.Goals as goal

pub returns : goal.returns
returns c at s s2 d d2 answer id sound turn says = (turn_promises at s d answer s2 d2 sound turn).begun id says
