use Rattle.desk_serve.proofs.Counting.{door_broke, talks_counted}
use Rattle.desk_serve.proofs.law.faults_of_conversations_were_counted.Goals as goal

pub returns-clause-whole : goal.returns-clause-whole
returns-clause-whole c = talks_counted c.a_keeper_fault_was_counted.ensures

pub returns-clause-broken : goal.returns-clause-broken
returns-clause-broken c = door_broke c.a_keeper_fault_was_counted.ensures
