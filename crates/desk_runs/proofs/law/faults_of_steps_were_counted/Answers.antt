use Rattle.desk_runs.proofs.CountingAnswers.{faults_counted}
use Rattle.desk_runs.proofs.CountingFaults.{attempts_counted}
use Rattle.desk_runs.proofs.CountingLines.{broken_counted, steps_counted}
use Rattle.desk_runs.proofs.CountingRuns.{lines_counted}
use Rattle.desk_runs.proofs.law.faults_of_steps_were_counted.Goals as goal

pub returns-clause-relay : goal.returns-clause-relay
returns-clause-relay c = steps_counted

pub returns-clause-agent : goal.returns-clause-agent
returns-clause-agent c = lines_counted

pub returns-clause-answers : goal.returns-clause-answers
returns-clause-answers c = faults_counted

pub returns-clause-broken : goal.returns-clause-broken
returns-clause-broken c = broken_counted

pub returns-clause-attempts : goal.returns-clause-attempts
returns-clause-attempts c = attempts_counted c.told_faults_are_counted.ensures
