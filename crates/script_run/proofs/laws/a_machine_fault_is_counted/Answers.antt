use Rattle.script_run.specs.ScriptWalks.{given_known}
use Rattle.script_run.proofs.Counted.{fault_counted, supply_counted, unmarked_never}
use Rattle.script_run.proofs.Faults.{script_begins}
use Rattle.script_run.proofs.laws.a_machine_fault_is_counted.Goals as goal

pub returns-clause-counted : goal.returns-clause-counted
returns-clause-counted c = fault_counted

pub returns-clause-begins : goal.returns-clause-begins
returns-clause-begins c = λ script given line midway. script_begins script (given_known given) line midway

pub returns-clause-supplies : goal.returns-clause-supplies
returns-clause-supplies c = supply_counted

pub returns-clause-midway : goal.returns-clause-midway
returns-clause-midway c = unmarked_never
