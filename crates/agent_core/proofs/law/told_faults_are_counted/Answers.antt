use Rattle.std.proofs.Common.{true}
use Rattle.agent_core.proofs.Counting.{ScriptFaults, opened_counts}
use Rattle.agent_core.proofs.law.told_faults_are_counted.Goals as goal

pub returns : goal.returns
returns c = λ calls computer told agent old new answers opens same done.
    let law = c.a_machine_fault_is_counted.ensures in
    let faults : ScriptFaults = record {
      counted = law.counted;
      begins = λ script given line. law.begins script given line true;
      files = λ script given settled wanting digest bytes line. law.supplies script given settled wanting digest bytes line true;
    } in
    opened_counts faults calls computer told agent old new answers opens same done
