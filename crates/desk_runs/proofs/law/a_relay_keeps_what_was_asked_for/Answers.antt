use Rattle.desk_runs.proofs.KeepingFiles.{keeps_files}
use Rattle.desk_runs.proofs.law.a_relay_keeps_what_was_asked_for.Goals as goal

pub returns : goal.returns
returns c = λ room old new run has runs. let whole = keeps_files room old new run has runs in (whole.0, whole.1)
