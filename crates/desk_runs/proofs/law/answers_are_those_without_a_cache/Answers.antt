use Rattle.desk_runs.proofs.KeepingFiles.{answers_alike}
use Rattle.desk_runs.proofs.law.answers_are_those_without_a_cache.Goals as goal

pub returns : goal.returns
returns c = λ upstream room earlier calls old new asks all.
    answers_alike upstream c.a_steady_upstream_gives_it_again.ensures room earlier calls old new asks all
