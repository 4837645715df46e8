use Rattle.std.proofs.Common.{◌≡◌, List, ℕ, ◌++◌, ap, subst, ◌∙◌}
use Rattle.std.specs.Prelude.{Err}
use Rattle.std.proofs.KnownBytes.{Keeps-refl}
use Rattle.std.proofs.lemmas.Result.{err_from_is_err_and}
use Rattle.office_rules.specs.Endings.{ending_text}
use Rattle.office_play.specs.Kept.{office_of}
use Rattle.office_play.specs.Plays.{WritesOr}
use Rattle.office_play.specs.States.{kept_of}
use Rattle.office_play.proofs.Playing.{failed_never, memory_counts, memory_never}
use Rattle.office_play.proofs.play.play_end.Goals as goal

pub returns-clause-writes : goal.returns-clause-writes
returns-clause-writes g c accepted are =
    let text : List ℕ = ending_text (office_of accepted (kept_of c.args.office.now)) in
    let said : c.say_end.new.out ≡ text = c.in_ok-say_end.ensures accepted are ∙ ap (λ (out : List ℕ). out ++ text) c.new-out.ensures in
    subst (λ (piece : List ℕ). WritesOr piece (g.W.Sink.told c.args.sink.now).held c.written.result (g.W.Sink.told c.written.new.sink).held) said
    c.written.ensures.writes

pub returns-clause-counts : goal.returns-clause-counts
returns-clause-counts g c = c.written.ensures.counts

pub returns-clause-never : goal.returns-clause-never
returns-clause-never g c = failed_never c.written.result c.written.ensures.only

pub returns-in_err-say_end-clause-writes : goal.returns-in_err-say_end-clause-writes
returns-in_err-say_end-clause-writes g c accepted are =
    let p = err_from_is_err_and c.from_residual.result c.from_residual.ensures.1 in
    rw (p.1, p.2) (Keeps-refl (g.W.Sink.told c.args.sink.now).held)

pub returns-in_err-say_end-clause-counts : goal.returns-in_err-say_end-clause-counts
returns-in_err-say_end-clause-counts g c =
    let p = err_from_is_err_and c.from_residual.result c.from_residual.ensures.1 in
    memory_counts c.from_residual.result (g.W.Sink.told c.args.sink.now).faults (p.1 ∙ ap Err p.2)

pub returns-in_err-say_end-clause-never : goal.returns-in_err-say_end-clause-never
returns-in_err-say_end-clause-never g c =
    let p = err_from_is_err_and c.from_residual.result c.from_residual.ensures.1 in
    memory_never c.from_residual.result (p.1 ∙ ap Err p.2)
