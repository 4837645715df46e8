use Rattle.std.proofs.Common.{List, ℕ, ap, subst, ◌∙◌}
use Rattle.std.specs.Prelude.{Ok, Err, OnOk, Result}
use Rattle.std.proofs.KnownBytes.{Keeps-refl}
use Rattle.std.proofs.lemmas.Result.{err_from_is_err_and}
use Rattle.office_rules.specs.Plays.{Obeys}
use Rattle.office_play.specs.Played.{Did}
use Rattle.office_play.specs.States.{kept_of}
use Rattle.office_play.proofs.Playing.{failed_never, memory_counts, memory_never, wrote_order}
use Rattle.office_play.proofs.play.play_order.Goals as goal

-- what is known holds where a write ends well
known_ok : {T E P : Type 0} (answer : Result T E) → P → OnOk answer P
known_ok (Ok done) p = p
known_ok (Err e) p = tt

pub obey-requires : goal.obey-requires
obey-requires g c =
    record { good = c.requires.good; accepted = c.requires.accepted; order = c.requires.order; names = c.requires.names }

pub returns-in_err-obey-clause-plays : goal.returns-in_err-obey-clause-plays
returns-in_err-obey-clause-plays g c accepted are =
    let p = err_from_is_err_and c.from_residual.result c.from_residual.ensures.1 in
    rw (p.1, p.2) (Keeps-refl (g.W.Sink.told c.args.sink.now).held)

pub returns-in_err-obey-clause-counts : goal.returns-in_err-obey-clause-counts
returns-in_err-obey-clause-counts g c =
    let p = err_from_is_err_and c.from_residual.result c.from_residual.ensures.1 in
    memory_counts c.from_residual.result (g.W.Sink.told c.args.sink.now).faults (p.1 ∙ ap Err p.2)

pub returns-in_err-obey-clause-never : goal.returns-in_err-obey-clause-never
returns-in_err-obey-clause-never g c =
    let p = err_from_is_err_and c.from_residual.result c.from_residual.ensures.1 in
    memory_never c.from_residual.result (p.1 ∙ ap Err p.2)

pub returns-clause-plays : goal.returns-clause-plays
returns-clause-plays g c accepted are =
    wrote_order c.args.order accepted (kept_of c.args.office.now) (g.W.Sink.told c.args.sink.now).held c.written.result (kept_of c.obey.new.self)
    (g.W.Sink.told c.written.new.sink).held c.obey.new.out
    (subst (λ (out : List ℕ). Did (Obeys c.args.order) accepted (kept_of c.args.office.now) out (kept_of c.obey.new.self) c.obey.new.out) c.new-out.ensures
    (c.in_ok-obey.ensures.plays accepted are))
    c.written.ensures.writes c.written.ensures.only

pub returns-clause-names : goal.returns-clause-names
returns-clause-names g c = known_ok c.written.result c.in_ok-obey.ensures.names

pub returns-clause-counts : goal.returns-clause-counts
returns-clause-counts g c = c.written.ensures.counts

pub returns-clause-never : goal.returns-clause-never
returns-clause-never g c = failed_never c.written.result c.written.ensures.only
