use Rattle.std.proofs.Common.{[], inl, refl, arith, rules, SFits, w64}
use Rattle.std.proofs.lemmas.Int.{to_z-of_z}
use Rattle.std.proofs.lemmas.Result.{err_from_is_err_and}
use Rattle.rel_session.proofs.Answering.{Unwritten-refl, said_dated}
use Rattle.rel_session.proofs.session.Session.ask.Goals as goal

pub returns-in_err-moment-clause-said : goal.returns-in_err-moment-clause-said
returns-in_err-moment-clause-said g c =
    let p = err_from_is_err_and c.from_residual.result c.from_residual.ensures.1 in
    rw p.1 (record { moments = []; few = omega arith; dated = c.in_err-moment.ensures.dated; front = inl (Unwritten-refl _ _ _ _) })

pub returns-clause-said : goal.returns-clause-said
returns-clause-said g c =
    let fits : SFits w64 c.in_ok-moment.moment = search rules in
    said_dated c.answer.result _ _ _ _ _ _ _ _ _ (omega arith) c.in_ok-moment.ensures.dated (λ run s answers. (_, refl, answers)) (simp to_z-of_z at c.answer.ensures.said)
