use Rattle.std.proofs.Common.{refl}
use Rattle.std.proofs.lemmas.Result.{err_from_is_err_and}
use Rattle.rel_session.proofs.Answering.{Stops-Says, over, pauses, tells_page}
use Rattle.rel_session.proofs.session.Session.tell.Goals as goal

pub returns-in-Ok-Nothing-clause-said : goal.returns-in-Ok-Nothing-clause-said
returns-in-Ok-Nothing-clause-said g c =
    let told = c.in-Ok-Nothing.ensures.told in
    (_, tells_page _ _ _ _ told.0 _ _ c.room_of.ensures told.1 (over _ _ _ _ _ c.in-Ok-Nothing.field-0-is told.2.0), told.2.1)

pub returns-in_ok-pause-in-Ok-More-clause-said : goal.returns-in_ok-pause-in-Ok-More-clause-said
returns-in_ok-pause-in-Ok-More-clause-said g c =
    let told = c.in-Ok-More.ensures.told in
    (_, tells_page _ _ _ _ told.0 _ _ c.room_of.ensures told.1 (pauses _ _ _ _ _ _ _ c.in-Ok-More.field-0-is told.2.0 c.in-Ok-More.ensures.span (c.in_ok-pause-in-Ok-More.ensures.paused _)), told.2.1)

pub returns-in_err-pause-in-Ok-More-clause-said : goal.returns-in_err-pause-in-Ok-More-clause-said
returns-in_err-pause-in-Ok-More-clause-said g c =
    let told = c.in-Ok-More.ensures.told in
    let p = err_from_is_err_and c.from_residual.result c.from_residual.ensures.1 in
    rw p.1 (_, _, tells_page _ _ _ _ told.0 _ _ c.room_of.ensures told.1 refl, Stops-Says _ _ _ told.2.1)

pub returns-in-Err-clause-said : goal.returns-in-Err-clause-said
returns-in-Err-clause-said g c =
    let told = c.in-Err.ensures.told in
    (_, _, tells_page _ _ _ _ told.0 _ _ c.room_of.ensures told.1 refl, told.2)
