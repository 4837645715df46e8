use Rattle.std.proofs.Common.{ℕ, List, subst}
use Rattle.std.specs.Prelude.{Err, Ok}
use Rattle.server_text.specs.declared.request.Request.TheVariants as request
use Rattle.server_text.specs.Entries.{Published}
use Rattle.server_text.specs.RequestTexts.{ReadsPublished, Tells}
use Rattle.server_core.proofs.Talking.{bad_publish, good_publish, takes_answers, told_line, unread_answers}
use Rattle.server_core.proofs.server.answer_publish.Goals as goal

pub returns-in-Ok : goal.returns-in-Ok
returns-in-Ok g c =
    let P : List ℕ → Type 0 = λ t. ReadsPublished t (Ok c.in-Ok.site) in
    takes_answers c.args.limits (request.Publish c.args.text.now) (Published c.in-Ok.site) (g.K.Keeper.told c.args.keeper.now) c.publish_site.result (g.K.Keeper.told c.publish_site.new.keeper)
    (good_publish c.args.text.now c.in-Ok.site (subst P c.as_slice.ensures c.in-Ok.ensures)) c.publish_site.ensures

pub returns-in-Err : goal.returns-in-Err
returns-in-Err g c =
    let P : List ℕ → Type 0 = λ t. Tells (ReadsPublished t) (Err c.in-Err.error) in
    unread_answers c.args.limits (request.Publish c.args.text.now) c.in-Err.error c.unread.result (g.K.Keeper.told c.args.keeper.now)
    (λ line is. bad_publish c.args.text.now line (told_line (ReadsPublished c.args.text.now) c.in-Err.error (subst P c.as_slice.ensures c.in-Err.ensures) line is)) c.unread.ensures
