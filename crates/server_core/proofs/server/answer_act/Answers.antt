use Rattle.std.proofs.Common.{ℕ, List, subst}
use Rattle.std.specs.Prelude.{Err, Ok}
use Rattle.server_text.specs.declared.request.Request.TheVariants as request
use Rattle.server_text.specs.Entries.{Issued}
use Rattle.server_text.specs.RequestTexts.{ReadsIssued, Tells}
use Rattle.server_core.proofs.Talking.{bad_act, good_act, takes_answers, told_line, unread_answers}
use Rattle.server_core.proofs.server.answer_act.Goals as goal

pub returns-in-Ok : goal.returns-in-Ok
returns-in-Ok g c =
    let P : List ℕ → Type 0 = λ t. ReadsIssued t (Ok c.in-Ok.action) in
    takes_answers c.args.limits (request.Act c.args.text.now) (Issued c.in-Ok.action) (g.K.Keeper.told c.args.keeper.now) c.issue_action.result (g.K.Keeper.told c.issue_action.new.keeper)
    (good_act c.args.text.now c.in-Ok.action (subst P c.as_slice.ensures c.in-Ok.ensures)) c.issue_action.ensures

pub returns-in-Err : goal.returns-in-Err
returns-in-Err g c =
    let P : List ℕ → Type 0 = λ t. Tells (ReadsIssued t) (Err c.in-Err.error) in
    unread_answers c.args.limits (request.Act c.args.text.now) c.in-Err.error c.unread.result (g.K.Keeper.told c.args.keeper.now)
    (λ line is. bad_act c.args.text.now line (told_line (ReadsIssued c.args.text.now) c.in-Err.error (subst P c.as_slice.ensures c.in-Err.ensures) line is)) c.unread.ensures
