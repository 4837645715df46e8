use Rattle.std.proofs.Common.{ℕ, List, subst}
use Rattle.std.specs.Prelude.{Err, Ok}
use Rattle.server_text.specs.declared.request.Request.TheVariants as request
use Rattle.server_text.specs.Entries.{Reported}
use Rattle.server_text.specs.RequestTexts.{ReadsReported, Tells}
use Rattle.server_core.proofs.Talking.{bad_report, good_report, takes_answers, told_line, unread_answers}
use Rattle.server_core.proofs.server.answer_report.Goals as goal

pub returns-in-Ok : goal.returns-in-Ok
returns-in-Ok g c =
    let P : List ℕ → Type 0 = λ t. ReadsReported t (Ok c.in-Ok.report) in
    takes_answers c.args.limits (request.Report c.args.text.now) (Reported c.in-Ok.report) (g.K.Keeper.told c.args.keeper.now) c.keep_report.result (g.K.Keeper.told c.keep_report.new.keeper)
    (good_report c.args.text.now c.in-Ok.report (subst P c.as_slice.ensures c.in-Ok.ensures)) c.keep_report.ensures

pub returns-in-Err : goal.returns-in-Err
returns-in-Err g c =
    let P : List ℕ → Type 0 = λ t. Tells (ReadsReported t) (Err c.in-Err.error) in
    unread_answers c.args.limits (request.Report c.args.text.now) c.in-Err.error c.unread.result (g.K.Keeper.told c.args.keeper.now)
    (λ line is. bad_report c.args.text.now line (told_line (ReadsReported c.args.text.now) c.in-Err.error (subst P c.as_slice.ensures c.in-Err.ensures) line is)) c.unread.ensures
