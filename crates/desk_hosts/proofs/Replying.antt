-- A server's reply to the request of a route.
use Rattle.std.proofs.Common.{◌≡◌, List, true, refl, subst}
use Rattle.desk_base.specs.Counts.{CountsFaults}
use Rattle.desk_keep.specs.Views.{KeeperView}
use Rattle.server_text.specs.declared.request.Request.{Request}
use Rattle.server_text.specs.declared.reply.Reply.{Reply}
use Rattle.server_text.specs.declared.reply.Reply.TheVariants as reply
use Rattle.server_text.specs.Entries.{Entry}
use Rattle.server_core.specs.declared.limits.Limits.{Limits}
use Rattle.server_core.specs.CallAnswers.{Answers, AreTables, TellsBad, is_fault}
use Rattle.http_replies.specs.declared.answer.Answer.TheVariants as answer
use Rattle.desk_hosts.specs.ServerCalls.{AnswersRequest, RepliesTo}

-- the server was asked this request, which is that of the route
pub replied : (limits : Limits) (old new : KeeperView) (asked other : Request) (answered : Reply) → other ≡ asked
    → ((accepted : List Entry) → AreTables old.rows accepted → (later : List Entry) × Answers limits accepted other answered later × AreTables new.rows later)
    → TellsBad other answered → (is_fault answered ≡ true → new.rows ≡ old.rows) → CountsFaults (answered ≡ reply.KeeperFault) old.faults new.faults
    → AnswersRequest (record { limits = limits; keeper = old }) asked (answer.Reply answered) (record { limits = limits; keeper = new })
replied limits old new asked other answered same answers bad unchanged counts =
    let P : Request → Type 0 = λ r. RepliesTo limits old r answered new in
    (answered, refl, subst P same (record { answers = answers; bad = bad; unchanged = unchanged; counts = counts }), refl)
