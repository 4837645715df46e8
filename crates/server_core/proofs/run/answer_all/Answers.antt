use Rattle.std.proofs.Common.{arith, ◌<◌, length, List, subst, sym}
use Rattle.server_text.specs.declared.request.Request.{Request}
use Rattle.server_core.specs.CallAnswers.{CountsReplies}
use Rattle.server_core.proofs.Running.{counts_push, ran_more}
use Rattle.server_core.proofs.run.answer_all.Goals as goal

pub loop-request-preserved : goal.loop-request-preserved
loop-request-preserved g c =
    let all : List Request = c.args.requests.now in
    let within : c.loop-request.request-index < length all = search (arith, c.loop-request-test.true) in
    record {
      answers = λ accepted told.
          ran_more c.args.server.now.limits accepted all c.loop-request.request-index c.request-item.result c.request-item.result c.loop-request.replies c.push.new.self c.answer.result (g.K.Keeper.told c.loop-request.keeper).rows (g.K.Keeper.told c.answer.new.keeper).rows
          within c.request-item.is c.in_ok-push.ensures.ok (c.loop-request.invariant.answers accepted told) c.answer.ensures.answers;
      counts = subst (λ replies. CountsReplies replies (g.K.Keeper.told c.args.keeper.now).faults (g.K.Keeper.told c.answer.new.keeper).faults) (sym c.in_ok-push.ensures.ok)
          (counts_push c.loop-request.replies c.answer.result _ _ _ c.loop-request.invariant.counts c.answer.ensures.counts);
      later = omega (arith, c.loop-request.invariant.later, c.answer.ensures.counts.later);
    }
