use Rattle.std.proofs.Common.{◌∙◌, sym}
use Rattle.desk_rounds.proofs.Judging.{not_heard, says_nothing}
use Rattle.desk_rounds.proofs.replies.judged_in.Goals as goal

pub returns-in_default : goal.returns-in_default
returns-in_default c = says_nothing c.args.reply.now.body c.args.asker c.args.reply.now.status c.in_default.ensures

pub returns-then-not-may_hear : goal.returns-then-not-may_hear
returns-then-not-may_hear c =
    not_heard c.args.reply.now.body c.args.asker c.args.reply.now.status c.in-Some.judged c.in-Some.ensures
    (sym c.may_hear.ensures ∙ c.if-not-may_hear.true)
