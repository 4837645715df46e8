use Rattle.desk_rounds.proofs.Judging.{no_status}
use Rattle.desk_rounds.proofs.replies.said_of.Goals as goal

pub returns : goal.returns
returns c = no_status c.args.reply.now.body c.args.reply.now.status c.if-reply-eq200.false c.if-reply-eq409.false c.if-reply-eq507.false
