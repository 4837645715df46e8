use Rattle.desk_rounds.proofs.Judging.{no_file}
use Rattle.desk_rounds.proofs.replies.file_in.Goals as goal

pub returns : goal.returns
returns c = no_file c.args.reply.status c.args.reply.body c.if-reply-eq200.false c.if-reply-eq404.false
