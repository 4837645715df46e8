use Rattle.std.proofs.Common.{subst}
use Rattle.desk_rounds.specs.Listing.{ReadsVersions}
use Rattle.desk_rounds.proofs.Judging.{no_list, read_list}
use Rattle.desk_rounds.proofs.replies.sites_in.Goals as goal

pub returns-then-reply-ne200 : goal.returns-then-reply-ne200
returns-then-reply-ne200 c = no_list c.args.reply.now.status c.args.reply.now.body c.if-reply-ne200.true

pub returns : goal.returns
returns c =
    read_list c.args.reply.now.status c.args.reply.now.body c.read_versions.result c.if-reply-ne200.false
    (subst (λ t. ReadsVersions t c.read_versions.result) c.as_slice.ensures c.read_versions.ensures)
