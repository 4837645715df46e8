use Rattle.office_play.proofs.Mails.{never_bad_pocket}
use Rattle.office_play.proofs.restarting.opened.Goals as goal

pub unreachable-requires : goal.unreachable-requires
unreachable-requires c =
    never_bad_pocket c.pockets_keep_own_texts.ensures.opened c.args.name.now c.args.pocket.now c.open.new.pocket c.open.result c.requires.pocket c.open.ensures.opens
    c.in-BadPocket.is
