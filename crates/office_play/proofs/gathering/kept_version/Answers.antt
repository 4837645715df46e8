use Rattle.std.proofs.Common.{sym}
use Rattle.office_play.proofs.Gathers.{kept_told, none_told}
use Rattle.office_play.proofs.gathering.kept_version.Goals as goal

pub returns-in-New : goal.returns-in-New
returns-in-New c = sym (kept_told c.args.relay.now.sites c.args.name.now c.in-New.site.now c.requires c.in-New.ensures.0)

pub returns-in-Same : goal.returns-in-Same
returns-in-Same c = sym (none_told c.args.relay.now.sites c.args.name.now c.requires c.in-Same.ensures)
