use Rattle.std.proofs.Common.{ap}
use Rattle.std.specs.Option.{option_and_then}
use Rattle.agent_attempt.specs.ReadBlocks.{shown_block}
use Rattle.agent_attempt.specs.ActionContents.{as_fixlet}
use Rattle.agent_attempt.proofs.Lookups.{finds_fixlet}
use Rattle.agent_attempt.proofs.read_site.ReadSite.fixlet.Goals as goal

pub returns-in-Some : goal.returns-in-Some
returns-in-Some c = finds_fixlet c.args.id c.args.self.now.blocks (shown_block c.in-Some.block.now) c.as_fixlet.result c.in-Some.ensures c.as_fixlet.ensures

pub returns-in-None : goal.returns-in-None
returns-in-None c = ap (option_and_then as_fixlet) c.in-None.ensures
