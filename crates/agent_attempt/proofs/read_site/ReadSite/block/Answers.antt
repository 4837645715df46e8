use Rattle.std.proofs.Common.{subst}
use Rattle.fix_site.specs.declared.site.Site.{Site}
use Rattle.agent_attempt.specs.FoundContents.{FindsBlock}
use Rattle.agent_attempt.proofs.read_site.ReadSite.block.Goals as goal

pub returns : goal.returns
returns c = subst (λ (s : Site). FindsBlock c.args.id s.blocks c.get.result) c.self.view_is c.get.ensures
