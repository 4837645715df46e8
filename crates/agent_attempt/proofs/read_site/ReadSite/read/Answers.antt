use Rattle.std.proofs.Common.{sym, ap, subst}
use Rattle.fix_site.specs.declared.site.Site.{Site}
use Rattle.fix_site.specs.Blocks.{AreBlocks}
use Rattle.agent_attempt.proofs.Lookups.{blocks_good}
use Rattle.agent_attempt.proofs.read_site.ReadSite.read.Goals as goal

pub read-requires : goal.read-requires
read-requires c =
    let name = c.args.site.now.name in
    blocks_good name c.in_ok-name.field-0.blocks (subst (AreBlocks name) (sym (ap (λ (s : Site). s.blocks) c.in_ok-name.ensures)) c.requires.blocks)
