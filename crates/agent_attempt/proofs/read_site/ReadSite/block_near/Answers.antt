use Rattle.std.proofs.Common.{sym, ap, subst, ◌∙◌}
use Rattle.fix_site.specs.declared.site.Site.{Site}
use Rattle.fix_site.specs.Blocks.{AreBlocks}
use Rattle.agent_attempt.proofs.Lookups.{finds_near}
use Rattle.agent_attempt.proofs.read_site.ReadSite.block_near.Goals as goal

pub returns : goal.returns
returns c =
    let item = c.in-Some.ensures.lookup in
    finds_near c.args.id c.args.self.now.name c.args.self.now.blocks c.as_slice.result.now c.args.place c.in-Some.block (c.as_slice.ensures ∙ ap (λ (s : Site). s.blocks) c.self.view_is)
    (subst (λ (s : Site). AreBlocks s.name s.blocks) c.self.view_is c.self.invariant.blocks) item.3.0 item.1 (sym c.id.ensures ∙ c.if-id.true)
