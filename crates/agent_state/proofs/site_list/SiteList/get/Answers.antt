use Rattle.std.proofs.Common.{subst, ◌∙◌}
use Rattle.agent_state.specs.Lookups.{FindsSite}
use Rattle.agent_state.proofs.SiteLists.{finds_site}
use Rattle.agent_state.proofs.site_list.SiteList.get.Goals as goal

pub returns : goal.returns
returns c =
    subst (λ l. FindsSite c.args.name.now l c.site_of.result) (c.as_slice.ensures.value ∙ c.self.view_is)
    (finds_site c.args.name.now c.as_slice.result.now c.site_of.result c.site_of.ensures)
