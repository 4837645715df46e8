-- The ids of gathered actions.
use Rattle.std.proofs.Common.{ℕ, List, [], ◌∷◌, Option, Some, None}
use Rattle.std.specs.Prelude.{All, IfSome, codes}
use Rattle.std.specs.Str.{bytes_eq}
use Rattle.std.proofs.lemmas.Bool.{cond_both}
use Rattle.std.proofs.lemmas.List.Elements.{All-nil}
use Rattle.line_forms.specs.Numbers.{IsId}
use Rattle.fix_site.specs.declared.action.Action.{Action}
use Rattle.fix_site.specs.declared.block.Block.TheVariants as block
use Rattle.fix_site.specs.declared.site.Site.{Site}
use Rattle.fix_site.specs.Sites.{IsSite}
use Rattle.agent_attempt.specs.ActionContents.{actions_of, site_actions, site_at}
use Rattle.agent_state.specs.States.{AreGathered}
use Rattle.agent_state.proofs.SiteActions.{all_actions}

gathered_at : (name : List ℕ) (sites : List Site) → AreGathered sites → IfSome (site_at name sites) IsSite
gathered_at name [] are = tt
gathered_at name (site ∷ sites) are =
    cond_both (bytes_eq site.name name) (Some site) (site_at name sites) (λ o. IfSome o IsSite) (λ e. are.0) (λ e. gathered_at name sites are.2)

ids_of : (site : Option Site) → IfSome site IsSite → All (λ (action : Action). IsId action.id) (site_actions site)
ids_of None is = All-nil (λ (action : Action). IsId action.id)
ids_of (Some site) is = all_actions (λ (action : Action). IsId action.id) site.blocks (λ before after action e. (is.blocks before after (block.Action action) e).good.id)

pub gathered_ids : (sites : List Site) → AreGathered sites → All (λ (action : Action). IsId action.id) (actions_of sites)
gathered_ids sites are = ids_of (site_at (codes "actionsite") sites) (gathered_at (codes "actionsite") sites are)
