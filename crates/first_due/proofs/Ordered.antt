-- The gathered actions stand in ascending order of ids.
use Rattle.std.proofs.Common.{ℕ, ◌<◌, List, [], ◌∷◌, ◌++◌, Some, None}
use Rattle.std.specs.declared.option.Option.{Option}
use Rattle.std.specs.Prelude.{All, IfSome, codes}
use Rattle.std.specs.List.{filter_map}
use Rattle.std.specs.Str.{bytes_eq}
use Rattle.std.proofs.lemmas.Bool.{cond_both}
use Rattle.std.proofs.lemmas.List.Elements.{All-cons, All-nil}
use Rattle.line_forms.proofs.Lasts.{Ascends, above_all, all_at, ascends, ascends_tail}
use Rattle.fix_site.specs.declared.action.Action.{Action}
use Rattle.fix_site.specs.declared.site.Site.{Site}
use Rattle.fix_site.specs.Sites.{IsSite}
use Rattle.agent_attempt.specs.ActionContents.{actions_of, as_action, site_actions, site_at}
use Rattle.agent_state.specs.States.{AreGathered}
use Rattle.agent_state.proofs.SiteActions.{action_id, ids_increase}

good_at : (name : List ℕ) (sites : List Site) → AreGathered sites → IfSome (site_at name sites) IsSite
good_at name [] are = tt
good_at name (site ∷ sites) are =
    cond_both (bytes_eq site.name name) (Some site) (site_at name sites) (λ o. IfSome o IsSite) (λ e. are.0) (λ e. good_at name sites are.2)

ascend_of : (site : Option Site) → IfSome site IsSite → Ascends action_id (site_actions site)
ascend_of None is = tt
ascend_of (Some site) is = ascends action_id (filter_map as_action site.blocks) (ids_increase site is)

pub actions_ascend : (sites : List Site) → AreGathered sites → Ascends action_id (actions_of sites)
actions_ascend sites are = ascend_of (site_at (codes "actionsite") sites) (good_at (codes "actionsite") sites are)

-- the ids on both sides of an action
pub ids_before : (before : List Action) (action : Action) (after : List Action) → Ascends action_id (before ++ action ∷ after) → All (λ other. other.id < action.id) before
ids_before [] action after up = All-nil (λ (other : Action). other.id < action.id)
ids_before (first ∷ before) action after up =
    All-cons (λ (other : Action). other.id < action.id) first before
    (all_at (λ (other : Action). first.id < other.id) before after action (above_all action_id first (before ++ action ∷ after) up))
    (ids_before before action after (ascends_tail action_id first (before ++ action ∷ after) up))

pub ids_after : (before : List Action) (action : Action) (after : List Action) → Ascends action_id (before ++ action ∷ after) → All (λ other. action.id < other.id) after
ids_after [] action after up = above_all action_id action after up
ids_after (first ∷ before) action after up = ids_after before action after (ascends_tail action_id first (before ++ action ∷ after) up)
