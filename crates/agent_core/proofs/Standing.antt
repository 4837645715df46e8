-- Tallies that stand for the rows of their actions.
use Rattle.std.proofs.Common.{ℕ, ◌≡◌, List, [], ◌∷◌, sym, subst}
use Rattle.act_rules.specs.declared.row.Row.{Row}
use Rattle.act_rules.specs.Tallies.{StandsFor}
use Rattle.fix_site.specs.declared.action.Action.{Action}
use Rattle.agent_text.specs.Histories.{PlainHistory, rows_at}
use Rattle.agent_state.specs.declared.tallies.ActionTally.{ActionTally}
use Rattle.agent_state.specs.Lookups.{TalliesStand}

-- they stand for other histories with the same rows
pub stand_alike : (tallies : List ActionTally) (actions : List Action) (hs other : List PlainHistory) → ((action : ℕ) → rows_at action other ≡ rows_at action hs) → TalliesStand tallies actions hs → TalliesStand tallies actions other
stand_alike [] [] hs other same stand = tt
stand_alike [] (action ∷ actions) hs other same stand = absurd stand
stand_alike (tally ∷ tallies) [] hs other same stand = absurd stand
stand_alike (tally ∷ tallies) (action ∷ actions) hs other same stand =
    (stand.0, stand.1, subst (λ (rows : List Row). StandsFor tally.tally action.rules.retries rows) (sym (same action.id)) stand.2, stand_alike tallies actions hs other same stand.3)
