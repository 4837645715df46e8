-- What lookups in the code's lists answer. Only the code's contracts cite these definitions.
use Rattle.std.specs.Prelude.{◌≡◌, ◌≢◌, ◌==◌, ◌<◌, ℕ, List, [], ◌∷◌, length, All, MatchOption, Option, Some, None, Result, Ok, Err, ⊤, option_copied}
use Rattle.std.specs.List.{HoldsAt, find}
use Rattle.act_rules.specs.declared.row.Row.{Row}
use Rattle.act_rules.specs.Rows.{RowsState}
use Rattle.act_rules.specs.Tallies.{StandsFor}
use Rattle.fix_site.specs.declared.action.Action.{Action}
use Rattle.fix_site.specs.declared.site.Site.{Site}
use Rattle.agent_text.specs.Histories.{PlainHistory, rows_at}
use Rattle.agent_attempt.specs.ActionContents.{site_at}
use Rattle.agent_state.specs.declared.tallies.ActionTally.{ActionTally}
use denote.Ref.{Bor}

-- the site of this name, if it is gathered
abbrev pub FindsSite : List ℕ → List Site → Option (Bor Site) → Type 0
FindsSite name sites answer = MatchOption answer (site_at name sites ≡ None) (λ found. site_at name sites ≡ Some found.now)

-- the tally of an action, if it has one
abbrev pub FindsTally : ℕ → List ActionTally → Option (Bor ActionTally) → Type 0
FindsTally id tallies answer = option_copied answer ≡ find (λ (tally : ActionTally). tally.action == id) tallies

-- the place of the tally of an action, or that it has none
abbrev pub PlacesTally : ℕ → List ActionTally → Result ℕ ℕ → Type 0
PlacesTally id tallies (Ok place) = (place < length tallies) × HoldsAt (λ tally. tally.action ≡ id) tallies place
PlacesTally id tallies (Err place) = All (λ tally. tally.action ≢ id) tallies

-- the tallies are those of these actions, in their order, and each stands for the rows of its action
abbrev pub TalliesStand : List ActionTally → List Action → List PlainHistory → Type 0
TalliesStand [] [] hs = ⊤
TalliesStand [] (action ∷ actions) hs = ⊥
TalliesStand (tally ∷ tallies) [] hs = ⊥
TalliesStand (tally ∷ tallies) (action ∷ actions) hs =
    (tally.action ≡ action.id) × (tally.retries ≡ action.rules.retries)
    × StandsFor tally.tally action.rules.retries (rows_at action.id hs) × TalliesStand tallies actions hs

-- each of the tallies stands for the rows of its action
abbrev pub AllStand : List ActionTally → List PlainHistory → Type 0
AllStand tallies hs = All (λ tally. StandsFor tally.tally tally.retries (rows_at tally.action hs)) tallies

-- the rows of an action, none where there are none
abbrev pub rows_if : Option (Bor RowsState) → List Row
rows_if None = []
rows_if (Some rows) = rows.now.rows
