-- KeptState that stay sound with other histories, for which the same tallies stand.
use Rattle.std.proofs.Common.{ℕ, ◌≡◌, List, [], ◌∷◌, ◌++◌, Bool, true, false, cond, refl, sym, ap, subst, ◌∙◌, eqb, append-nil}
use Rattle.std.specs.declared.option.Option.{Option}
use Rattle.std.specs.Prelude.{is_some, None}
use Rattle.std.specs.Option.{option_map}
use Rattle.std.proofs.lemmas.Bool.{eqb-true, eq-eqb}
use Rattle.std.proofs.lemmas.List.Elements.{filter-append}
use Rattle.act_rules.specs.declared.row.Row.{Row}
use Rattle.act_rules.specs.declared.tally.Tally.{Tally}
use Rattle.act_rules.specs.Tallies.{Counts, StandsFor, ended_rows}
use Rattle.fix_site.specs.declared.action.Action.{Action}
use Rattle.agent_text.specs.Histories.{AreHistories, PlainHistory, rows_at, with_begun}
use Rattle.agent_attempt.specs.Stages.{AttemptState, shown_attempt}
use Rattle.agent_core.specs.declared.kept_state.KeptState.{KeptState}
use Rattle.agent_state.specs.declared.tallies.ActionTally.{ActionTally}
use Rattle.agent_core.specs.Inside.{IsSoundKept}
use Rattle.agent_state.specs.Lookups.{TalliesStand}
use Rattle.agent_state.specs.States.{HeldRuns}
use Rattle.agent_core.specs.Steps.{AreMarked}
use Rattle.agent_core.proofs.MarkedRows.{rows_marked, stands_marked}
use Rattle.agent_state.proofs.RowsAt.{rows_here, rows_other}

-- what stands for the rows of an action stands for its rows in other histories
abbrev pub GoStanding : List PlainHistory → List PlainHistory → Type 0
GoStanding hs others = (action : ℕ) (tally : Tally) (retries : ℕ) → StandsFor tally retries (rows_at action hs) → StandsFor tally retries (rows_at action others)

pub standing_then : (hs others more : List PlainHistory) → GoStanding hs others → GoStanding others more → GoStanding hs more
standing_then hs others more go next action tally retries stands = next action tally retries (go action tally retries stands)

-- ---- marks
pub standing_marked : (hs marked : List PlainHistory) → AreMarked hs marked → GoStanding hs marked
standing_marked hs marked same action tally retries stands = stands_marked tally retries (rows_at action hs) (rows_at action marked) (rows_marked action hs marked same) stands

pub standing_unmarked : (hs marked : List PlainHistory) → AreMarked hs marked → GoStanding marked hs
standing_unmarked hs marked same = standing_marked marked hs (sym same)

-- ---- a row that runs
running_ends : (rows : List Row) (row : Row) → row.end ≡ None → ended_rows (rows ++ row ∷ []) ≡ ended_rows rows
running_ends rows row runs =
    filter-append (λ (x : Row). is_some x.end) rows (row ∷ []) ∙ ap (λ b. ended_rows rows ++ cond (is_some b) (row ∷ []) []) runs ∙ append-nil (ended_rows rows)

begun_ends : (action : ℕ) (row : Row) (hs : List PlainHistory) (other : ℕ) → row.end ≡ None → ended_rows (rows_at other (with_begun action row hs)) ≡ ended_rows (rows_at other hs)
begun_ends action row hs other runs = by_id (eqb other action) refl
  where
    begun : PlainHistory
    begun = record { action = action; rows = rows_at action hs ++ row ∷ []; pending = true }

    by_id : (b : Bool) → eqb other action ≡ b → ended_rows (rows_at other (with_begun action row hs)) ≡ ended_rows (rows_at other hs)
    by_id true e =
        subst (λ a. ended_rows (rows_at a (with_begun action row hs)) ≡ ended_rows (rows_at a hs)) (sym (eqb-true other action e))
        (ap ended_rows (rows_here begun hs) ∙ running_ends (rows_at action hs) row runs)
    by_id false e = ap ended_rows (rows_other begun hs other (λ is. let so : eqb other action ≡ true = eq-eqb other action is in cc))

pub standing_begun : (action : ℕ) (row : Row) (hs : List PlainHistory) → row.end ≡ None → GoStanding hs (with_begun action row hs)
standing_begun action row hs runs other tally retries stands = subst (λ l. Counts tally retries l) (sym (begun_ends action row hs other runs)) stands

pub standing_unbegun : (action : ℕ) (row : Row) (hs : List PlainHistory) → row.end ≡ None → GoStanding (with_begun action row hs) hs
standing_unbegun action row hs runs other tally retries stands = subst (λ l. Counts tally retries l) (begun_ends action row hs other runs) stands

-- from the histories with the row of a beginning back to those before the marks
pub standing_back : (old marked now : List PlainHistory) (action : ℕ) (row : Row) → row.end ≡ None → now ≡ with_begun action row marked → AreMarked old marked → GoStanding now old
standing_back old marked now action row runs is same =
    subst (λ hs. GoStanding hs old) (sym is) (standing_then (with_begun action row marked) marked old (standing_unbegun action row marked runs) (standing_unmarked old marked same))

-- ---- parts
tallies_stand : (tallies : List ActionTally) (actions : List Action) (hs others : List PlainHistory) → GoStanding hs others → TalliesStand tallies actions hs → TalliesStand tallies actions others
tallies_stand [] [] hs others go stand = tt
tallies_stand [] (action ∷ actions) hs others go stand = absurd stand
tallies_stand (tally ∷ tallies) [] hs others go stand = absurd stand
tallies_stand (tally ∷ tallies) (action ∷ actions) hs others go stand =
    (stand.0, stand.1, go action.id tally.tally action.rules.retries stand.2, tallies_stand tallies actions hs others go stand.3)

pub sound_with : (a : KeptState) (hs : List PlainHistory) → AreHistories hs → a.held ≡ None → GoStanding a.histories hs → IsSoundKept a → IsSoundKept (record a { histories = hs })
sound_with a hs good none go is = record {
  sound = record {
    saved = record { computer = is.sound.saved.computer; next = is.sound.saved.next; histories = good; reports = is.sound.saved.reports };
    shown = is.sound.shown;
    held = subst (λ (o : Option AttemptState). HeldRuns (option_map shown_attempt o) hs) (sym none) tt;
    sites = is.sound.sites;
  };
  tallies = tallies_stand a.tallies _ a.histories hs go is.tallies;
}
