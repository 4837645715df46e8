-- The tallies of actions. Other crates may cite these lemmas.
use Rattle.std.proofs.Common.{ℕ, zero, suc, ◌≡◌, ◌<◌, ◌≤◌, ◌≢◌, List, [], ◌∷◌, ◌++◌, length, get_or, set, map, Bool, true, false, cond, eqb, refl, sym, ap, subst, ◌∙◌, arith, Some, None, Result, Ok, Err, inl, inr, ◌⊎◌, tests}
use Rattle.std.specs.declared.option.Option.{Option}
use Rattle.std.specs.Prelude.{All}
use Rattle.std.specs.List.{find}
use Rattle.std.specs.List.Sorted.{IsBinarySearchResult, IsNonDecreasingBy, IsSearchInRange}
use Rattle.std.specs.Option.{option_map}
use Rattle.std.specs.Ordering.{nat_cmp, ordering_index}
use Rattle.std.proofs.lemmas.Bool.{cases_eq, cases_lt, cond-false, cond-true, eq-eqb, eqb-true, ne_eqb}
use Rattle.std.proofs.lemmas.Cmp.{ranked}
use Rattle.std.proofs.lemmas.List.{map-set, set-get_or}
use Rattle.std.proofs.lemmas.Option.{same_Some}
use Rattle.std.proofs.lemmas.List.Elements.{All-cons, All-head, All-nil, All-tail, All-weaker}
use Rattle.act_rules.specs.declared.row.Row.{Row}
use Rattle.act_rules.specs.declared.tally.Tally.{Tally}
use Rattle.act_rules.specs.Tallies.{StandsFor}
use Rattle.fix_site.specs.declared.action.Action.{Action}
use Rattle.agent_text.specs.Histories.{PlainHistory, rows_at}
use Rattle.agent_state.specs.declared.tallies.ActionTally.{ActionTally}
use Rattle.agent_state.specs.Changes.{TalliesRows}
use Rattle.agent_state.specs.States.{State}
use Rattle.agent_state.specs.Lookups.{AllStand, PlacesTally, TalliesStand}
use Rattle.line_forms.proofs.Rising.{Rises, rises_head, rises_tail}

abbrev pub id_of : ActionTally → ℕ
id_of tally = tally.action

pub stands_same : (tally other : Tally) (retries under : ℕ) (rows same : List Row) → tally ≡ other → retries ≡ under → rows ≡ same → StandsFor tally retries rows → StandsFor other under same
stands_same tally other retries under rows same e f g stands = subst (λ (x : Tally × ℕ × List Row). StandsFor x.0 x.1 x.2) (λ j. (e j, f j, g j)) stands

-- ---- the tally of an id
-- a search by ids ends at the tally of the action, or there is none
pub places_tally : (id : ℕ) (ts : List ActionTally) (r : Result ℕ ℕ) → Rises id_of ts → IsSearchInRange r (length ts) → IsBinarySearchResult (λ t. nat_cmp (id_of t) id) ts r
    → PlacesTally id ts r
places_tally id ts (Ok i) up inside found = (inside, λ d. ranked (get_or ts i d).action id _ (sym (found d)))
places_tally id ts (Err i) up inside parted = λ k d within is.
    let climbs : IsNonDecreasingBy (λ t. ordering_index (nat_cmp (id_of t) id)) ts = λ j k d le within. rises_to j k d le within (cases_eq j k) in
    let sides = parted climbs in
    elim (cases_lt k i) [
      | inl low ↦ let lt : (get_or ts k d).action < id = ranked (get_or ts k d).action id _ (sym (sides.0 k d (omega arith) low)) in omega (arith, lt, is)
      | inr high ↦ let gt : id < (get_or ts k d).action = ranked (get_or ts k d).action id _ (sym (sides.1 k d high within)) in omega (arith, gt, is)
    ]
  where
    index_rises : (a b : ℕ) → a ≤ b → ordering_index (nat_cmp a id) ≤ ordering_index (nat_cmp b id)
    index_rises a b le = grind (arith, tests)

    rises_to : (j k : ℕ) (d : ActionTally) → j ≤ k → k < length ts → (j ≡ k) ⊎ ¬ (j ≡ k) → ordering_index (nat_cmp (get_or ts j d).action id) ≤ ordering_index (nat_cmp (get_or ts k d).action id)
    rises_to j k d le within (inl e) = rw e (omega arith)
    rises_to j k d le within (inr apart) =
        let lt : (get_or ts j d).action < (get_or ts k d).action = up j k d (omega arith) within in
        index_rises (get_or ts j d).action (get_or ts k d).action (omega (arith, lt))

-- the first tally of an id is the only one
pub finds_there : (id i : ℕ) (ts : List ActionTally) (t : ActionTally) → Rises id_of ts → i < length ts → t ≡ get_or ts i t → t.action ≡ id
    → Some t ≡ find (λ (x : ActionTally). eqb x.action id) ts
finds_there id i [] t up inside at is = absurd (omega arith)
finds_there id zero (x ∷ ts) t up inside at is =
    let here : x.action ≡ id = ap id_of (sym at) ∙ is in
    ap Some at ∙ sym (cond-true (eqb x.action id) (Some x) _ (eq-eqb x.action id here))
finds_there id (suc i) (x ∷ ts) t up inside at is =
    let below : x.action < (get_or ts i t).action = rises_head id_of x ts up i t (omega arith) in
    let there : (get_or ts i t).action ≡ id = ap id_of (sym at) ∙ is in
    finds_there id i ts t (rises_tail id_of x ts up) (omega arith) at is
    ∙ sym (cond-false (eqb x.action id) (Some x) _ (ne_eqb x.action id (λ e. omega (arith, below, there, e))))

pub finds_none : (id : ℕ) (ts : List ActionTally) → All (λ (t : ActionTally). t.action ≢ id) ts → None ≡ find (λ (t : ActionTally). eqb t.action id) ts
finds_none id [] others = refl
finds_none id (x ∷ ts) others =
    finds_none id ts (All-tail (λ (t : ActionTally). t.action ≢ id) x ts others)
    ∙ sym (cond-false (eqb x.action id) (Some x) _ (ne_eqb x.action id (All-head (λ (t : ActionTally). t.action ≢ id) x ts others)))

-- one that is found stands for the rows of its action
pub found_stands : (id : ℕ) (ts : List ActionTally) (hs : List PlainHistory) (t : ActionTally) → AllStand ts hs → Some t ≡ find (λ (x : ActionTally). eqb x.action id) ts
    → StandsFor t.tally t.retries (rows_at id hs)
found_stands id [] hs t all e = absurd (cc)
found_stands id (x ∷ ts) hs t all e = by_id (eqb x.action id) refl (λ later. found_stands id ts hs t (All-tail (λ (x : ActionTally). StandsFor x.tally x.retries (rows_at x.action hs)) x ts all) later)
  where
    by_id : (b : Bool) → eqb x.action id ≡ b → (Some t ≡ find (λ (x : ActionTally). eqb x.action id) ts → StandsFor t.tally t.retries (rows_at id hs)) → StandsFor t.tally t.retries (rows_at id hs)
    by_id true is next =
        let same : x ≡ t = same_Some x t (sym (cond-true (eqb x.action id) (Some x) (find (λ (x : ActionTally). eqb x.action id) ts) is) ∙ sym e) in
        stands_same x.tally t.tally x.retries t.retries (rows_at x.action hs) (rows_at id hs) (ap (λ (x : ActionTally). x.tally) same) (ap (λ (x : ActionTally). x.retries) same)
        (ap (λ a. rows_at a hs) (eqb-true x.action id is)) (All-head (λ (x : ActionTally). StandsFor x.tally x.retries (rows_at x.action hs)) x ts all)
    by_id false is next = next (e ∙ cond-false (eqb x.action id) (Some x) (find (λ (x : ActionTally). eqb x.action id) ts) is)

-- ---- tallies and the actions that they are of
abbrev action_id : Action → ℕ
action_id action = action.id

pub same_ids : (ts : List ActionTally) (actions : List Action) (hs : List PlainHistory) → TalliesStand ts actions hs → map id_of ts ≡ map action_id actions
same_ids [] [] hs stand = refl
same_ids [] (action ∷ actions) hs stand = absurd stand
same_ids (t ∷ ts) [] hs stand = absurd stand
same_ids (t ∷ ts) (action ∷ actions) hs stand = λ j. stand.0 j ∷ same_ids ts actions hs stand.3 j

-- each stands by itself
pub all_stand : (ts : List ActionTally) (actions : List Action) (hs : List PlainHistory) → TalliesStand ts actions hs → AllStand ts hs
all_stand [] actions hs stand = All-nil (λ (t : ActionTally). StandsFor t.tally t.retries (rows_at t.action hs))
all_stand (t ∷ ts) [] hs stand = absurd stand
all_stand (t ∷ ts) (action ∷ actions) hs stand =
    All-cons (λ (t : ActionTally). StandsFor t.tally t.retries (rows_at t.action hs)) t ts
    (stands_same t.tally t.tally action.rules.retries t.retries (rows_at action.id hs) (rows_at t.action hs) refl (sym stand.1) (ap (λ a. rows_at a hs) (sym stand.0)) stand.2) (all_stand ts actions hs stand.3)

-- one more of each
pub stand_more : (ts : List ActionTally) (actions : List Action) (hs : List PlainHistory) (t : ActionTally) (action : Action) → t.action ≡ action.id → t.retries ≡ action.rules.retries
    → StandsFor t.tally t.retries (rows_at t.action hs) → TalliesStand ts actions hs → TalliesStand (ts ++ t ∷ []) (actions ++ action ∷ []) hs
stand_more [] [] hs t action id under stands so_far =
    (id, under, stands_same t.tally t.tally t.retries action.rules.retries (rows_at t.action hs) (rows_at action.id hs) refl under (ap (λ a. rows_at a hs) id) stands, tt)
stand_more [] (a ∷ actions) hs t action id under stands so_far = absurd so_far
stand_more (x ∷ ts) [] hs t action id under stands so_far = absurd so_far
stand_more (x ∷ ts) (a ∷ actions) hs t action id under stands so_far = (so_far.0, so_far.1, so_far.2, stand_more ts actions hs t action id under stands so_far.3)

-- what is found of an id stands for the rows of its action
pub answers_rows : (s : State) (id : ℕ) (ts : List ActionTally) (actions : List Action) (answer : Option ActionTally) → TalliesStand ts actions s.histories
    → answer ≡ find (λ (t : ActionTally). eqb t.action id) ts → TalliesRows s id (find (λ (a : Action). eqb a.id id) actions) (option_map (λ (t : ActionTally). t.tally) answer)
answers_rows s id [] [] answer stand e = ap (option_map (λ (t : ActionTally). t.tally)) e
answers_rows s id [] (action ∷ actions) answer stand e = absurd stand
answers_rows s id (t ∷ ts) [] answer stand e = absurd stand
answers_rows s id (t ∷ ts) (action ∷ actions) answer stand e =
    by_id (eqb t.action id) refl (λ later. answers_rows s id ts actions answer stand.3 later)
  where
    rest : Option Action
    rest = find (λ (a : Action). eqb a.id id) actions

    by_id : (b : Bool) → eqb t.action id ≡ b → (answer ≡ find (λ (t : ActionTally). eqb t.action id) ts → TalliesRows s id rest (option_map (λ (t : ActionTally). t.tally) answer))
        → TalliesRows s id (cond (eqb action.id id) (Some action) rest) (option_map (λ (t : ActionTally). t.tally) answer)
    by_id true is next =
        let here : action.id ≡ id = sym stand.0 ∙ eqb-true t.action id is in
        let found : answer ≡ Some t = e ∙ cond-true (eqb t.action id) (Some t) (find (λ (t : ActionTally). eqb t.action id) ts) is in
        subst (λ o. TalliesRows s id o (option_map (λ (t : ActionTally). t.tally) answer)) (sym (cond-true (eqb action.id id) (Some action) rest (eq-eqb action.id id here)))
        (subst (λ (o : Option ActionTally). TalliesRows s id (Some action) (option_map (λ (t : ActionTally). t.tally) o)) (sym found)
        (subst (λ a. StandsFor t.tally action.rules.retries (rows_at a s.histories)) here stand.2))
    by_id false is next =
        let other : eqb action.id id ≡ false = ap (λ a. eqb a id) (sym stand.0) ∙ is in
        subst (λ o. TalliesRows s id o (option_map (λ (t : ActionTally). t.tally) answer)) (sym (cond-false (eqb action.id id) (Some action) rest other))
        (next (e ∙ cond-false (eqb t.action id) (Some t) (find (λ (t : ActionTally). eqb t.action id) ts) is))

-- ---- the end of an attempt
module _ (hs hs2 : List PlainHistory) (id : ℕ) (others : (a : ℕ) → ¬ (a ≡ id) → rows_at a hs2 ≡ rows_at a hs) where
  -- other tallies stand as they did
  pub stand_others : (ts : List ActionTally) (actions : List Action) → All (λ (t : ActionTally). t.action ≢ id) ts → TalliesStand ts actions hs → TalliesStand ts actions hs2
  stand_others [] [] apart stand = tt
  stand_others [] (action ∷ actions) apart stand = absurd stand
  stand_others (t ∷ ts) [] apart stand = absurd stand
  stand_others (t ∷ ts) (action ∷ actions) apart stand = (
    stand.0,
    stand.1,
    subst (StandsFor t.tally action.rules.retries) (sym (others action.id (λ e. All-head (λ (t : ActionTally). t.action ≢ id) t ts apart (stand.0 ∙ e)))) stand.2,
    stand_others ts actions (All-tail (λ (t : ActionTally). t.action ≢ id) t ts apart) stand.3,
  )

  -- the tally of the id changes with its rows
  pub stand_changed : (i : ℕ) (ts : List ActionTally) (actions : List Action) (old new : ActionTally) → Rises id_of ts → i < length ts → old ≡ get_or ts i old → old.action ≡ id
      → new.action ≡ old.action → new.retries ≡ old.retries → ((retries : ℕ) → StandsFor old.tally retries (rows_at id hs) → StandsFor new.tally retries (rows_at id hs2))
      → TalliesStand ts actions hs → TalliesStand (set ts i new) actions hs2
  stand_changed i [] actions old new up inside at is same under ends stand = absurd (omega arith)
  stand_changed i (t ∷ ts) [] old new up inside at is same under ends stand = absurd stand
  stand_changed zero (t ∷ ts) (action ∷ actions) old new up inside at is same under ends stand =
      let this : action.id ≡ id = sym stand.0 ∙ ap id_of (sym at) ∙ is in (
        same ∙ ap id_of at ∙ stand.0,
        under ∙ ap (λ (t : ActionTally). t.retries) at ∙ stand.1,
        subst (λ a. StandsFor new.tally action.rules.retries (rows_at a hs2)) (sym this)
            (ends action.rules.retries (stands_same t.tally old.tally action.rules.retries action.rules.retries (rows_at action.id hs) (rows_at id hs) (ap (λ (t : ActionTally). t.tally) (sym at)) refl
            (ap (λ a. rows_at a hs) this) stand.2)),
        stand_others ts actions (All-weaker (λ (x : ActionTally). t.action < x.action) (λ (x : ActionTally). x.action ≢ id)
            (λ x lt e. let here : t.action ≡ id = stand.0 ∙ this in omega (arith, lt, e, here)) ts (rises_head id_of t ts up)) stand.3,
      )
  stand_changed (suc i) (t ∷ ts) (action ∷ actions) old new up inside at is same under ends stand =
      let below : t.action < (get_or ts i old).action = rises_head id_of t ts up i old (omega arith) in
      let there : (get_or ts i old).action ≡ id = ap id_of (sym at) ∙ is in (
        stand.0,
        stand.1,
        subst (StandsFor t.tally action.rules.retries) (sym (others action.id (λ e. let here : t.action ≡ action.id = stand.0 in omega (arith, below, there, e, here)))) stand.2,
        stand_changed i ts actions old new (rises_tail id_of t ts up) (omega arith) at is same under ends stand.3,
      )

-- ids stay where the tally at a place keeps its own
pub ids_set : (ts : List ActionTally) (i : ℕ) (old new : ActionTally) → old ≡ get_or ts i old → new.action ≡ old.action → map id_of (set ts i new) ≡ map id_of ts
ids_set ts i old new at same =
    map-set id_of ts i new ∙ ap (set (map id_of ts) i) (same ∙ ap id_of at) ∙ sym (map-set id_of ts i (get_or ts i old)) ∙ ap (map id_of) (set-get_or ts i old)
