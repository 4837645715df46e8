-- The place of a history among those in ascending order of their actions, and what a change there does.
use Rattle.std.proofs.Common.{ℕ, zero, suc, ◌≡◌, ◌+◌, ◌<◌, ◌≤◌, ℤ, List, [], ◌∷◌, ◌++◌, length, true, cond, eqb, sym, ap, ◌∙◌, subst, arith, drop, get_or, set, map, take-append-drop, ltb, inl, inr, Result, Ok, Err}
use Rattle.std.specs.Prelude.{filter, All, Some}
use Rattle.std.specs.Ordering.{nat_cmp, ordering_index}
use Rattle.std.specs.declared.cmp.Ordering.{Ordering}
use Rattle.std.specs.List.{AllPairs, find, insert}
use Rattle.std.specs.List.Sorted.{IsBinarySearchResult, IsNonDecreasingBy, IsSearchInRange}
use Rattle.std.proofs.lemmas.Bool.{ltb-true, lt-ltb, le-ltb, ne_eqb, eq-eqb, cases_eq}
use Rattle.std.proofs.lemmas.List.{get_or-map, length-map, set_split}
use Rattle.std.proofs.lemmas.List.Elements.{All-append, All-weaker, filter_passes}
use Rattle.std.proofs.lemmas.List.Folds.{map_fixed}
use Rattle.std.proofs.lemmas.List.Kept.{AllPairs-from_increasing}
use Rattle.std.proofs.lemmas.List.Sorted.{searched}
use Rattle.line_forms.proofs.Sorted.{filter-take, filter-drop}
use Rattle.agent_text.specs.Histories.{AreHistories, PlainHistory, cleared, rows_at, with_cleared, with_history}
use Rattle.agent_text.specs.PartReadings.{HasPlace}
use Rattle.line_forms.proofs.Rising.{Rises, rises_from_increasing, rises_head, rises_tail}
use Rattle.agent_text.proofs.HistoryLemmas.{action_of, no_rows_of, one_cleared, rows_of}

-- ---- a binary search
-- a search by what the elements are mapped to is one of the mapped list
pub searched_map : {X Y : Type 0} (g : X → Y) (ord : Y → Ordering) (xs : List X) (r : Result ℕ ℕ) → IsSearchInRange r (length xs)
    → IsBinarySearchResult (λ x. ord (g x)) xs r → IsBinarySearchResult ord (map g xs) r
searched_map g ord [] (Ok i) inside found = absurd (omega arith)
searched_map g ord (x ∷ xs) (Ok i) inside found = λ d. rw (get_or-map g (x ∷ xs) i x d inside) (found x)
searched_map g ord [] (Err i) inside found = λ up. (λ k d low high. absurd (omega arith), λ k d low high. absurd (omega arith))
searched_map g ord (x ∷ xs) (Err i) inside found =
    λ up.
    let count : length (map g (x ∷ xs)) ≡ length (x ∷ xs) = length-map (x ∷ xs) g in
    let rises : IsNonDecreasingBy (λ x. ordering_index (ord (g x))) (x ∷ xs) =
    λ j k d le within. rw (← get_or-map g (x ∷ xs) j d (g d) (omega arith), ← get_or-map g (x ∷ xs) k d (g d) within) (up j k (g d) le (omega arith)) in
    let parted = found rises in (
      λ k d low high. rw (get_or-map g (x ∷ xs) k x d (omega arith)) (parted.0 k x low high),
      λ k d low high. rw (get_or-map g (x ∷ xs) k x d (omega arith)) (parted.1 k x low (omega arith)),
    )

ids_rise : (ids : List ℕ) → AllPairs (λ x y. x < y) ids → (i j : ℕ) → i ≤ j → j < length ids → get_or ids i 0 ≤ get_or ids j 0
ids_rise ids up i j le inside =
    elim (cases_eq i j) [
      | inl e ↦ rw e (omega arith)
      | inr apart ↦ let lt = up i j 0 (omega arith) inside in omega (arith, lt)
    ]

-- a history of the action stands at its place
pub is_place : (hs : List PlainHistory) (action i : ℕ) → AreHistories hs → i < length hs → ((d : PlainHistory) → (get_or hs i d).action ≡ action)
    → HasPlace hs action (Ok i)
is_place hs action i are inside here =
    let up = rises_from_increasing action_of hs are.ascending in
    let less : (k : ℕ) (d : PlainHistory) → k < i → (get_or hs k d).action < action = λ k d lt. subst (λ n. (get_or hs k d).action < n) (here d) (up k i d lt inside) in
    let more : (k : ℕ) (d : PlainHistory) → i < k → k < length hs → action < (get_or hs k d).action = λ k d gt lt. subst (λ n. n < (get_or hs k d).action) (here d) (up i k d gt lt) in (
      inside,
      here,
      sym (filter-take (λ h. ltb h.action action) hs i (λ k d low high. lt-ltb _ _ (less k d high)) (λ k d low high. le-ltb _ _ (elim (cases_eq i k) [
        | inl e ↦ subst (λ n. action ≤ (get_or hs n d).action) e (omega (arith, here d))
        | inr apart ↦ let gt = more k d (omega arith) high in omega (arith, gt)
      ])) (omega arith)),
      sym (filter-drop (λ h. ltb action h.action) hs (i + 1) (λ k d low high. le-ltb _ _ (elim (cases_eq i k) [
        | inl e ↦ subst (λ n. (get_or hs n d).action ≤ action) e (omega (arith, here d))
        | inr apart ↦ let lt = less k d (omega arith) in omega (arith, lt)
      ])) (λ k d low high. lt-ltb _ _ (more k d (omega arith) high)) (omega arith)),
    )

-- it ends at the place of the action
pub has_place : (hs : List PlainHistory) (action : ℕ) (r : Result ℕ ℕ) → AreHistories hs → IsSearchInRange r (length hs)
    → IsBinarySearchResult (λ h. nat_cmp (action_of h) action) hs r → HasPlace hs action r
has_place hs action (Ok i) are inside found =
    let ids = map action_of hs in
    let pairs = AllPairs-from_increasing ids are.ascending in
    let at = searched ids action (Ok i) (searched_map action_of (λ id. nat_cmp id action) hs (Ok i) inside found) (ids_rise ids pairs) in
    is_place hs action i are inside (λ d. sym (get_or-map action_of hs i d 0 inside) ∙ at.1)
has_place hs action (Err i) are inside found =
    let ids = map action_of hs in
    let count : length ids ≡ length hs = length-map hs action_of in
    let pairs = AllPairs-from_increasing ids are.ascending in
    let at = searched ids action (Err i) (searched_map action_of (λ id. nat_cmp id action) hs (Err i) inside found) (ids_rise ids pairs) in
    let less : (k : ℕ) (d : PlainHistory) → k < i → (get_or hs k d).action < action = λ k d lt. rw (← get_or-map action_of hs k d 0 (omega arith)) (at.1 k lt) in
    let more : (k : ℕ) (d : PlainHistory) → i ≤ k → k < length hs → action < (get_or hs k d).action = λ k d ge lt. rw (← get_or-map action_of hs k d 0 lt) (at.2 k ge (omega arith)) in (
      inside,
      sym (filter-take (λ h. ltb h.action action) hs i (λ k d low high. lt-ltb _ _ (less k d high)) (λ k d low high. let gt = more k d low high in le-ltb _ _ (omega (arith, gt))) inside),
      sym (filter-drop (λ h. ltb action h.action) hs i (λ k d low high. let lt = less k d high in le-ltb _ _ (omega (arith, lt))) (λ k d low high. lt-ltb _ _ (more k d low high)) inside),
    )

-- ---- what stands at the place
-- the rows of the action are those of the history there
pub rows_there : (hs : List PlainHistory) (action place : ℕ) (d : PlainHistory) → AreHistories hs → HasPlace hs action (Ok place)
    → rows_at action hs ≡ (get_or hs place d).rows
rows_there hs action place d are here =
    ap (λ a. rows_at a hs) (sym (here.1 d)) ∙ rows_of hs place d (rises_from_increasing action_of hs are.ascending) here.0

-- where no history of the action stands, all are below or above
pub parts_there : (hs : List PlainHistory) (action place : ℕ) → HasPlace hs action (Err place) → hs ≡ filter (λ h. ltb h.action action) hs ++ filter (λ h. ltb action h.action) hs
parts_there hs action place here = sym (take-append-drop place hs) ∙ (λ t. here.1 t ++ here.2 t)

pub others_there : (hs : List PlainHistory) (action place : ℕ) → HasPlace hs action (Err place) → All (λ h. ¬ (h.action ≡ action)) hs
others_there hs action place here =
    let below = λ (h : PlainHistory). ltb h.action action in
    let above = λ (h : PlainHistory). ltb action h.action in
    let Other = λ (h : PlainHistory). ¬ (h.action ≡ action) in
    subst (All Other) (sym (parts_there hs action place here)) (All-append Other (filter below hs) (filter above hs)
    (All-weaker (λ h. below h ≡ true) Other (λ h b e. let lt = ltb-true h.action action b in omega (arith, lt, e)) (filter below hs) (filter_passes below hs))
    (All-weaker (λ h. above h ≡ true) Other (λ h b e. let gt = ltb-true action h.action b in omega (arith, gt, e)) (filter above hs) (filter_passes above hs)))

-- it has no rows then
pub no_rows_there : (hs : List PlainHistory) (action place : ℕ) → HasPlace hs action (Err place) → rows_at action hs ≡ []
no_rows_there hs action place here = no_rows_of action hs (others_there hs action place here)

-- the history there is the one of the action
pub found_there : (hs : List PlainHistory) (action place : ℕ) (d : PlainHistory) → Rises action_of hs → place < length hs → (get_or hs place d).action ≡ action
    → find (λ (h : PlainHistory). eqb h.action action) hs ≡ Some (get_or hs place d)
found_there [] action place d up inside is = absurd (omega arith)
found_there (h ∷ hs) action zero d up inside is = ap (λ b. cond b (Some h) (find (λ (o : PlainHistory). eqb o.action action) hs)) (eq-eqb h.action action is)
found_there (h ∷ hs) action (suc place) d up inside is =
    let lt : h.action < (get_or hs place d).action = rises_head action_of h hs up place d (omega arith) in
    ap (λ b. cond b (Some h) (find (λ (o : PlainHistory). eqb o.action action) hs)) (ne_eqb h.action action (λ same. omega (arith, lt, same, is)))
    ∙ found_there hs action place d (rises_tail action_of h hs up) (omega arith) is

-- ---- a change at the place
-- another history of the action there
pub put_there : (hs : List PlainHistory) (action place : ℕ) (h : PlainHistory) → HasPlace hs action (Ok place) → h.action ≡ action
    → set hs place h ≡ with_history h hs
put_there hs action place h here is =
    let next : suc place ≡ place + 1 = omega arith in
    let below = λ (a : ℕ). filter (λ o. ltb o.action a) hs in
    let above = λ (a : ℕ). filter (λ o. ltb a o.action) hs in
    set_split hs place h here.0
    ∙ (λ t. (here.2 ∙ ap below (sym is)) t ++ h ∷ (ap (λ n. drop n hs) next ∙ here.3 ∙ ap above (sym is)) t)

-- a history where none of the action stood
pub put_new : (hs : List PlainHistory) (action place : ℕ) (h : PlainHistory) → HasPlace hs action (Err place) → h.action ≡ action
    → insert hs place h ≡ with_history h hs
put_new hs action place h here is =
    let below = λ (a : ℕ). filter (λ o. ltb o.action a) hs in
    let above = λ (a : ℕ). filter (λ o. ltb a o.action) hs in
    λ t. (here.1 ∙ ap below (sym is)) t ++ h ∷ (here.2 ∙ ap above (sym is)) t

-- the history there with its last attempt cleared
pub cleared_there : (hs : List PlainHistory) (action place : ℕ) (moment : ℤ) (d : PlainHistory) → Rises action_of hs → place < length hs
    → (get_or hs place d).action ≡ action → set hs place (cleared moment (get_or hs place d)) ≡ with_cleared action moment hs
cleared_there [] action place moment d up inside is = absurd (omega arith)
cleared_there (h ∷ hs) action zero moment d up inside is =
    let others = map_fixed (one_cleared action moment) hs (λ k e within. let lt : h.action < (get_or hs k e).action = rises_head action_of h hs up k e within in
    ap (λ b. cond b (cleared moment (get_or hs k e)) (get_or hs k e)) (ne_eqb (get_or hs k e).action action (λ same. omega (arith, lt, same, is)))) in
    λ t. sym (ap (λ b. cond b (cleared moment h) h) (eq-eqb h.action action is)) t ∷ sym others t
cleared_there (h ∷ hs) action (suc place) moment d up inside is =
    let lt : h.action < (get_or hs place d).action = rises_head action_of h hs up place d (omega arith) in
    λ t. sym (ap (λ b. cond b (cleared moment h) h) (ne_eqb h.action action (λ same. omega (arith, lt, same, is)))) t
    ∷ cleared_there hs action place moment d (rises_tail action_of h hs up) (omega arith) is t
