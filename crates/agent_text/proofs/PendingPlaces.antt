-- The place of a pending action among histories.
use Rattle.std.proofs.Common.{ℕ, zero, suc, ◌≡◌, ◌≢◌, ◌+◌, ◌<◌, List, [], ◌∷◌, ◌++◌, length, map, drop, get_or, refl, sym, ap, subst, ◌∙◌, arith, All, Option, Some, inl, inr, Ok, Err}
use Rattle.std.specs.declared.result.Result.{Result}
use Rattle.std.specs.declared.cmp.Ordering.{Ordering}
use Rattle.std.specs.declared.cmp.Ordering.TheVariants.{Less, Equal, Greater}
use Rattle.std.specs.Ordering.{is_lt, nat_cmp}
use Rattle.std.specs.Prelude.{codes, decimal, slice_get, Contains, option_map}
use Rattle.std.specs.Result.{result_ok}
use Rattle.std.specs.List.Sorted.{IsBinarySearchResult, IsSearchInRange, IsSortedBy}
use Rattle.std.proofs.lemmas.Bool.{cases_eq, cases_lt}
use Rattle.std.proofs.lemmas.Bool.Decides.{nat_tests}
use Rattle.std.proofs.lemmas.Cmp.{nat_cmp_total}
use Rattle.std.proofs.lemmas.List.{get_or-map, length-map}
use Rattle.std.proofs.lemmas.List.Sorted.{searchable_from_sorted}
use Rattle.std.proofs.lemmas.List.Elements.{All-head, All-tail, All-map, All-weaker}
use Rattle.std.proofs.lemmas.Option.{same_Some, slice_get-map, slice_get_cases, slice_get_within}
use Rattle.line_forms.specs.Fields.{field_text}
use Rattle.line_forms.specs.LineStates.{LineState}
use Rattle.line_forms.specs.Numbers.{IsId}
use Rattle.line_forms.specs.Readers.{IsNotAhead}
use Rattle.line_forms.proofs.Passing.{not_spelled}
use Rattle.line_forms.proofs.PlainLemmas.{id_one}
use Rattle.agent_text.specs.declared.history.History.{History}
use Rattle.agent_text.specs.Histories.{AreHistories, IsHistory, PlainHistory, shown_history}
use Rattle.agent_text.specs.SavedTexts.{pending_line}
use Rattle.agent_text.specs.PartReadings.{FindsPlace, StandsFrom}
use Rattle.line_forms.proofs.Lasts.{Ascends, ascends, increasing}
use Rattle.line_forms.proofs.Parts.{Lines}
use Rattle.agent_text.proofs.PendingIds.{Has, Up, action_of, contains_has, has_above, has_contains, up}

-- ---- a search by ids
cmp_same : (x y : ℕ) → x ≡ y → nat_cmp x y ≡ Equal
cmp_same x y e = grind (arith, nat_tests)

cmp_less : (x y : ℕ) → x < y → nat_cmp x y ≡ Less
cmp_less x y h = grind (arith, nat_tests)

cmp_greater : (x y : ℕ) → y < x → nat_cmp x y ≡ Greater
cmp_greater x y h = grind (arith, nat_tests)

cmp_equal : (x y : ℕ) → nat_cmp x y ≡ Equal → x ≡ y
cmp_equal x y e = elim (cases_eq x y) [
  | inl same ↦ same
  | inr other ↦ elim (cases_lt x y) [
    | inl less ↦ (let k = cmp_less x y less in cc)
    | inr least ↦ (let more : y < x = omega (arith, least, other) in let k = cmp_greater x y more in cc)
  ]
]

abbrev id_of : History → ℕ
id_of h = h.action

shown_ascends : (items : List History) → Ascends action_of (map shown_history items) → Ascends id_of items
shown_ascends [] h = tt
shown_ascends (x ∷ []) h = tt
shown_ascends (x ∷ y ∷ items) h = (h.0, shown_ascends (y ∷ items) h.1)

-- histories are sorted by their ids
by_id : (items : List History) → Ascends id_of items → IsSortedBy (λ a b. is_lt (nat_cmp a.action b.action)) items
by_id items rise k d least within =
    let less = increasing id_of items rise k (omega (arith, within, length-map items id_of)) in
    let here : get_or (map id_of items) k 0 ≡ id_of (get_or items k d) = get_or-map id_of items k d 0 (omega (arith, within)) in
    let next : get_or (map id_of items) (k + 1) 0 ≡ id_of (get_or items (k + 1) d) = get_or-map id_of items (k + 1) d 0 (omega (arith, within)) in
    ap is_lt (cmp_greater (id_of (get_or items (k + 1) d)) (id_of (get_or items k d)) (omega (arith, less, here, next)))

-- where no history has the id it isn't among theirs
none_has : (items : List History) (action : ℕ) → All (λ h. h.action ≢ action) items → Has (map action_of (map shown_history items)) action → ⊥
none_has [] action all h = h
none_has (x ∷ items) action all (inl e) = All-head (λ h. h.action ≢ action) x items all e
none_has (x ∷ items) action all (inr h) = none_has items action (All-tail (λ h. h.action ≢ action) x items all) h

-- a search answers the place of the history, if there is one
pub finds : (items : List History) (action : ℕ) (result : Result ℕ ℕ) (answer : Option ℕ) → AreHistories (map shown_history items) → IsSearchInRange result (length items) →
    IsBinarySearchResult (λ (h : History). nat_cmp h.action action) items result → answer ≡ result_ok result → FindsPlace (map shown_history items) action answer
finds items action result answer are inside found is = let F : Option ℕ → Type 0 = FindsPlace (map shown_history items) action in subst F (sym is) (at result inside found)
  where
    here : (place : ℕ) → place < length items → (h : History) × (slice_get items place ≡ Some h) × (get_or items place h ≡ h)
    here place within = elim ((slice_get_cases items place).1) [
      | inl e ↦ (e.0, e.2, e.3)
      | inr e ↦ absurd (omega (arith, e.0, within))
    ]

    at : (result : Result ℕ ℕ) → IsSearchInRange result (length items) → IsBinarySearchResult (λ (h : History). nat_cmp h.action action) items result → FindsPlace (map shown_history items) action (result_ok result)
    at (Ok place) inside found =
        let x = here place inside in (
          shown_history x.0,
          slice_get-map shown_history items place ∙ ap (option_map shown_history) x.1,
          cmp_equal x.0.action action (ap (λ (h : History). nat_cmp h.action action) (sym x.2) ∙ found x.0),
        )
    at (Err place) inside found =
        let rises = searchable_from_sorted nat_cmp_total id_of items action (by_id items (shown_ascends items (ascends action_of (map shown_history items) are.ascending))) in
        let parted = found rises in
        let apart : All (λ (h : History). h.action ≢ action) items =
        (λ k d within. elim (cases_lt k place) [
          | inl less ↦ (λ same. let a = parted.0 k d (omega arith) less in let b = cmp_same (get_or items k d).action action same in differ_less (nat_cmp (get_or items k d).action action) a b)
          | inr least ↦ (λ same. let a = parted.1 k d least within in let b = cmp_same (get_or items k d).action action same in differ_more (nat_cmp (get_or items k d).action action) a b)
        ]) in
        λ contains. none_has items action apart (contains_has (map action_of (map shown_history items)) action contains)
      where
        differ_less : (o : Ordering) → o ≡ Less → o ≡ Equal → ⊥
        differ_less o h k = cc

        differ_more : (o : Ordering) → o ≡ Greater → o ≡ Equal → ⊥
        differ_more o h k = cc

-- a place that shows a history is one of the list
pub shown_within : (items : List History) (place : ℕ) (h : PlainHistory) → slice_get (map shown_history items) place ≡ Some h → place < length items
shown_within items place h e = omega (arith, slice_get_within (map shown_history items) place h e, length-map items shown_history)

-- ---- the line that is ahead
drop_has : (hs : List PlainHistory) (from n : ℕ) → Has (map action_of (drop from hs)) n → Has (map action_of hs) n
drop_has hs zero n h = h
drop_has [] (suc from) n h = h
drop_has (x ∷ hs) (suc from) n h = inr (drop_has hs from n h)

has_all : (P : ℕ → Type 0) (ns : List ℕ) (n : ℕ) → All P ns → Has ns n → P n
has_all P [] n all h = absurd h
has_all P (m ∷ ns) n all (inl e) = subst P e (All-head P m ns all)
has_all P (m ∷ ns) n all (inr h) = has_all P ns n (All-tail P m ns all) h

-- what stands among the actions is an id
id_from : (hs : List PlainHistory) (from n : ℕ) → AreHistories hs → StandsFrom hs from n → IsId n
id_from hs from n are stands =
    has_all IsId (map action_of hs) n (All-map IsId action_of hs (All-weaker IsHistory (λ h. IsId h.action) (λ h good. good.action) hs are.good)) (drop_has hs from n (contains_has (map action_of (drop from hs)) n stands))

-- no id follows the word
pub no_id : (hs : List PlainHistory) (from : ℕ) (state : LineState) (rest : List ℕ) (more : Lines) → AreHistories hs → state.lines ≡ (field_text (codes "pending") ++ rest) ∷ more → ((n : ℕ) → IsId n → rest ≡ decimal n → ⊥) →
    IsNotAhead (StandsFrom hs from) pending_line state
no_id hs from state rest more are ahead none n other stands e = not_spelled IsId decimal state (codes "pending") rest more ahead none n other (id_from hs from n are stands) e

-- the id that follows it doesn't stand from there on
pub not_from : (hs : List PlainHistory) (from : ℕ) (state : LineState) (rest : List ℕ) (more : Lines) (read : ℕ) → AreHistories hs → state.lines ≡ (field_text (codes "pending") ++ rest) ∷ more → IsId read → rest ≡ decimal read →
    (Has (map action_of (drop from hs)) read → ⊥) → IsNotAhead (StandsFrom hs from) pending_line state
not_from hs from state rest more read are ahead id spelled none n other stands e =
    not_spelled (λ m. m ≡ n) decimal state (codes "pending") rest more ahead
    (λ m same h.
    let read_is : read ≡ n = id_one read n id (id_from hs from n are stands) (sym spelled ∙ h ∙ ap decimal same) in
    let H : ℕ → Type 0 = Has (map action_of (drop from hs)) in
    none (subst H (sym read_is) (contains_has (map action_of (drop from hs)) n stands)))
    n other refl e

-- an id of no history
pub nowhere : (hs : List PlainHistory) (from n : ℕ) → ¬ Contains (map action_of hs) n → Has (map action_of (drop from hs)) n → ⊥
nowhere hs from n none h = none (has_contains (map action_of hs) n (drop_has hs from n h))

-- an id whose history stands before the place
pub too_early : (hs : List PlainHistory) (place from : ℕ) (h : PlainHistory) → Up (map action_of hs) → slice_get hs place ≡ Some h → place < from → Has (map action_of (drop from hs)) h.action → ⊥
too_early [] place from h rise there less is = cc
too_early (x ∷ hs) zero zero h rise there less is = absurd (omega (arith, less))
too_early (x ∷ hs) (suc place) zero h rise there less is = absurd (omega (arith, less))
too_early (x ∷ hs) zero (suc from) h rise there less is =
    let same : x ≡ h = same_Some x h there in
    let more = has_above x.action h.action (map action_of hs) rise.0 (drop_has hs from h.action is) in
    let e : x.action ≡ h.action = ap (λ (y : PlainHistory). y.action) same in
    absurd (omega (arith, more, e))
too_early (x ∷ hs) (suc place) (suc from) h rise there less is = too_early hs place from h rise.1 there (omega (arith, less)) is

pub too_early_id : (hs : List PlainHistory) (place from n : ℕ) (h : PlainHistory) → AreHistories hs → slice_get hs place ≡ Some h → h.action ≡ n → place < from → Has (map action_of (drop from hs)) n → ⊥
too_early_id hs place from n h are there id less is =
    let H : ℕ → Type 0 = Has (map action_of (drop from hs)) in
    too_early hs place from h (up action_of hs (ascends action_of hs are.ascending)) there less (subst H (sym id) is)
