-- The histories of the code, which contracts see as a list of plain ones: a change of one of them.
use Rattle.std.proofs.Common.{ℕ, zero, suc, ◌≡◌, ◌+◌, ◌-◌, ◌<◌, ◌≤◌, ℤ, List, [], ◌∷◌, ◌++◌, length, true, false, refl, sym, ap, ◌∙◌, subst, arith, take, drop, get_or, set, map, All, append-nil, append_assoc, inl, inr, ◌⊎◌, Result, Ok, Err}
use Rattle.std.specs.List.{insert, remove}
use Rattle.std.specs.Ordering.{nat_cmp}
use Rattle.std.specs.List.Sorted.{IsBinarySearchResult, IsSearchInRange}
use Rattle.std.proofs.lemmas.Bool.{cond-false, cond-true}
use Rattle.std.proofs.lemmas.List.{drop-map, drop-set-lt, drop_all, drop_more, get_or-map, length-map, map-append, map-set, set-get_or, take-map, take_all, take_more, take_more_set}
use Rattle.std.proofs.lemmas.List.Elements.{All-append, All-cons, All-drop, All-take}
use Rattle.act_rules.specs.declared.row.Row.{Row}
use Rattle.agent_text.specs.declared.history.History.{History}
use Rattle.agent_text.specs.Histories.{AreHistories, PlainHistory, cleared, rows_at, shown_history, with_cleared, with_reported, with_rows}
use Rattle.agent_text.specs.PartReadings.{HasPlace}
use Rattle.line_forms.proofs.Rising.{rises_from_increasing}
use Rattle.agent_text.proofs.HistoryLemmas.{action_of}
use Rattle.agent_text.proofs.PlaceLemmas.{cleared_there, has_place, is_place, put_new, put_there, rows_there, searched_map}

-- what holds of the items holds with another one among them
pub All-inserted : {X : Type 0} (P : X → Type 0) (xs : List X) (i : ℕ) (x : X) → P x → All P xs → All P (insert xs i x)
All-inserted P xs i x one all = All-append P (take i xs) (x ∷ drop i xs) (All-take P i xs all) (All-cons P x (drop i xs) one (All-drop P i xs all))

-- and without one of them
pub All-removed : {X : Type 0} (P : X → Type 0) (xs : List X) (i : ℕ) → All P xs → All P (remove xs i)
All-removed P xs i all = All-append P (take i xs) (drop (suc i) xs) (All-take P i xs all) (All-drop P (suc i) xs all)

module _ (items : List History) (hs : List PlainHistory) (view : map shown_history items ≡ hs) where
  -- a search by ids ends at the place
  pub searched_items : (action : ℕ) (r : Result ℕ ℕ) → AreHistories hs → IsSearchInRange r (length items)
      → IsBinarySearchResult (λ (h : History). nat_cmp h.action action) items r → HasPlace hs action r
  searched_items action r are inside found =
      let count : length hs ≡ length items = ap (length {A = PlainHistory}) (sym view) ∙ length-map items shown_history in
      has_place hs action r are (subst (IsSearchInRange r) (sym count) inside)
      (subst (λ l. IsBinarySearchResult (λ h. nat_cmp (action_of h) action) l r) view (searched_map shown_history (λ h. nat_cmp (action_of h) action) items r inside found))

  -- one of the action stands at its place
  pub found_item : (action place : ℕ) (h : History) → AreHistories hs → place < length items → h ≡ get_or items place h → h.action ≡ action → HasPlace hs action (Ok place)
  found_item action place h are within at is =
      let count : length hs ≡ length items = ap (length {A = PlainHistory}) (sym view) ∙ length-map items shown_history in
      is_place hs action place are (omega (arith, count, within))
      (λ d. ap (λ l. (get_or l place d).action) (sym view) ∙ ap action_of (get_or-map shown_history items place h d within ∙ ap shown_history (sym at)) ∙ is)

  module _ (place : ℕ) (inside : place < length hs) where
    fits : place < length items
    fits = let count : length hs ≡ length items = ap (length {A = PlainHistory}) (sym view) ∙ length-map items shown_history in omega arith

    -- what is shown of the one at a place
    pub item_there : (h : History) → h ≡ get_or items place h → get_or hs place (shown_history h) ≡ shown_history h
    item_there h at =
        ap (λ l. get_or l place (shown_history h)) (sym view) ∙ get_or-map shown_history items place h (shown_history h) fits ∙ ap shown_history (sym at)

    -- another one at a place
    pub set_item : (h : History) → map shown_history (set items place h) ≡ set hs place (shown_history h)
    set_item h = map-set shown_history items place h ∙ ap (λ l. set l place (shown_history h)) view

    -- one that shows the same
    pub same_item : (h other : History) → h ≡ get_or items place h → shown_history other ≡ shown_history h → map shown_history (set items place other) ≡ hs
    same_item h other at same =
        set_item other ∙ ap (set hs place) (same ∙ sym (item_there h at)) ∙ set-get_or hs place (shown_history h)

  -- without the one at a place
  pub removed_item : (place : ℕ) → map shown_history (remove items place) ≡ remove hs place
  removed_item place =
      map-append shown_history (take place items) (drop (suc place) items)
      ∙ (λ t. sym (take-map shown_history place items) t ++ sym (drop-map shown_history (suc place) items) t)
      ∙ (λ t. take place (view t) ++ drop (suc place) (view t))

  module _ (action : ℕ) where
    -- the rows of the action are those of the one at its place
    pub rows_of_item : (place : ℕ) (h : History) → AreHistories hs → HasPlace hs action (Ok place) → h ≡ get_or items place h → rows_at action hs ≡ h.rows.rows
    rows_of_item place h are here at =
        rows_there hs action place (shown_history h) are here ∙ ap (λ (p : PlainHistory). p.rows) (item_there place here.0 h at)

    pub id_of_item : (place : ℕ) (h : History) → HasPlace hs action (Ok place) → h ≡ get_or items place h → h.action ≡ action
    id_of_item place h here at = ap action_of (sym (item_there place here.0 h at)) ∙ here.1 (shown_history h)

    -- the one at its place with other rows, which is pending then
    pub told_item : (place : ℕ) (h : History) (rows : List Row) → HasPlace hs action (Ok place) → h.action ≡ action → h.rows.rows ≡ rows → h.pending ≡ true
        → map shown_history (set items place h) ≡ with_rows action rows hs
    told_item place h rows here id is pending =
        let told : PlainHistory = record { action = action; rows = rows; pending = true } in
        set_item place here.0 h ∙ ap (set hs place) (λ t. record { action = id t; rows = is t; pending = pending t }) ∙ put_there hs action place told here refl

    -- a new one
    pub new_item : (place : ℕ) (h : History) (rows : List Row) → HasPlace hs action (Err place) → h.action ≡ action → h.rows.rows ≡ rows → h.pending ≡ true
        → map shown_history (insert items place h) ≡ with_rows action rows hs
    new_item place h rows here id is pending =
        let told : PlainHistory = record { action = action; rows = rows; pending = true } in
        map-append shown_history (take place items) (h ∷ drop place items)
        ∙ (λ t. sym (take-map shown_history place items) t ++ shown_history h ∷ sym (drop-map shown_history place items) t)
        ∙ (λ t. insert (view t) place (record { action = id t; rows = is t; pending = pending t })) ∙ put_new hs action place told here refl

    -- the one at its place with its last attempt cleared
    pub cleared_item : (place : ℕ) (moment : ℤ) (h other : History) → AreHistories hs → HasPlace hs action (Ok place) → h ≡ get_or items place h
        → shown_history other ≡ cleared moment (shown_history h) → map shown_history (set items place other) ≡ with_cleared action moment hs
    cleared_item place moment h other are here at is =
        set_item place here.0 other ∙ ap (set hs place) (is ∙ ap (cleared moment) (sym (item_there place here.0 h at)))
        ∙ cleared_there hs action place moment (shown_history h) (rises_from_increasing action_of hs are.ascending) here.0 (here.1 (shown_history h))

-- ---- a loop that reports
-- The first i have been looked at, and so many are left to be reported.
abbrev pub Reports : List PlainHistory → List PlainHistory → ℕ → ℕ → Type 0
Reports whole now i left = whole ≡ take i now ++ with_reported left (drop i now)

none_reported : (hs : List PlainHistory) → with_reported 0 hs ≡ hs
none_reported [] = refl
none_reported (h ∷ hs) = refl

pub reports_none : (hs : List PlainHistory) (most : ℕ) → Reports (with_reported most hs) hs 0 most
reports_none hs most = refl

-- the next one stays as it is
pub reports_other : (whole now : List PlainHistory) (i left : ℕ) (d : PlainHistory) → i < length now → (left ≡ 0) ⊎ ((get_or now i d).pending ≡ false)
    → Reports whole now i left → Reports whole now (i + 1) left
reports_other whole now i left d inside stays so_far =
    let h = get_or now i d in
    let rest = drop (i + 1) now in
    so_far ∙ ap (λ l. take i now ++ with_reported left l) (drop_more now i d inside) ∙ ap (λ l. take i now ++ l) (one left stays)
    ∙ sym (append_assoc (take i now) (h ∷ []) (with_reported left rest)) ∙ ap (λ l. l ++ with_reported left rest) (sym (take_more now i d inside))
  where
    one : (n : ℕ) → (n ≡ 0) ⊎ ((get_or now i d).pending ≡ false) → with_reported n (get_or now i d ∷ drop (i + 1) now) ≡ get_or now i d ∷ with_reported n (drop (i + 1) now)
    one zero stays = ap (λ l. get_or now i d ∷ l) (sym (none_reported (drop (i + 1) now)))
    one (suc n) (inl e) = absurd (omega arith)
    one (suc n) (inr e) = cond-false _ _ _ e

-- the next one is reported
pub reports_one : (whole now : List PlainHistory) (i left : ℕ) (d told : PlainHistory) → i < length now → 0 < left → (get_or now i d).pending ≡ true
    → told ≡ record (get_or now i d) { pending = false } → Reports whole now i left → Reports whole (set now i told) (i + 1) (left - 1)
reports_one whole now i left d told inside some pending is so_far =
    let h = get_or now i d in
    let rest = drop (i + 1) now in
    let others = with_reported (left - 1) rest in
    so_far ∙ ap (λ l. take i now ++ with_reported left l) (drop_more now i d inside) ∙ ap (λ l. take i now ++ l) (one left some)
    ∙ ap (λ t. take i now ++ t ∷ others) (sym is)
    ∙ sym (append_assoc (take i now) (told ∷ []) others)
    ∙ (λ t. sym (take_more_set now i told inside) t ++ with_reported (left - 1) (sym (drop-set-lt (i + 1) now i told (omega arith)) t))
  where
    one : (n : ℕ) → 0 < n → with_reported n (get_or now i d ∷ drop (i + 1) now) ≡ record (get_or now i d) { pending = false } ∷ with_reported (n - 1) (drop (i + 1) now)
    one zero some = absurd (omega arith)
    one (suc n) some =
        let less : suc n - 1 ≡ n = omega arith in
        cond-true _ _ _ pending ∙ ap (λ m. record (get_or now i d) { pending = false } ∷ with_reported m (drop (i + 1) now)) (sym less)

-- all were looked at
pub reports_all : (whole now : List PlainHistory) (i left : ℕ) → length now ≤ i → Reports whole now i left → now ≡ whole
reports_all whole now i left all so_far =
    sym (so_far ∙ (λ t. take_all i now all t ++ with_reported left (drop_all i now all t)) ∙ append-nil now)

-- the same of the histories of the code
pub item_kept : (whole : List PlainHistory) (items new : List History) (i left n : ℕ) (h : History) → i < length items → h ≡ get_or items i h
    → (left ≡ 0) ⊎ (h.pending ≡ false) → new ≡ items → n ≡ left → Reports whole (map shown_history items) i left → Reports whole (map shown_history new) (i + 1) n
item_kept whole items new i left n h inside at stays same count so_far =
    let now = map shown_history items in
    let long : length now ≡ length items = length-map items shown_history in
    let there : get_or now i (shown_history h) ≡ shown_history h = item_there items now refl i (omega arith) h at in
    let still : (left ≡ 0) ⊎ ((get_or now i (shown_history h)).pending ≡ false) = subst (λ (p : PlainHistory). (left ≡ 0) ⊎ (p.pending ≡ false)) (sym there) stays in
    reports_other whole now i left (shown_history h) (omega arith) still so_far
    ∙ (λ t. take (i + 1) (map shown_history (sym same t)) ++ with_reported (sym count t) (drop (i + 1) (map shown_history (sym same t))))

pub item_reported : (whole : List PlainHistory) (items new : List History) (i left n : ℕ) (h : History) → i < length items → h ≡ get_or items i h
    → 0 < left → h.pending ≡ true → new ≡ set items i (record h { pending = false }) → n ≡ left - 1
    → Reports whole (map shown_history items) i left → Reports whole (map shown_history new) (i + 1) n
item_reported whole items new i left n h inside at some pending is count so_far =
    let now = map shown_history items in
    let long : length now ≡ length items = length-map items shown_history in
    let there : get_or now i (shown_history h) ≡ shown_history h = item_there items now refl i (omega arith) h at in
    let told : PlainHistory = record (shown_history h) { pending = false } in
    let now_is : map shown_history new ≡ set now i told = ap (map shown_history) is ∙ map-set shown_history items i (record h { pending = false }) in
    reports_one whole now i left (shown_history h) told (omega arith) some (ap (λ (p : PlainHistory). p.pending) there ∙ pending)
    (sym (ap (λ (p : PlainHistory). record p { pending = false }) there)) so_far
    ∙ (λ t. take (i + 1) (sym now_is t) ++ with_reported (sym count t) (drop (i + 1) (sym now_is t)))
