-- What stood of an action is put back. Other crates may cite these lemmas.
use Rattle.std.proofs.Common.{ℕ, zero, suc, ◌≡◌, ◌<◌, ℤ, get_or, length, set, List, [], ◌∷◌, ◌++◌, Bool, true, false, cond, refl, sym, ap, ◌∙◌, arith, eqb, ltb, inl, inr, All}
use Rattle.std.specs.Prelude.{IfSome, None, Some, filter}
use Rattle.std.specs.List.{find, remove}
use Rattle.std.proofs.lemmas.Bool.{cases_eq, cases_lt, eq-eqb, eqb-true, le-ltb, lt-ltb, ltb-true, ne_eqb}
use Rattle.std.proofs.lemmas.List.Elements.{All-cons, All-head, All-tail, All-weaker, filter_passes}
use Rattle.std.proofs.lemmas.List.Concat.{flat_map-append}
use Rattle.line_forms.proofs.Rising.{Rises, rises_from_increasing, rises_head, rises_tail}
use Rattle.agent_text.specs.Befores.{IsHistoryOf, PlainBefore, before_of, listed, with_before}
use Rattle.agent_text.specs.Histories.{AreHistories, IsHistory, PlainHistory, cleared, with_cleared, with_history}
use Rattle.agent_text.proofs.HistoryLemmas.{action_of}
use Rattle.agent_text.proofs.PlaceLemmas.{found_there}

none_pass : (p : PlainHistory → Bool) (hs : List PlainHistory) → All (λ h. p h ≡ false) hs → filter p hs ≡ []
none_pass p [] all = refl
none_pass p (h ∷ hs) all =
    ap (λ b. cond b (h ∷ filter p hs) (filter p hs)) (All-head (λ h. p h ≡ false) h hs all) ∙ none_pass p hs (All-tail (λ h. p h ≡ false) h hs all)

all_pass : (p : PlainHistory → Bool) (hs : List PlainHistory) → All (λ h. p h ≡ true) hs → filter p hs ≡ hs
all_pass p [] all = refl
all_pass p (h ∷ hs) all =
    ap (λ b. cond b (h ∷ filter p hs) (filter p hs)) (All-head (λ h. p h ≡ true) h hs all) ∙ ap (λ l. h ∷ l) (all_pass p hs (All-tail (λ h. p h ≡ true) h hs all))

abbrev is_of : ℕ → PlainHistory → Bool
is_of action h = eqb h.action action

abbrev is_below : ℕ → PlainHistory → Bool
is_below action h = ltb h.action action

abbrev is_above : ℕ → PlainHistory → Bool
is_above action h = ltb action h.action

pub none_found : (action : ℕ) (hs : List PlainHistory) → All (λ h. ¬ (h.action ≡ action)) hs → find (is_of action) hs ≡ None
none_found action [] all = refl
none_found action (h ∷ hs) all =
    ap (λ b. cond b (Some h) (find (is_of action) hs)) (ne_eqb h.action action (All-head (λ h. ¬ (h.action ≡ action)) h hs all))
    ∙ none_found action hs (All-tail (λ h. ¬ (h.action ≡ action)) h hs all)

pub found_good : (action : ℕ) (hs : List PlainHistory) → All IsHistory hs → IfSome (find (is_of action) hs) (IsHistoryOf action)
found_good action [] good = tt
found_good action (h ∷ hs) good = by_id (eqb h.action action) refl (found_good action hs (All-tail IsHistory h hs good))
  where
    by_id : (b : Bool) → eqb h.action action ≡ b → IfSome (find (is_of action) hs) (IsHistoryOf action) → IfSome (cond b (Some h) (find (is_of action) hs)) (IsHistoryOf action)
    by_id true e next = record { good = All-head IsHistory h hs good; own = eqb-true h.action action e }
    by_id false e next = next

-- ---- a history at its action is what stands between the others
parts_same : (action : ℕ) (hs : List PlainHistory) → Rises action_of hs → filter (is_below action) hs ++ (listed (find (is_of action) hs) ++ filter (is_above action) hs) ≡ hs
parts_same action [] up = refl
parts_same action (h ∷ hs) up =
    let below = filter (is_below action) hs in
    let above = filter (is_above action) hs in
    let found = find (is_of action) hs in
    let later : All (λ o. h.action < o.action) hs = rises_head action_of h hs up in
    elim (cases_lt h.action action) [
      | inl lt ↦
          (λ t. cond (lt-ltb h.action action lt t) (h ∷ below) below
          ++ (listed (cond (ne_eqb h.action action (λ e. omega (arith, e, lt)) t) (Some h) found) ++ cond (le-ltb action h.action (omega (arith, lt)) t) (h ∷ above) above))
          ∙ ap (λ l. h ∷ l) (parts_same action hs (rises_tail action_of h hs up))
      | inr ge ↦ elim (cases_eq h.action action) [
        | inl e ↦
            (λ t. cond (le-ltb h.action action ge t) (h ∷ below) below
            ++ (listed (cond (eq-eqb h.action action e t) (Some h) found) ++ cond (le-ltb action h.action (omega (arith, e)) t) (h ∷ above) above))
            ∙ (λ t. none_pass (is_below action) hs (All-weaker (λ o. h.action < o.action) (λ o. is_below action o ≡ false) (λ o gt. le-ltb o.action action (omega (arith, gt, e))) hs later) t
            ++ (h ∷ all_pass (is_above action) hs (All-weaker (λ o. h.action < o.action) (λ o. is_above action o ≡ true) (λ o gt. lt-ltb action o.action (omega (arith, gt, e))) hs later) t))
        | inr apart ↦ (
            let gt : action < h.action = omega (arith, ge, apart) in
            let all : All (λ o. action < o.action) (h ∷ hs) = All-cons (λ o. action < o.action) h hs gt (All-weaker (λ o. h.action < o.action) (λ o. action < o.action) (λ o more. omega (arith, gt, more)) hs later) in
            λ t. none_pass (is_below action) (h ∷ hs) (All-weaker (λ o. action < o.action) (λ o. is_below action o ≡ false) (λ o more. le-ltb o.action action (omega (arith, more))) (h ∷ hs) all) t
            ++ (listed (none_found action (h ∷ hs) (All-weaker (λ o. action < o.action) (λ o. ¬ (o.action ≡ action)) (λ o more e. omega (arith, more, e)) (h ∷ hs) all) t)
            ++ all_pass (is_above action) (h ∷ hs) (All-weaker (λ o. action < o.action) (λ o. is_above action o ≡ true) (λ o more. lt-ltb action o.action more) (h ∷ hs) all) t)
            )
      ]
    ]

-- ---- what is put back
abbrev one_before : PlainBefore → PlainHistory → List PlainHistory
one_before b h = cond (eqb h.action b.action) (listed b.history) (h ∷ [])

-- histories of other actions stay
pub others_stay : (b : PlainBefore) (hs : List PlainHistory) → All (λ h. ¬ (h.action ≡ b.action)) hs → with_before b hs ≡ hs
others_stay b [] all = refl
others_stay b (h ∷ hs) all =
    (λ t. cond (ne_eqb h.action b.action (All-head (λ h. ¬ (h.action ≡ b.action)) h hs all) t) (listed b.history) (h ∷ []) ++ others_stay b hs (All-tail (λ h. ¬ (h.action ≡ b.action)) h hs all) t)

later_stay : (b : PlainBefore) (h : PlainHistory) (hs : List PlainHistory) → Rises action_of (h ∷ hs) → h.action ≡ b.action → with_before b hs ≡ hs
later_stay b h hs up is =
    others_stay b hs (All-weaker (λ o. h.action < o.action) (λ o. ¬ (o.action ≡ b.action)) (λ o gt e. omega (arith, gt, e, is)) hs (rises_head action_of h hs up))

-- at the place of the action
pub set_before : (b : PlainBefore) (hs : List PlainHistory) (place : ℕ) (h d : PlainHistory) → Rises action_of hs → place < length hs → (get_or hs place d).action ≡ b.action → b.history ≡ Some h
    → set hs place h ≡ with_before b hs
set_before b [] place h d up inside is there = absurd (omega arith)
set_before b (x ∷ hs) zero h d up inside is there =
    sym (λ t. cond (eq-eqb x.action b.action is t) (listed (there t)) (x ∷ []) ++ later_stay b x hs up is t)
set_before b (x ∷ hs) (suc place) h d up inside is there =
    let lt : x.action < (get_or hs place d).action = rises_head action_of x hs up place d (omega arith) in
    ap (λ l. x ∷ l) (set_before b hs place h d (rises_tail action_of x hs up) (omega arith) is there)
    ∙ sym (λ t. cond (ne_eqb x.action b.action (λ same. omega (arith, lt, same, is)) t) (listed b.history) (x ∷ []) ++ with_before b hs)

pub removed_before : (b : PlainBefore) (hs : List PlainHistory) (place : ℕ) (d : PlainHistory) → Rises action_of hs → place < length hs → (get_or hs place d).action ≡ b.action → b.history ≡ None
    → remove hs place ≡ with_before b hs
removed_before b [] place d up inside is there = absurd (omega arith)
removed_before b (x ∷ hs) zero d up inside is there =
    sym (λ t. cond (eq-eqb x.action b.action is t) (listed (there t)) (x ∷ []) ++ later_stay b x hs up is t)
removed_before b (x ∷ hs) (suc place) d up inside is there =
    let lt : x.action < (get_or hs place d).action = rises_head action_of x hs up place d (omega arith) in
    ap (λ l. x ∷ l) (removed_before b hs place d (rises_tail action_of x hs up) (omega arith) is there)
    ∙ sym (λ t. cond (ne_eqb x.action b.action (λ same. omega (arith, lt, same, is)) t) (listed b.history) (x ∷ []) ++ with_before b hs)

-- what stands there already
kept_before : (b : PlainBefore) (hs : List PlainHistory) → All (λ h. h.action ≡ b.action → b.history ≡ Some h) hs → with_before b hs ≡ hs
kept_before b [] all = refl
kept_before b (h ∷ hs) all = by_id (eqb h.action b.action) refl (kept_before b hs (All-tail Fits h hs all))
  where
    Fits : PlainHistory → Type 0
    Fits = λ h. h.action ≡ b.action → b.history ≡ Some h

    by_id : (t : Bool) → eqb h.action b.action ≡ t → with_before b hs ≡ hs → cond t (listed b.history) (h ∷ []) ++ with_before b hs ≡ h ∷ hs
    by_id true e next = λ j. listed (All-head Fits h hs all (eqb-true h.action b.action e) j) ++ next j
    by_id false e next = ap (λ l. h ∷ l) next

pub same_before : (action : ℕ) (hs : List PlainHistory) → AreHistories hs → with_before (before_of action hs) hs ≡ hs
same_before action hs are = kept_before (before_of action hs) hs (λ k d inside is. found_there hs action k d (rises_from_increasing action_of hs are.ascending) inside is)

-- what stood of an action that another history was put at
pub put_back_put : (g : PlainHistory) (hs : List PlainHistory) → AreHistories hs → with_before (before_of g.action hs) (with_history g hs) ≡ hs
put_back_put g hs are =
    let b = before_of g.action hs in
    let low = filter (is_below g.action) hs in
    let high = filter (is_above g.action) hs in
    let Other = λ (h : PlainHistory). ¬ (h.action ≡ g.action) in
    flat_map-append (one_before b) low (g ∷ high)
    ∙ (λ t. others_stay b low (All-weaker (λ o. is_below g.action o ≡ true) Other (λ o e same. let lt = ltb-true o.action g.action e in omega (arith, lt, same)) low (filter_passes (is_below g.action) hs)) t
    ++ (cond (eq-eqb g.action g.action refl t) (listed b.history) (g ∷ [])
    ++ others_stay b high (All-weaker (λ o. is_above g.action o ≡ true) Other (λ o e same. let gt = ltb-true g.action o.action e in omega (arith, gt, same)) high (filter_passes (is_above g.action) hs)) t))
    ∙ parts_same g.action hs (rises_from_increasing action_of hs are.ascending)

-- a mark at the action itself is forgotten
pub forgets_cleared : (b : PlainBefore) (moment : ℤ) (hs : List PlainHistory) → with_before b (with_cleared b.action moment hs) ≡ with_before b hs
forgets_cleared b moment [] = refl
forgets_cleared b moment (h ∷ hs) = by_id (eqb h.action b.action) refl (forgets_cleared b moment hs)
  where
    by_id : (t : Bool) → eqb h.action b.action ≡ t → with_before b (with_cleared b.action moment hs) ≡ with_before b hs
        → one_before b (cond t (cleared moment h) h) ++ with_before b (with_cleared b.action moment hs) ≡ one_before b h ++ with_before b hs
    by_id true e next = (λ j. cond (e j) (listed b.history) (cleared moment h ∷ []) ++ next j) ∙ sym (λ j. cond (e j) (listed b.history) (h ∷ []) ++ with_before b hs)
    by_id false e next = ap (λ l. one_before b h ++ l) next
