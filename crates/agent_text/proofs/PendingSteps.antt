-- The pending actions are taken one by one, each behind the one before.
use Rattle.std.proofs.Common.{ℕ, zero, suc, ◌≡◌, ◌+◌, ◌<◌, ◌≤◌, true, false, List, [], ◌∷◌, ◌++◌, length, map, drop, get_or, refl, sym, ap, subst, ◌∙◌, arith, All, Some, inl, inr}
use Rattle.std.specs.Prelude.{option_map, slice_get, slice_set}
use Rattle.std.proofs.lemmas.Option.{same_Some, slice_get-get_or, slice_get-map}
use Rattle.std.specs.List.Sorted.{IsStrictlyIncreasing}
use Rattle.std.proofs.lemmas.List.Elements.{All-nil, All-cons, All-head, All-tail}
use Rattle.line_forms.specs.LineStates.{LineState}
use Rattle.line_forms.specs.Readers.{IsNotAhead, Passes}
use Rattle.line_forms.proofs.Passing.{cons_head, cons_tail, passes_none, passes_then, map_snoc}
use Rattle.agent_text.specs.declared.history.History.{History}
use Rattle.agent_text.specs.Histories.{AreHistories, IsHistory, PlainHistory, pending_ids, shown_history}
use Rattle.agent_text.specs.SavedTexts.{pending_line}
use Rattle.agent_text.specs.PartReadings.{StandsFrom, TakesPending, untold, untold_one}
use Rattle.line_forms.proofs.Lasts.{ascends}
use Rattle.line_forms.proofs.Parts.{Lines}
use Rattle.agent_text.proofs.PendingIds.{Has, Up, action_of, contains_has, has_above, has_below, has_contains, ids_more, ids_same, pending_one, two, up}

-- this place is the first, or the history before it is pending
abbrev pub IsBehindPending : List PlainHistory → ℕ → Type 0
IsBehindPending hs zero = Unit {0}
IsBehindPending [] (suc from) = ⊥
IsBehindPending (h ∷ hs) (suc zero) = h.pending ≡ true
IsBehindPending (h ∷ hs) (suc (suc from)) = IsBehindPending hs (suc from)

-- the id of a pending history behind the first
pending_tail : (h : PlainHistory) (hs : List PlainHistory) (n : ℕ) → Has (pending_ids hs) n → Has (pending_ids (h ∷ hs)) n
pending_tail h hs n k =
    let P : List ℕ → Type 0 = λ l. Has l n in
    elim (two h.pending) [
      | inl e ↦ subst P (sym (ids_more h hs e)) (inr k)
      | inr e ↦ subst P (sym (ids_same h hs e)) k
    ]

pending_head : (h : PlainHistory) (hs : List PlainHistory) → h.pending ≡ true → Has (pending_ids (h ∷ hs)) h.action
pending_head h hs e = let P : List ℕ → Type 0 = λ l. Has l h.action in subst P (sym (ids_more h hs e)) (inl refl)

-- and has an id
behind_some : (hs : List PlainHistory) (n : ℕ) → IsBehindPending hs (suc n) → (p : ℕ) × Has (pending_ids hs) p × Has (map action_of hs) p
behind_some [] n is = absurd is
behind_some (h ∷ hs) zero is = (h.action, pending_head h hs is, inl refl)
behind_some (h ∷ hs) (suc n) is = let r = behind_some hs n is in (r.0, pending_tail h hs r.0 r.1, inr r.2)

-- what holds of all pending ids holds of those behind the first history
pending_after : (P : ℕ → Type 0) (h : PlainHistory) (hs : List PlainHistory) → All P (pending_ids (h ∷ hs)) → All P (pending_ids hs)
pending_after P h hs all =
    let A : List ℕ → Type 0 = All P in
    elim (two h.pending) [
      | inl e ↦ All-tail P h.action (pending_ids hs) (subst A (ids_more h hs e) all)
      | inr e ↦ subst A (ids_same h hs e) all
    ]

-- an action above all that are pending stands from there on
stands : (hs : List PlainHistory) (from action : ℕ) → Up (map action_of hs) → IsBehindPending hs from → Has (map action_of hs) action → All (λ other. other < action) (pending_ids hs) → Has (map action_of (drop from hs)) action
stands hs zero action rise is in_hs below = in_hs
stands [] (suc from) action rise is in_hs below = absurd is
stands (h ∷ hs) (suc zero) action rise is (inl e) below =
    let less = has_below action h.action (pending_ids (h ∷ hs)) below (pending_head h hs is) in absurd (omega (arith, e, less))
stands (h ∷ hs) (suc zero) action rise is (inr k) below = k
stands (h ∷ hs) (suc (suc from)) action rise is (inl e) below =
    let s = behind_some hs from is in
    let more = has_above h.action s.0 (map action_of hs) rise.0 s.2 in
    let less = has_below action s.0 (pending_ids hs) (pending_after (λ other. other < action) h hs below) s.1 in
    absurd (omega (arith, e, more, less))
stands (h ∷ hs) (suc (suc from)) action rise is (inr k) below =
    stands hs (suc from) action rise.1 is k (pending_after (λ other. other < action) h hs below)

-- ---- one more is marked
none_after : (x : PlainHistory) (hs : List PlainHistory) → pending_ids (x ∷ hs) ≡ [] → pending_ids hs ≡ []
none_after x hs e = elim (two x.pending) [
  | inl h ↦ (let k : x.action ∷ pending_ids hs ≡ [] = sym (ids_more x hs h) ∙ e in cc)
  | inr h ↦ sym (ids_same x hs h) ∙ e
]

-- where none is pending from a place on, none is from a later one
none_from : (hs : List PlainHistory) (from place : ℕ) → from ≤ place → pending_ids (drop from hs) ≡ [] → pending_ids (drop place hs) ≡ []
none_from [] zero zero least e = e
none_from [] zero (suc place) least e = refl
none_from [] (suc from) zero least e = refl
none_from [] (suc from) (suc place) least e = refl
none_from (x ∷ hs) zero zero least e = e
none_from (x ∷ hs) zero (suc place) least e = none_from hs zero place (omega arith) (none_after x hs e)
none_from (x ∷ hs) (suc from) zero least e = absurd (omega (arith, least))
none_from (x ∷ hs) (suc from) (suc place) least e = none_from hs from place (omega (arith, least)) e

-- the pending ids with one more behind them
ids_set : (hs : List PlainHistory) (place : ℕ) (h : PlainHistory) → slice_get hs place ≡ Some h → pending_ids (drop place hs) ≡ [] → pending_ids (slice_set hs place (pending_one h)) ≡ pending_ids hs ++ h.action ∷ []
ids_set [] place h e none = cc
ids_set (x ∷ hs) zero h e none = ap (λ l. h.action ∷ l) (none_after x hs none) ∙ ap (λ l. l ++ h.action ∷ []) (sym none)
ids_set (x ∷ hs) (suc place) h e none = elim (two x.pending) [
  | inl k ↦ ids_more x (slice_set hs place (pending_one h)) k ∙ ap (λ l. x.action ∷ l) (ids_set hs place h e none) ∙ ap (λ l. l ++ h.action ∷ []) (sym (ids_more x hs k))
  | inr k ↦ ids_same x (slice_set hs place (pending_one h)) k ∙ ids_set hs place h e none ∙ ap (λ l. l ++ h.action ∷ []) (sym (ids_same x hs k))
]

-- the history that was marked is the one before
behind_set : (hs : List PlainHistory) (place : ℕ) (h : PlainHistory) → slice_get hs place ≡ Some h → IsBehindPending (slice_set hs place (pending_one h)) (suc place)
behind_set [] place h e = cc
behind_set (x ∷ hs) zero h e = refl
behind_set (x ∷ hs) (suc place) h e = behind_set hs place h e

-- the histories are the same but for that
untold_set : (hs : List PlainHistory) (place : ℕ) (h : PlainHistory) → slice_get hs place ≡ Some h → untold (slice_set hs place (pending_one h)) ≡ untold hs
untold_set [] place h e = refl
untold_set (x ∷ hs) zero h e = ap (λ y. untold_one y ∷ untold hs) (sym (same_Some x h e))
untold_set (x ∷ hs) (suc place) h e = ap (λ l. untold_one x ∷ l) (untold_set hs place h e)

-- and those behind it are untouched
drop_set : (hs : List PlainHistory) (place : ℕ) (v : PlainHistory) → drop (suc place) (slice_set hs place v) ≡ drop (suc place) hs
drop_set [] place v = refl
drop_set (x ∷ hs) zero v = refl
drop_set (x ∷ hs) (suc place) v = drop_set hs place v

-- The histories are those before, but for the pending ones, whose lines were taken; none from this place on is among them, and the
-- one before it is.
pub record IsMarkedTo (before : List PlainHistory) (from : ℕ) (start now : LineState) (hs : List PlainHistory) : Type 0 where
  pub same : untold hs ≡ before
  pub passes : Passes start now (map pending_line (pending_ids hs))
  pub none : pending_ids (drop from hs) ≡ []
  pub last : IsBehindPending hs from

-- before the first line
pub marks_none : (hs : List PlainHistory) (start : LineState) → untold hs ≡ hs → IsMarkedTo hs 0 start start hs
marks_none hs start told =
    let none = quiet hs told in
    let P : List ℕ → Type 0 = λ l. Passes start start (map pending_line l) in
    record { same = told; passes = subst P (sym none) (passes_none start); none = none; last = tt }
  where
    quiet : (hs : List PlainHistory) → untold hs ≡ hs → pending_ids hs ≡ []
    quiet [] e = refl
    quiet (x ∷ hs) e =
        let told : false ≡ x.pending = ap (λ (h : PlainHistory). h.pending) (cons_head (untold_one x) x (untold hs) hs e) in
        ids_same x hs (sym told) ∙ quiet hs (cons_tail (untold_one x) x (untold hs) hs e)

-- one line further
pub marks_more : (before : List PlainHistory) (from place : ℕ) (start mid new : LineState) (hs result : List PlainHistory) (h : PlainHistory) → IsMarkedTo before from start mid hs → from ≤ place → slice_get hs place ≡ Some h →
    Passes mid new (pending_line h.action ∷ []) → result ≡ slice_set hs place (pending_one h) → IsMarkedTo before (place + 1) start new result
marks_more before from place start mid new hs result h is least there passes result_is =
    let none = none_from hs from place least is.none in
    let set = slice_set hs place (pending_one h) in
    let next : place + 1 ≡ suc place = omega arith in
    let P : List ℕ → Type 0 = λ l. Passes start new (map pending_line l) in
    let Q : Lines → Type 0 = Passes start new in
    let R : ℕ → Type 0 = λ n. IsMarkedTo before n start new set in
    let S : List PlainHistory → Type 0 = IsMarkedTo before (place + 1) start new in
    subst S (sym result_is) (subst R (sym next) (record {
      same = untold_set hs place h there ∙ is.same;
      passes = subst P (sym (ids_set hs place h there none)) (subst Q (sym (map_snoc pending_line (pending_ids hs) h.action)) (passes_then start mid new (map pending_line (pending_ids hs)) (pending_line h.action ∷ []) is.passes passes));
      none = ap pending_ids (drop_set hs place (pending_one h)) ∙ none_from hs place (suc place) (omega arith) none;
      last = behind_set hs place h there;
    }))

-- the ids are the same, whichever are pending
pub actions_of : (hs : List PlainHistory) → map action_of (untold hs) ≡ map action_of hs
actions_of [] = refl
actions_of (x ∷ hs) = ap (λ l. x.action ∷ l) (actions_of hs)

-- histories can be saved, whichever of them are pending
pub told_histories : (before hs : List PlainHistory) → untold hs ≡ before → AreHistories before → AreHistories hs
told_histories before hs e are =
    let A : List PlainHistory → Type 0 = AreHistories in
    let there = subst A (sym e) are in
    let I : List ℕ → Type 0 = IsStrictlyIncreasing in
    record { good = all_good hs there.good; ascending = subst I (actions_of hs) there.ascending }
  where
    all_good : (hs : List PlainHistory) → All IsHistory (untold hs) → All IsHistory hs
    all_good [] h = All-nil IsHistory
    all_good (x ∷ hs) h =
        let first = All-head IsHistory (untold_one x) (untold hs) h in
        All-cons IsHistory x hs (record { action = first.action; rows = first.rows }) (all_good hs (All-tail IsHistory (untold_one x) (untold hs) h))

-- no further one is ahead
pub marks_all : (before : List PlainHistory) (from : ℕ) (start mid new : LineState) (hs : List PlainHistory) → IsMarkedTo before from start mid hs → AreHistories hs → new ≡ mid → IsNotAhead (StandsFrom hs from) pending_line mid →
    TakesPending before start new hs
marks_all before from start mid new hs is are stays none =
    let P : LineState → Type 0 = λ s. TakesPending before start s hs in
    subst P (sym stays) (record {
      same = is.same;
      passes = is.passes;
      over = λ action more can e.
          none action more (has_contains (map action_of (drop from hs)) action
          (stands hs from action (up action_of hs (ascends action_of hs are.ascending)) is.last (contains_has (map action_of hs) action can.0) can.1)) e;
    })

-- the same of the lists that show the histories
shown_set : (items : List History) (place : ℕ) (h x : History) → slice_get (map shown_history items) place ≡ Some (shown_history h) → shown_history x ≡ pending_one (shown_history h) →
    map shown_history (slice_set items place x) ≡ slice_set (map shown_history items) place (pending_one (shown_history h))
shown_set [] place h x e same = refl
shown_set (y ∷ items) zero h x e same = ap (λ z. z ∷ map shown_history items) same
shown_set (y ∷ items) (suc place) h x e same = ap (λ l. shown_history y ∷ l) (shown_set items place h x e same)

-- one line further, of such lists
pub shown_marks : (before : List PlainHistory) (from place : ℕ) (start mid new : LineState) (items : List History) (h : PlainHistory) (x : History) → IsMarkedTo before from start mid (map shown_history items) → from ≤ place →
    slice_get (map shown_history items) place ≡ Some h → Passes mid new (pending_line h.action ∷ []) → place < length items →
    let y : History = get_or items place x in let z : History = record y { pending = true } in IsMarkedTo before (place + 1) start new (map shown_history (slice_set items place z))
shown_marks before from place start mid new items h x is least there passes within =
    let y : History = get_or items place x in
    let z : History = record y { pending = true } in
    let here : slice_get items place ≡ Some y = slice_get-get_or items place x within in
    let same : h ≡ shown_history y = same_Some h (shown_history y) (sym there ∙ slice_get-map shown_history items place ∙ ap (option_map shown_history) here) in
    let S : PlainHistory → Type 0 = λ g. slice_get (map shown_history items) place ≡ Some g in
    let P : PlainHistory → Type 0 = λ g. Passes mid new (pending_line g.action ∷ []) in
    marks_more before from place start mid new (map shown_history items) (map shown_history (slice_set items place z)) (shown_history y) is least (subst S same there) (subst P same passes)
    (shown_set items place y z (subst S same there) refl)
