-- The ids of pending actions, and the histories that they mark.
use Rattle.std.proofs.Common.{ℕ, zero, suc, ◌≡◌, ◌≢◌, ◌<◌, ◌≤◌, ◌==◌, cond, Bool, true, false, List, [], ◌∷◌, ◌++◌, map, refl, sym, ap, subst, ◌∙◌, arith, All, ◌⊎◌, inl, inr}
use Rattle.std.specs.Prelude.{Contains, filter}
use Rattle.std.proofs.lemmas.Bool.{cases_eq}
use Rattle.std.proofs.lemmas.Bool.Decides.{nat_tests}
use Rattle.std.proofs.lemmas.List.Elements.{All-nil, All-cons, All-head, All-tail, All-map, Contains-append_right}
use Rattle.line_forms.specs.Readers.{EachCan}
use Rattle.agent_text.specs.Histories.{PlainHistory, pending_ids}
use Rattle.agent_text.specs.PartReadings.{untold, untold_one}
use Rattle.line_forms.proofs.Lasts.{Ascends, above_all, all_at, ascends_tail, each_all}

-- the id of a history
abbrev pub action_of : PlainHistory → ℕ
action_of h = h.action

-- ---- numbers in a list, and numbers that go up
abbrev pub Has : List ℕ → ℕ → Type 0
Has [] n = ⊥
Has (m ∷ ms) n = (m ≡ n) ⊎ Has ms n

-- the same in other words
pub contains_has : (ms : List ℕ) (n : ℕ) → Contains ms n → Has ms n
contains_has [] n (k, within, e) = absurd (omega (arith, within))
contains_has (m ∷ ms) n (zero, within, e) = inl e
contains_has (m ∷ ms) n (suc k, within, e) = inr (contains_has ms n (k, omega (arith, within), e))

pub has_contains : (ms : List ℕ) (n : ℕ) → Has ms n → Contains ms n
has_contains [] n h = absurd h
has_contains (m ∷ ms) n (inl e) = (0, omega arith, e)
has_contains (m ∷ ms) n (inr h) = Contains-append_right (m ∷ []) ms n (has_contains ms n h)

-- each number is below all behind it
abbrev pub Up : List ℕ → Type 0
Up [] = Unit {0}
Up (n ∷ ns) = All (λ m. n < m) ns × Up ns

-- the keys of an ascending list go up
pub up : {V : Type 0} (key : V → ℕ) (vs : List V) → Ascends key vs → Up (map key vs)
up key [] h = tt
up key (v ∷ vs) h = (All-map (λ m. key v < m) key vs (above_all key v vs h), up key vs (ascends_tail key v vs h))

-- the numbers before one are below it
up_before : (before after : List ℕ) (n : ℕ) → Up (before ++ n ∷ after) → All (λ m. m < n) before
up_before [] after n h = All-nil (λ m. m < n)
up_before (x ∷ before) after n h = All-cons (λ m. m < n) x before (all_at (λ m. x < m) before after n h.0) (up_before before after n h.1)

-- a number of those above another, or below it
pub has_above : (n m : ℕ) (ns : List ℕ) → All (λ m. n < m) ns → Has ns m → n < m
has_above n m [] all h = absurd h
has_above n m (x ∷ ns) all (inl e) = let h = All-head (λ m. n < m) x ns all in omega arith
has_above n m (x ∷ ns) all (inr h) = has_above n m ns (All-tail (λ m. n < m) x ns all) h

pub has_below : (n m : ℕ) (ns : List ℕ) → All (λ m. m < n) ns → Has ns m → m < n
has_below n m [] all h = absurd h
has_below n m (x ∷ ns) all (inl e) = let h = All-head (λ m. m < n) x ns all in omega arith
has_below n m (x ∷ ns) all (inr h) = has_below n m ns (All-tail (λ m. m < n) x ns all) h

all_has : (P : ℕ → Type 0) (ns : List ℕ) → ((n : ℕ) → Has ns n → P n) → All P ns
all_has P [] h = All-nil P
all_has P (n ∷ ns) h = All-cons P n ns (h n (inl refl)) (all_has P ns (λ m k. h m (inr k)))

at_has : (before after : List ℕ) (n : ℕ) → Has (before ++ n ∷ after) n
at_has [] after n = inl refl
at_has (x ∷ before) after n = inr (at_has before after n)

-- a test is true or false
pub two : (b : Bool) → (b ≡ true) ⊎ (b ≡ false)
two true = inl refl
two false = inr refl

-- ---- the pending ones are some of all
pub ids_more : (x : PlainHistory) (hs : List PlainHistory) → x.pending ≡ true → pending_ids (x ∷ hs) ≡ x.action ∷ pending_ids hs
ids_more x hs e = ap (λ b. map action_of (cond b (x ∷ filter (λ h. h.pending) hs) (filter (λ h. h.pending) hs))) e

pub ids_same : (x : PlainHistory) (hs : List PlainHistory) → x.pending ≡ false → pending_ids (x ∷ hs) ≡ pending_ids hs
ids_same x hs e = ap (λ b. map action_of (cond b (x ∷ filter (λ h. h.pending) hs) (filter (λ h. h.pending) hs))) e

-- a pending id is one of all
pub pending_has : (hs : List PlainHistory) (n : ℕ) → Has (pending_ids hs) n → Has (map action_of hs) n
pending_has [] n h = h
pending_has (x ∷ hs) n h =
    let P : List ℕ → Type 0 = λ l. Has l n in
    elim (two x.pending) [
      | inl e ↦ first (λ k. pending_has hs n k) (subst P (ids_more x hs e) h)
      | inr e ↦ inr (pending_has hs n (subst P (ids_same x hs e) h))
    ]
  where
    first : (Has (pending_ids hs) n → Has (map action_of hs) n) → Has (x.action ∷ pending_ids hs) n → Has (x.action ∷ map action_of hs) n
    first behind (inl e) = inl e
    first behind (inr h) = inr (behind h)

-- and they go up
up_pending : (hs : List PlainHistory) → Up (map action_of hs) → Up (pending_ids hs)
up_pending [] h = tt
up_pending (x ∷ hs) h =
    let U : List ℕ → Type 0 = Up in
    elim (two x.pending) [
      | inl e ↦ subst U (sym (ids_more x hs e)) (all_has (λ m. x.action < m) (pending_ids hs) (λ n k. has_above x.action n (map action_of hs) h.0 (pending_has hs n k)), up_pending hs h.1)
      | inr e ↦ subst U (sym (ids_same x hs e)) (up_pending hs h.1)
    ]

-- an id of these, above those before it
abbrev pub CanBePending : List ℕ → List ℕ → ℕ → Type 0
CanBePending actions before id = Contains actions id × All (λ other. other < id) before

-- each pending id can stand behind those before it
pub each_pending : (hs : List PlainHistory) → Ascends action_of hs → EachCan (CanBePending (map action_of hs)) (pending_ids hs)
each_pending hs h before after id e =
    let U : List ℕ → Type 0 = Up in
    let P : List ℕ → Type 0 = λ l. Has l id in (
      has_contains (map action_of hs) id (pending_has hs id (subst P (sym e) (at_has before after id))),
      up_before before after id (subst U e (up_pending hs (up action_of hs h))),
    )

-- ids each of which can stand behind those before it go up
pub each_up : (actions ids : List ℕ) → EachCan (CanBePending actions) ids → Up ids
each_up actions ids each = rise ids (λ before after id e. (each before after id e).1)
  where
    rise : (ids : List ℕ) → EachCan (λ before id. All (λ other. other < id) before) ids → Up ids
    rise [] h = tt
    rise (n ∷ ns) h = (
      each_all (λ m. n < m) (λ before m. n < m) (λ before m less. less) ns (λ before after m e. All-head (λ other. other < m) n before (h (n ∷ before) after m (ap (λ l. n ∷ l) e))),
      rise ns (λ before after m e. All-tail (λ other. other < m) n before (h (n ∷ before) after m (ap (λ l. n ∷ l) e))),
    )

-- and all are among the ids
pub each_has : (actions ids : List ℕ) → EachCan (CanBePending actions) ids → All (Has actions) ids
each_has actions ids each = each_all (Has actions) (CanBePending actions) (λ before id can. contains_has actions id can.0) ids each

-- ---- the histories that ids mark
abbrev pub pending_one : PlainHistory → PlainHistory
pending_one h = record h { pending = true }

-- the histories, of which those of these ids are pending
abbrev pub marked : List PlainHistory → List ℕ → List PlainHistory
marked [] ids = []
marked (h ∷ hs) [] = h ∷ marked hs []
marked (h ∷ hs) (id ∷ ids) = cond (h.action == id) (pending_one h ∷ marked hs ids) (h ∷ marked hs (id ∷ ids))

-- they are the same but for that
pub untold_marked : (hs : List PlainHistory) (ids : List ℕ) → untold (marked hs ids) ≡ untold hs
untold_marked [] ids = refl
untold_marked (h ∷ hs) [] = ap (λ l. untold_one h ∷ l) (untold_marked hs [])
untold_marked (h ∷ hs) (id ∷ ids) = either (h.action == id) (untold_marked hs ids) (untold_marked hs (id ∷ ids))
  where
    either : (b : Bool) → untold (marked hs ids) ≡ untold hs → untold (marked hs (id ∷ ids)) ≡ untold hs → untold (cond b (pending_one h ∷ marked hs ids) (h ∷ marked hs (id ∷ ids))) ≡ untold (h ∷ hs)
    either true same other = ap (λ l. untold_one h ∷ l) same
    either false same other = ap (λ l. untold_one h ∷ l) other

-- no history is pending
abbrev pub NonePending : List PlainHistory → Type 0
NonePending hs = All (λ h. h.pending ≡ false) hs

-- no id marks no history
none_marked : (hs : List PlainHistory) → NonePending hs → pending_ids (marked hs []) ≡ []
none_marked [] h = refl
none_marked (x ∷ hs) h = ids_same x (marked hs []) (All-head (λ h. h.pending ≡ false) x hs h) ∙ none_marked hs (All-tail (λ h. h.pending ≡ false) x hs h)

-- ids behind the first history
later : (n m : ℕ) (actions ids : List ℕ) → n ≤ m → All (λ k. m < k) ids → All (Has (n ∷ actions)) ids → All (Has actions) ids
later n m actions [] less above h = All-nil (Has actions)
later n m actions (k ∷ ids) less above h =
    All-cons (Has actions) k ids (not_first (All-head (Has (n ∷ actions)) k ids h)) (later n m actions ids less (All-tail (λ k. m < k) k ids above) (All-tail (Has (n ∷ actions)) k ids h))
  where
    not_first : Has (n ∷ actions) k → Has actions k
    not_first (inl e) = let more = All-head (λ k. m < k) k ids above in absurd (omega arith)
    not_first (inr h) = h

-- and the pending ones are those of the ids
pub ids_marked : (hs : List PlainHistory) (ids : List ℕ) → NonePending hs → Up (map action_of hs) → Up ids → All (Has (map action_of hs)) ids → pending_ids (marked hs ids) ≡ ids
ids_marked [] [] none rise go in_hs = refl
ids_marked [] (id ∷ ids) none rise go in_hs = absurd (All-head (Has []) id ids in_hs)
ids_marked (h ∷ hs) [] none rise go in_hs = none_marked (h ∷ hs) none
ids_marked (h ∷ hs) (id ∷ ids) none rise go in_hs =
    let tail = All-tail (λ h. h.pending ≡ false) h hs none in
    let in_tail = All-tail (Has (map action_of (h ∷ hs))) id ids in_hs in
    elim (cases_eq h.action id) [
      | inl same ↦ at_first same (ids_marked hs ids tail rise.1 go.1 (later h.action id (map action_of hs) ids (omega (arith, same)) go.0 in_tail))
      | inr other ↦
          let id_in = behind other in
          let less = has_above h.action id (map action_of hs) rise.0 id_in in
          not_first other (ids_marked hs (id ∷ ids) tail rise.1 go (All-cons (Has (map action_of hs)) id ids id_in (later h.action id (map action_of hs) ids (omega (arith, less)) go.0 in_tail)))
    ]
  where
    is_first : h.action ≡ id → (h.action == id) ≡ true
    is_first e = grind (arith, nat_tests)

    isnt_first : h.action ≢ id → (h.action == id) ≡ false
    isnt_first e = grind (arith, nat_tests)

    either : (b : Bool) → (h.action == id) ≡ b → pending_ids (marked (h ∷ hs) (id ∷ ids)) ≡ pending_ids (cond b (pending_one h ∷ marked hs ids) (h ∷ marked hs (id ∷ ids)))
    either b e = ap (λ b. pending_ids (cond b (pending_one h ∷ marked hs ids) (h ∷ marked hs (id ∷ ids)))) e

    at_first : h.action ≡ id → pending_ids (marked hs ids) ≡ ids → pending_ids (marked (h ∷ hs) (id ∷ ids)) ≡ id ∷ ids
    at_first same again = either true (is_first same) ∙ ap (λ n. n ∷ pending_ids (marked hs ids)) same ∙ ap (λ l. id ∷ l) again

    behind : h.action ≢ id → Has (map action_of hs) id
    behind other = only (All-head (Has (map action_of (h ∷ hs))) id ids in_hs)
      where
        only : Has (h.action ∷ map action_of hs) id → Has (map action_of hs) id
        only (inl e) = absurd (other e)
        only (inr k) = k

    not_first : h.action ≢ id → pending_ids (marked hs (id ∷ ids)) ≡ id ∷ ids → pending_ids (marked (h ∷ hs) (id ∷ ids)) ≡ id ∷ ids
    not_first other again = either false (isnt_first other) ∙ ids_same h (marked hs (id ∷ ids)) (All-head (λ h. h.pending ≡ false) h hs none) ∙ again

-- histories are those that their pending ids mark
pub marked_again : (hs : List PlainHistory) → Up (map action_of hs) → marked (untold hs) (pending_ids hs) ≡ hs
marked_again [] h = refl
marked_again (x ∷ hs) h =
    let P : List ℕ → Type 0 = λ l. marked (untold_one x ∷ untold hs) l ≡ x ∷ hs in
    elim (two x.pending) [
      | inl e ↦ subst P (sym (ids_more x hs e)) (told e (marked_again hs h.1))
      | inr e ↦ subst P (sym (ids_same x hs e)) (quiet e (pending_ids hs) (λ n k. has_above x.action n (map action_of hs) h.0 (pending_has hs n k)) (marked_again hs h.1))
    ]
  where
    itself : x.action == x.action ≡ true
    itself = grind (arith, nat_tests)

    pending_is : (b : Bool) → x.pending ≡ b → (let y : PlainHistory = record { action = x.action; rows = x.rows; pending = b } in y) ≡ x
    pending_is b e = ap (λ (b : Bool). let y : PlainHistory = record { action = x.action; rows = x.rows; pending = b } in y) (sym e)

    told : x.pending ≡ true → marked (untold hs) (pending_ids hs) ≡ hs → marked (untold_one x ∷ untold hs) (x.action ∷ pending_ids hs) ≡ x ∷ hs
    told e again =
        ap (λ b. cond b (pending_one (untold_one x) ∷ marked (untold hs) (pending_ids hs)) (untold_one x ∷ marked (untold hs) (x.action ∷ pending_ids hs))) itself
        ∙ ap (λ y. y ∷ marked (untold hs) (pending_ids hs)) (pending_is true e) ∙ ap (λ l. x ∷ l) again

    isnt_first : (id : ℕ) → x.action < id → (x.action == id) ≡ false
    isnt_first id less = grind (arith, nat_tests)

    quiet : x.pending ≡ false → (ids : List ℕ) → ((n : ℕ) → Has ids n → x.action < n) → marked (untold hs) ids ≡ hs → marked (untold_one x ∷ untold hs) ids ≡ x ∷ hs
    quiet e [] above again = ap (λ y. y ∷ marked (untold hs) []) (pending_is false e) ∙ ap (λ l. x ∷ l) again
    quiet e (id ∷ ids) above again =
        ap (λ b. cond b (pending_one (untold_one x) ∷ marked (untold hs) ids) (untold_one x ∷ marked (untold hs) (id ∷ ids))) (isnt_first id (above id (inl refl)))
        ∙ ap (λ y. y ∷ marked (untold hs) (id ∷ ids)) (pending_is false e) ∙ ap (λ l. x ∷ l) again
