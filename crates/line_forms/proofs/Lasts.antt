-- Lists by their last values, and lists in ascending order. Other crates may cite these lemmas.
use Rattle.std.proofs.Common.{ℕ, zero, suc, ◌≡◌, ◌+◌, ◌-◌, ◌<◌, ◌≤◌, List, [], ◌∷◌, ◌++◌, length, map, refl, sym, ap, subst, ◌∙◌, arith, All, Option, ◌⊎◌, inl, inr, append_assoc, length-append}
use Rattle.std.specs.Prelude.{slice_get, slice_index, IfSome}
use Rattle.std.specs.List.Sorted.{IsStrictlyIncreasing}
use Rattle.std.proofs.lemmas.Option.{slice_get-get_or}
use Rattle.std.proofs.lemmas.List.Elements.{All-nil, All-cons, All-head, All-tail}
use Rattle.line_forms.specs.Readers.{EachCan}

-- what holds of all holds of the one that stands there
pub all_at : {V : Type 0} (P : V → Type 0) (before after : List V) (v : V) → All P (before ++ v ∷ after) → P v
all_at P [] after v h = All-head P v after h
all_at P (x ∷ before) after v h = all_at P before after v (All-tail P x (before ++ v ∷ after) h)

-- what each has that can stand there, all have
pub each_all : {V : Type 0} (P : V → Type 0) (Can : List V → V → Type 0) → ((before : List V) (v : V) → Can before v → P v) → (vs : List V) → EachCan Can vs → All P vs
each_all {V} P Can says vs each = from [] vs each
  where
    from : (done left : List V) → EachCan Can (done ++ left) → All P left
    from done [] h = All-nil P
    from done (v ∷ left) h =
        let E : List V → Type 0 = EachCan Can in
        All-cons P v left (says done v (h done left v refl)) (from (done ++ v ∷ []) left (subst E (sym (append_assoc done (v ∷ []) left)) h))

-- a list is empty or has a last value
pub last_or_none : {V : Type 0} (vs : List V) → (vs ≡ []) ⊎ ((before : List V) × (v : V) × (vs ≡ before ++ v ∷ []))
last_or_none [] = inl refl
last_or_none (v ∷ vs) = elim (last_or_none vs) [
  | inl e ↦ inr ([], v, ap (λ l. v ∷ l) e)
  | inr e ↦ inr (v ∷ e.0, e.1, ap (λ l. v ∷ l) e.2)
]

-- a bound on each place is one on the length
pub each_few : {V : Type 0} (most : ℕ) (Can : List V → V → Type 0) → ((before : List V) (v : V) → Can before v → length before < most) → (vs : List V) → EachCan Can vs → length vs ≤ most
each_few {V} most Can says vs each = elim (last_or_none vs) [
  | inl e ↦ (let count : length vs ≡ 0 = ap (length {A = V}) e in omega arith)
  | inr e ↦ (let below = says e.0 e.1 (each e.0 [] e.1 e.2) in let count : length vs ≡ length e.0 + 1 = ap (length {A = V}) e.2 ∙ length-append e.0 (e.1 ∷ []) in omega arith)
]

-- the last of two or more is that of those behind the first
pub last_step : {V : Type 0} (x y : V) (vs : List V) → slice_get (y ∷ vs) (length (y ∷ vs) - 1) ≡ slice_get (x ∷ y ∷ vs) (length (x ∷ y ∷ vs) - 1)
last_step x y vs =
    let h : length vs < length (y ∷ vs) = omega arith in
    let k : suc (length vs) < length (x ∷ y ∷ vs) = omega arith in
    let m : length (y ∷ vs) - 1 ≡ length vs = omega arith in
    let n : length (x ∷ y ∷ vs) - 1 ≡ suc (length vs) = omega arith in
    ap (slice_get (y ∷ vs)) m ∙ slice_get-get_or (y ∷ vs) (length vs) x h ∙ sym (slice_get-get_or (x ∷ y ∷ vs) (suc (length vs)) x k) ∙ ap (slice_get (x ∷ y ∷ vs)) (sym n)

-- the last of these, if there is one, has a lesser key
abbrev pub LastBelow : {V : Type 0} → (V → ℕ) → List V → ℕ → Type 0
LastBelow key vs n = IfSome (slice_get vs (length vs - 1)) (λ last. key last < n)

-- each value has a greater key than the one before it
abbrev pub Ascends : {V : Type 0} → (V → ℕ) → List V → Type 0
Ascends key [] = Unit {0}
Ascends key (v ∷ []) = Unit {0}
Ascends key (v ∷ w ∷ vs) = (key v < key w) × Ascends key (w ∷ vs)

-- the one before a value of an ascending list has a lesser key
pub last_below : {V : Type 0} (key : V → ℕ) (before after : List V) (v : V) → Ascends key (before ++ v ∷ after) → LastBelow key before (key v)
last_below key [] after v h = tt
last_below key (x ∷ []) after v h = h.0
last_below {V} key (x ∷ y ∷ before) after v h =
    let P : Option V → Type 0 = λ o. IfSome o (λ last. key last < key v) in
    subst P (last_step x y before) (last_below key (y ∷ before) after v h.1)

ascends_snoc : {V : Type 0} (key : V → ℕ) (vs : List V) (v : V) → Ascends key vs → LastBelow key vs (key v) → Ascends key (vs ++ v ∷ [])
ascends_snoc key [] v h k = tt
ascends_snoc key (x ∷ []) v h k = (k, tt)
ascends_snoc {V} key (x ∷ y ∷ vs) v h k =
    let P : Option V → Type 0 = λ o. IfSome o (λ last. key last < key v) in
    (h.0, ascends_snoc key (y ∷ vs) v h.1 (subst P (sym (last_step x y vs)) k))

-- values each of which has a greater key than the last ascend
pub each_ascends : {V : Type 0} (key : V → ℕ) (Can : List V → V → Type 0) → ((before : List V) (v : V) → Can before v → LastBelow key before (key v)) → (vs : List V) → EachCan Can vs → Ascends key vs
each_ascends {V} key Can says vs each = from [] vs tt each
  where
    from : (done left : List V) → Ascends key done → EachCan Can (done ++ left) → Ascends key (done ++ left)
    from done [] up h = let A : List V → Type 0 = Ascends key in subst A (sym (nothing done)) up
      where
        nothing : (vs : List V) → vs ++ [] ≡ vs
        nothing [] = refl
        nothing (x ∷ vs) = ap (λ l. x ∷ l) (nothing vs)
    from done (v ∷ left) up h =
        let E : List V → Type 0 = EachCan Can in
        let A : List V → Type 0 = Ascends key in
        let next = append_assoc done (v ∷ []) left in
        subst A next (from (done ++ v ∷ []) left (ascends_snoc key done v up (says done v (h done left v refl))) (subst E (sym next) h))

-- the same in std's words
pub increasing : {V : Type 0} (key : V → ℕ) (vs : List V) → Ascends key vs → IsStrictlyIncreasing (map key vs)
increasing key [] h k within = absurd (omega arith)
increasing key (v ∷ []) h k within = absurd (omega arith)
increasing key (v ∷ w ∷ vs) h zero within = h.0
increasing key (v ∷ w ∷ vs) h (suc k) within =
    let next : suc k + 1 ≡ suc (k + 1) = omega arith in
    let P : ℕ → Type 0 = λ n. slice_index (map key (v ∷ w ∷ vs)) (suc k) < slice_index (map key (v ∷ w ∷ vs)) n in
    subst P (sym next) (increasing key (w ∷ vs) h.1 k (omega arith))

pub ascends : {V : Type 0} (key : V → ℕ) (vs : List V) → IsStrictlyIncreasing (map key vs) → Ascends key vs
ascends key [] h = tt
ascends key (v ∷ []) h = tt
ascends key (v ∷ w ∷ vs) h = (h 0 (omega arith), ascends key (w ∷ vs) (λ k within. behind k within))
  where
    behind : (k : ℕ) → k + 1 < length (map key (w ∷ vs)) → slice_index (map key (w ∷ vs)) k < slice_index (map key (w ∷ vs)) (k + 1)
    behind k within =
        let next : suc k + 1 ≡ suc (k + 1) = omega arith in
        let P : ℕ → Type 0 = λ n. slice_index (map key (v ∷ w ∷ vs)) (suc k) < slice_index (map key (v ∷ w ∷ vs)) n in
        subst P next (h (suc k) (omega arith))

-- all behind a value have greater keys
pub above_all : {V : Type 0} (key : V → ℕ) (v : V) (vs : List V) → Ascends key (v ∷ vs) → All (λ w. key v < key w) vs
above_all key v [] h = All-nil (λ w. key v < key w)
above_all {V} key v (w ∷ vs) h = All-cons (λ w. key v < key w) w vs h.0 (weaker (key v) (key w) vs h.0 (above_all key w vs h.1))
  where
    weaker : (m n : ℕ) (vs : List V) → m < n → All (λ w. n < key w) vs → All (λ w. m < key w) vs
    weaker m n vs less all = λ k d within. let h = all k d within in omega arith

-- and what stands behind it ascends
pub ascends_tail : {V : Type 0} (key : V → ℕ) (v : V) (vs : List V) → Ascends key (v ∷ vs) → Ascends key vs
ascends_tail key v [] h = tt
ascends_tail key v (w ∷ vs) h = h.1
