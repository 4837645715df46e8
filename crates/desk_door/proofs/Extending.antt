-- The last of some texts is extended, and so the first of them the other way round.
use Rattle.std.proofs.Common.{◌≡◌, ℕ, zero, suc, ◌+◌, Bool, true, false, List, [], ◌∷◌, ◌++◌, length, take, reverse, slice_index_or, slice_set, Result, Ok, Err, OnOk, OnErr, is_ok, refl, sym, ap, subst, ◌∙◌, arith}
use Rattle.std.proofs.lemmas.List.{reverse-append}
use Rattle.std.proofs.lemmas.Bool.{false≢true}
use Rattle.desk_door.specs.Memory.{ExtendsFirst}

-- a list by its last item, and the same with another one in its place
last_at : (xs : List (List ℕ)) (n : ℕ) (v d : List ℕ) → length xs ≡ n + 1 → (xs ≡ take n xs ++ slice_index_or xs n d ∷ []) × (slice_set xs n v ≡ take n xs ++ v ∷ [])
last_at [] n v d len = absurd (omega (arith, len))
last_at (x ∷ []) zero v d len = (refl, refl)
last_at (x ∷ y ∷ ys) zero v d len = absurd (omega (arith, len))
last_at (x ∷ xs) (suc n) v d len =
    let at = last_at xs n v d (omega (arith, len)) in
    (ap (λ l. x ∷ l) at.0, ap (λ l. x ∷ l) at.1)

by_case : (ok : Bool) (piece last new : List ℕ) (before old now : List (List ℕ)) → old ≡ last ∷ before → now ≡ new ∷ before
    → (ok ≡ true → new ≡ last ++ piece) → (ok ≡ false → new ≡ last) → ExtendsFirst piece old ok now
by_case true piece last new before old now old_is now_is done undone =
    subst (λ l. ExtendsFirst piece l true now) (sym old_is) (now_is ∙ ap (λ w. w ∷ before) (done refl))
by_case false piece last new before old now old_is now_is done undone = now_is ∙ ap (λ w. w ∷ before) (undone refl) ∙ sym old_is

pub extends : (xs : List (List ℕ)) (n : ℕ) (piece last new : List ℕ) (ok : Bool) → length xs ≡ n + 1 → last ≡ slice_index_or xs n last
    → (ok ≡ true → new ≡ last ++ piece) → (ok ≡ false → new ≡ last) → ExtendsFirst piece (reverse xs) ok (reverse (slice_set xs n new))
extends xs n piece last new ok len is done undone =
    let at = last_at xs n new last len in
    let old : xs ≡ take n xs ++ last ∷ [] = at.0 ∙ ap (λ w. take n xs ++ w ∷ []) (sym is) in
    by_case ok piece last new (reverse (take n xs)) (reverse xs) (reverse (slice_set xs n new))
    (ap reverse old ∙ reverse-append (take n xs) (last ∷ []))
    (ap reverse at.1 ∙ reverse-append (take n xs) (new ∷ []))
    done undone

pub when_ok : {T E : Type 0} (r : Result T E) (ok : Bool) (P : Type 0) → ok ≡ is_ok r → OnOk r P → ok ≡ true → P
when_ok (Ok v) ok P is p holds = p
when_ok (Err e) ok P is p holds = absurd (false≢true (sym is ∙ holds))

pub when_err : {T E : Type 0} (r : Result T E) (ok : Bool) (P : Type 0) → ok ≡ is_ok r → OnErr r P → ok ≡ false → P
when_err (Ok v) ok P is p holds = absurd (false≢true (sym holds ∙ is))
when_err (Err e) ok P is p holds = p
