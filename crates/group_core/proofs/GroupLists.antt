-- Groups that are made ready and settled one after another.
use Rattle.std.proofs.Common.{ℕ, zero, suc, ◌≡◌, ◌+◌, ◌<◌, List, [], ◌∷◌, ◌++◌, map, length, get_or, take, drop, set, All, sym, ap, subst, ◌∙◌, arith}
use Rattle.std.proofs.Math.Seq.{drop-cons}
use Rattle.std.proofs.lemmas.List.{drop-set-lt, map-append, take_more, take_more_set}
use Rattle.std.proofs.lemmas.List.Elements.{All-get_or, All-push}
use Rattle.group_core.specs.declared.kept_group.KeptGroup.{KeptGroup}
use Rattle.group_core.specs.declared.kept_row.KeptRow.{KeptRow}
use Rattle.group_core.specs.Keeping.{IsReady, settled, shown}

-- what stands at a place is the same where the lists behind are
pub same_at : (xs ys : List KeptGroup) (i : ℕ) (d : KeptGroup) → i < length xs → i < length ys → drop i ys ≡ drop i xs → get_or ys i d ≡ get_or xs i d
same_at xs ys i d inside also rest = ap (λ (l : List KeptGroup). get_or l 0 d) (sym (drop-cons ys i d also) ∙ rest ∙ drop-cons xs i d inside)

pub rest_next : (xs ys : List KeptGroup) (i : ℕ) (y : KeptGroup) → i < length xs → i < length ys → drop i ys ≡ drop i xs → drop (i + 1) (set ys i y) ≡ drop (i + 1) xs
rest_next xs ys i y inside also rest =
    let next : i + 1 ≡ suc i = omega arith in
    drop-set-lt (i + 1) ys i y (omega arith) ∙ ap (λ k. drop k ys) next
    ∙ ap (drop 1) (sym (drop-cons ys i y also) ∙ rest ∙ drop-cons xs i y inside) ∙ ap (λ k. drop k xs) (sym next)

-- one group more is settled
pub settled_next : (rows : List KeptRow) (xs ys : List KeptGroup) (i : ℕ) (x y : KeptGroup) → i < length xs → i < length ys → x ≡ get_or ys i x → shown y ≡ settled rows x → map shown (take i ys) ≡ map (settled rows) (take i xs)
    → drop i ys ≡ drop i xs → map shown (take (i + 1) (set ys i y)) ≡ map (settled rows) (take (i + 1) xs)
settled_next rows xs ys i x y inside also is made done rest =
    let there : x ≡ get_or xs i x = is ∙ same_at xs ys i x inside also rest in
    ap (map shown) (take_more_set ys i y also) ∙ map-append shown (take i ys) (y ∷ [])
    ∙ (λ t. done t ++ made t ∷ []) ∙ ap (λ (z : KeptGroup). map (settled rows) (take i xs) ++ settled rows z ∷ []) there
    ∙ sym (map-append (settled rows) (take i xs) (get_or xs i x ∷ [])) ∙ ap (map (settled rows)) (sym (take_more xs i x inside))

-- one group more is ready
pub ready_next : (name : List ℕ) (rows newer : List KeptRow) (ys : List KeptGroup) (i : ℕ) (y : KeptGroup) → i < length ys → IsReady name rows newer y → All (IsReady name rows newer) (take i ys) → All (IsReady name rows newer) (take (i + 1) (set ys i y))
ready_next name rows newer ys i y inside is are =
    let P : KeptGroup → Type 0 = IsReady name rows newer in
    let A : List KeptGroup → Type 0 = All P in
    subst A (sym (take_more_set ys i y inside)) (All-push P (take i ys) y are is)

-- the same is shown where one that shows the same is written
pub shown_next : (xs ys : List KeptGroup) (i : ℕ) (x y : KeptGroup) → i < length ys → x ≡ get_or ys i x → shown y ≡ shown x → map shown ys ≡ map shown xs → map shown (set ys i y) ≡ map shown xs
shown_next xs ys i x y inside is same so = shown_set ys i x y inside is same ∙ so
  where
    shown_set : (ys : List KeptGroup) (i : ℕ) (x y : KeptGroup) → i < length ys → x ≡ get_or ys i x → shown y ≡ shown x → map shown (set ys i y) ≡ map shown ys
    shown_set [] i x y inside is same = absurd (omega (arith, inside))
    shown_set (z ∷ ys) zero x y inside is same = ap (λ m. m ∷ map shown ys) (same ∙ ap shown is)
    shown_set (z ∷ ys) (suc i) x y inside is same = ap (λ l. shown z ∷ l) (shown_set ys i x y (omega (arith, inside)) is same)

-- what holds of each group that stands as it did
pub held_at : (P : KeptGroup → Type 0) (xs ys : List KeptGroup) (i : ℕ) (x : KeptGroup) → i < length xs → i < length ys → x ≡ get_or ys i x → drop i ys ≡ drop i xs → All P xs → P x
held_at P xs ys i x inside also is rest all = subst P (sym (is ∙ same_at xs ys i x inside also rest)) (All-get_or P xs i x inside all)
