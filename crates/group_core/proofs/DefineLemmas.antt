-- The groups with another one, and where a group of a name stands.
use Rattle.std.proofs.Common.{ℕ, zero, suc, ◌≡◌, ◌≢◌, ◌+◌, ◌<◌, Bool, true, false, cond, List, [], ◌∷◌, ◌++◌, map, length, get_or, take, set, All, Contains, bytes_eq, refl, sym, ap, subst, ◌∙◌, arith}
use Rattle.std.specs.List.{AllByRecursion, IsDistinct}
use Rattle.std.proofs.lemmas.List.{take_more}
use Rattle.std.proofs.lemmas.List.Elements.{All-head, All-push, All-tail}
use Rattle.group_text.specs.declared.group.Group.{Group}
use Rattle.group_core.specs.declared.kept_group.KeptGroup.{KeptGroup}
use Rattle.group_core.specs.Books.{HasGroup, with_group}
use Rattle.group_core.specs.Keeping.{groups_of}
use Rattle.group_core.proofs.Sorting.{no_name, same_name, name_same}

abbrev pub group_names : List Group → List (List ℕ)
group_names groups = map (λ (g : Group). g.name) groups

-- ---- the groups of what is kept
pub groups_at : (kept : List KeptGroup) (i : ℕ) (k : KeptGroup) → i < length kept → k ≡ get_or kept i k → Contains (groups_of kept) k.group
groups_at [] i k inside is = absurd (omega (arith, inside))
groups_at (x ∷ kept) zero k inside is = (zero, omega arith, ap (λ (z : KeptGroup). z.group) (sym is))
groups_at (x ∷ kept) (suc i) k inside is = let there = groups_at kept i k (omega (arith, inside)) is in (suc there.0, omega (arith, there.1), there.2)

pub names_at : (groups : List Group) (g : Group) → Contains groups g → HasGroup groups g.name
names_at [] g (k, inside, at) = absurd (omega (arith, inside))
names_at (x ∷ groups) g (zero, inside, at) = (zero, omega arith, ap (λ (z : Group). z.name) at)
names_at (x ∷ groups) g (suc k, inside, at) = let there = names_at groups g (k, omega (arith, inside), at) in (suc there.0, omega (arith, there.1), there.2)

pub groups_set : (kept : List KeptGroup) (i : ℕ) (k : KeptGroup) → groups_of (set kept i k) ≡ set (groups_of kept) i k.group
groups_set [] i k = refl
groups_set (x ∷ kept) zero k = refl
groups_set (x ∷ kept) (suc i) k = ap (λ l. x.group ∷ l) (groups_set kept i k)

pub groups_push : (kept : List KeptGroup) (k : KeptGroup) → groups_of (kept ++ k ∷ []) ≡ groups_of kept ++ k.group ∷ []
groups_push [] k = refl
groups_push (x ∷ kept) k = ap (λ l. x.group ∷ l) (groups_push kept k)

-- none so far has the name
pub none_named : (kept : List KeptGroup) (name : List ℕ) → All (λ (k : KeptGroup). k.group.name ≡ name → ⊥) kept → HasGroup (groups_of kept) name → ⊥
none_named [] name all (k, inside, at) = omega (arith, inside)
none_named (x ∷ kept) name all (zero, inside, at) = All-head (λ (k : KeptGroup). k.group.name ≡ name → ⊥) x kept all at
none_named (x ∷ kept) name all (suc k, inside, at) = none_named kept name (All-tail (λ (k : KeptGroup). k.group.name ≡ name → ⊥) x kept all) (k, omega (arith, inside), at)

-- ---- distinct names
apart : (name : List ℕ) (groups : List Group) (k : ℕ) → AllByRecursion (λ o. bytes_eq name o ≡ false) (group_names groups) → k < length groups → (d : Group) → name ≢ (get_or groups k d).name
apart name [] k all inside d e = omega (arith, inside)
apart name (g ∷ groups) zero all inside d e = no_name name g.name all.0 e
apart name (g ∷ groups) (suc k) all inside d e = apart name groups k all.1 (omega (arith, inside)) d e

-- written where one of its name stands
pub set_with : (groups : List Group) (place : ℕ) (g d : Group) → IsDistinct bytes_eq (group_names groups) → place < length groups → (get_or groups place d).name ≡ g.name → set groups place g ≡ with_group g groups
unfolding IsDistinct
set_with [] place g d distinct inside same = absurd (omega (arith, inside))
set_with (o ∷ groups) zero g d distinct inside same = sym (ap (λ b. cond b (g ∷ groups) (o ∷ with_group g groups)) (name_same o.name g.name same))
set_with (o ∷ groups) (suc place) g d distinct inside same = by (bytes_eq o.name g.name) refl (set_with groups place g d distinct.1 (omega (arith, inside)) same)
  where
    by : (b : Bool) → bytes_eq o.name g.name ≡ b → set groups place g ≡ with_group g groups → o ∷ set groups place g ≡ cond b (g ∷ groups) (o ∷ with_group g groups)
    by true is rest = absurd (apart o.name groups place distinct.0 (omega (arith, inside)) d (same_name o.name g.name is ∙ sym same))
    by false is rest = ap (λ l. o ∷ l) rest

-- behind all where none of its name stands
pub push_with : (groups : List Group) (g : Group) → (HasGroup groups g.name → ⊥) → groups ++ g ∷ [] ≡ with_group g groups
push_with [] g none = refl
push_with (o ∷ groups) g none =
    by (bytes_eq o.name g.name) refl (push_with groups g (λ has. none (suc has.0, omega (arith, has.1), has.2)))
  where
    by : (b : Bool) → bytes_eq o.name g.name ≡ b → groups ++ g ∷ [] ≡ with_group g groups → o ∷ (groups ++ g ∷ []) ≡ cond b (g ∷ groups) (o ∷ with_group g groups)
    by true is rest = absurd (none (zero, omega arith, same_name o.name g.name is))
    by false is rest = ap (λ l. o ∷ l) rest

-- one of a name is the one of that name
pub same_at : (groups : List Group) (place k : ℕ) (d e : Group) → IsDistinct bytes_eq (group_names groups) → place < length groups → k < length groups → (get_or groups place d).name ≡ (get_or groups k e).name → place ≡ k
unfolding IsDistinct
same_at [] place k d e distinct inside also same = absurd (omega (arith, inside))
same_at (g ∷ groups) zero zero d e distinct inside also same = refl
same_at (g ∷ groups) zero (suc k) d e distinct inside also same = absurd (apart g.name groups k distinct.0 (omega (arith, also)) e same)
same_at (g ∷ groups) (suc place) zero d e distinct inside also same = absurd (apart g.name groups place distinct.0 (omega (arith, inside)) d (sym same))
same_at (g ∷ groups) (suc place) (suc k) d e distinct inside also same = ap suc (same_at groups place k d e distinct.1 (omega (arith, inside)) (omega (arith, also)) same)

-- ---- what is kept at a place
pub groups_get : (kept : List KeptGroup) (i : ℕ) (k : KeptGroup) → get_or (groups_of kept) i k.group ≡ (get_or kept i k).group
groups_get [] i k = refl
groups_get (x ∷ kept) zero k = refl
groups_get (x ∷ kept) (suc i) k = groups_get kept i k

pub groups_long : (kept : List KeptGroup) → length (groups_of kept) ≡ length kept
groups_long [] = refl
groups_long (x ∷ kept) = ap suc (groups_long kept)

-- where the group of a name is another one, this one isn't kept
pub not_kept : (kept : List KeptGroup) (place : ℕ) (k : KeptGroup) (g : Group) → IsDistinct bytes_eq (group_names (groups_of kept)) → place < length kept → k ≡ get_or kept place k → k.group.name ≡ g.name → (k.group ≡ g → ⊥)
    → Contains (groups_of kept) g → ⊥
not_kept kept place k g distinct inside is named differs (n, within, at) =
    let long = groups_long kept in
    let here : get_or (groups_of kept) place k.group ≡ k.group = groups_get kept place k ∙ ap (λ (z : KeptGroup). z.group) (sym is) in
    let same : place ≡ n =
    same_at (groups_of kept) place n k.group g distinct (omega (arith, inside, long)) within (ap (λ (z : Group). z.name) here ∙ named ∙ ap (λ (z : Group). z.name) (sym at)) in
    let there : get_or (groups_of kept) place g ≡ g = ap (λ i. get_or (groups_of kept) i g) same ∙ at in
    differs (sym here ∙ either (groups_of kept) place k.group g (omega (arith, inside, long)) ∙ there)
  where
    either : (groups : List Group) (i : ℕ) (d e : Group) → i < length groups → get_or groups i d ≡ get_or groups i e
    either [] i d e inside = absurd (omega (arith, inside))
    either (x ∷ groups) zero d e inside = refl
    either (x ∷ groups) (suc i) d e inside = either groups i d e (omega (arith, inside))

-- none of the name is kept where none so far has it
pub named_more : (kept : List KeptGroup) (name : List ℕ) (i : ℕ) (k : KeptGroup) → i < length kept → k ≡ get_or kept i k → (k.group.name ≡ name → ⊥) → All (λ (z : KeptGroup). z.group.name ≡ name → ⊥) (take i kept)
    → All (λ (z : KeptGroup). z.group.name ≡ name → ⊥) (take (i + 1) kept)
named_more kept name i k inside is other all =
    let P : KeptGroup → Type 0 = λ z. z.group.name ≡ name → ⊥ in
    let A : List KeptGroup → Type 0 = All P in
    subst A (sym (take_more kept i k inside ∙ ap (λ z. take i kept ++ z ∷ []) (sym is))) (All-push P (take i kept) k all other)

-- the names of what is kept are those of its groups
pub names_same : (kept : List KeptGroup) → map (λ (k : KeptGroup). k.group.name) kept ≡ group_names (groups_of kept)
names_same [] = refl
names_same (x ∷ kept) = ap (λ l. x.group.name ∷ l) (names_same kept)
