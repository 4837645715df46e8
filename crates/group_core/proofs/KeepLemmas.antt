-- What is kept with another group.
use Rattle.std.proofs.Common.{ℕ, zero, suc, ◌≡◌, ◌<◌, Bool, true, false, List, [], ◌∷◌, ◌++◌, map, length, get_or, set, Contains, bytes_eq, refl, sym, ap, subst, ◌∙◌, arith}
use Rattle.std.specs.List.{AllByRecursion, IsDistinct}
use Rattle.group_text.specs.declared.group.Group.{Group}
use Rattle.group_sample.specs.declared.sample.Sample.{Sample}
use Rattle.group_core.specs.declared.computers.Computer.{Computer}
use Rattle.group_core.specs.declared.kept_group.KeptGroup.{KeptGroup}
use Rattle.group_core.specs.Books.{HasGroup, with_group}
use Rattle.group_core.specs.Keeping.{fitting_names, groups_of}
use Rattle.group_core.specs.Lists.{AreComputers, row_at}
use Rattle.group_core.specs.Members.{AreMembers}
use Rattle.group_core.specs.Tables.{table_row}
use Rattle.group_core.proofs.DefineLemmas.{groups_get, groups_long, groups_push, groups_set, names_same, push_with, set_with}
use Rattle.group_core.proofs.FittingLemmas.{fitting_are_members}
use Rattle.group_core.proofs.Sorting.{same_name}

abbrev pub kept_names : List KeptGroup → List (List ℕ)
kept_names kept = map (λ (k : KeptGroup). k.group.name) kept

pub names_set : (kept : List KeptGroup) (place : ℕ) (k d : KeptGroup) → place < length kept → (get_or kept place d).group.name ≡ k.group.name → kept_names (set kept place k) ≡ kept_names kept
names_set [] place k d inside same = refl
names_set (x ∷ kept) zero k d inside same = λ i. sym same i ∷ kept_names kept
names_set (x ∷ kept) (suc place) k d inside same = ap (λ l. x.group.name ∷ l) (names_set kept place k d (omega (arith, inside)) same)

all_push : (P : List ℕ → Type 0) (ns : List (List ℕ)) (n : List ℕ) → AllByRecursion P ns → P n → AllByRecursion P (ns ++ n ∷ [])
all_push P [] n all is = (is, tt)
all_push P (m ∷ ns) n all is = (all.0, all_push P ns n all.1 is)

distinct_push : (ns : List (List ℕ)) (n : List ℕ) → IsDistinct bytes_eq ns → (Contains ns n → ⊥) → IsDistinct bytes_eq (ns ++ n ∷ [])
unfolding IsDistinct
distinct_push [] n distinct none = (tt, tt)
distinct_push (m ∷ ns) n distinct none =
    (all_push (λ o. bytes_eq m o ≡ false) ns n distinct.0 (apart (bytes_eq m n) refl), distinct_push ns n distinct.1 (λ has. none (suc has.0, omega (arith, has.1), has.2)))
  where
    apart : (b : Bool) → bytes_eq m n ≡ b → bytes_eq m n ≡ false
    apart false e = e
    apart true e = absurd (none (zero, omega arith, same_name m n e))

names_push : (kept : List KeptGroup) (k : KeptGroup) → kept_names (kept ++ k ∷ []) ≡ kept_names kept ++ k.group.name ∷ []
names_push [] k = refl
names_push (x ∷ kept) k = ap (λ l. x.group.name ∷ l) (names_push kept k)

pub distinct_with : (kept : List KeptGroup) (k : KeptGroup) → IsDistinct bytes_eq (kept_names kept) → (HasGroup (groups_of kept) k.group.name → ⊥) → IsDistinct bytes_eq (kept_names (kept ++ k ∷ []))
distinct_with kept k distinct none =
    let D : List (List ℕ) → Type 0 = IsDistinct bytes_eq in
    let N : List (List ℕ) → Type 0 = λ ns. Contains ns k.group.name in
    subst D (sym (names_push kept k)) (distinct_push (kept_names kept) k.group.name distinct (λ has. none (subst N (names_same kept) has)))

-- the members of a new group
pub kept_members : (samples : List Sample) (computers : List Computer) (g : Group) (k : KeptGroup) → AreComputers computers → ((c p : List ℕ) → row_at computers c p ≡ table_row samples c p) → k.group ≡ g
    → k.members.items ≡ fitting_names g computers → AreMembers samples k.group k.members.items
kept_members samples computers g k are table same members =
    let G : Group → Type 0 = λ h. AreMembers samples h k.members.items in
    let M : List (List ℕ) → Type 0 = λ l. AreMembers samples g l in
    subst G (sym same) (subst M (sym members) (fitting_are_members samples computers g are table))

-- the groups with it
pub groups_written : (kept : List KeptGroup) (place : ℕ) (k : KeptGroup) (g : Group) → IsDistinct bytes_eq (kept_names kept) → place < length kept → (get_or kept place k).group.name ≡ g.name → k.group ≡ g
    → groups_of (set kept place k) ≡ with_group g (groups_of kept)
groups_written kept place k g distinct inside named same =
    let D : List (List ℕ) → Type 0 = IsDistinct bytes_eq in
    let long = groups_long kept in
    groups_set kept place k ∙ ap (λ h. set (groups_of kept) place h) same
    ∙ set_with (groups_of kept) place g k.group (subst D (names_same kept) distinct) (omega (arith, inside, long)) (ap (λ (h : Group). h.name) (groups_get kept place k) ∙ named)

pub groups_behind : (kept : List KeptGroup) (k : KeptGroup) (g : Group) → (HasGroup (groups_of kept) g.name → ⊥) → k.group ≡ g → groups_of (kept ++ k ∷ []) ≡ with_group g (groups_of kept)
groups_behind kept k g none same = groups_push kept k ∙ (λ i. groups_of kept ++ same i ∷ []) ∙ push_with (groups_of kept) g none
