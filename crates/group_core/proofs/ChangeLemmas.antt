-- The groups after a sample was put, or not.
use Rattle.std.proofs.Common.{ℕ, ◌≡◌, List, [], ◌∷◌, map, length, bytes_eq, refl, sym, ap, subst, ◌∙◌}
use Rattle.std.specs.List.{IsDistinct}
use Rattle.std.specs.Prelude.{Result, Ok, Err, OnErr}
use Rattle.group_text.specs.declared.group.Group.{Group}
use Rattle.group_core.specs.declared.kept_group.KeptGroup.{KeptGroup}
use Rattle.group_core.specs.declared.kept_row.KeptRow.{KeptRow}
use Rattle.group_core.specs.Keeping.{AreSettled, Membership, groups_of, settled, shown}
use Rattle.group_core.proofs.DefineLemmas.{group_names, groups_long, names_same}
use Rattle.group_core.proofs.KeepLemmas.{kept_names}

pub on_err : {T E P : Type 0} (r : Result T E) → P → OnErr r P
on_err (Ok x) p = tt
on_err (Err e) p = p

abbrev shown_groups : List Membership → List Group
shown_groups ms = map (λ (m : Membership). m.group) ms

groups_shown : (kept : List KeptGroup) → groups_of kept ≡ shown_groups (map shown kept)
groups_shown [] = refl
groups_shown (k ∷ kept) = ap (λ l. k.group ∷ l) (groups_shown kept)

groups_settled : (rows : List KeptRow) (kept : List KeptGroup) → shown_groups (map (settled rows) kept) ≡ groups_of kept
groups_settled rows [] = refl
groups_settled rows (k ∷ kept) = ap (λ l. k.group ∷ l) (groups_settled rows kept)

pub groups_same : (old new : List KeptGroup) → map shown new ≡ map shown old → groups_of new ≡ groups_of old
groups_same old new same = groups_shown new ∙ ap shown_groups same ∙ sym (groups_shown old)

pub groups_after : (name : List ℕ) (rows newer after : List KeptRow) (old new : List KeptGroup) → AreSettled name rows newer after old new → groups_of new ≡ groups_of old
groups_after name rows newer after old new is = groups_shown new ∙ ap shown_groups is.shows ∙ groups_settled after is.ready ∙ groups_same old is.ready is.same

pub long_same : (old new : List KeptGroup) → groups_of new ≡ groups_of old → length new ≡ length old
long_same old new same = sym (groups_long new) ∙ ap (length {A = Group}) same ∙ groups_long old

pub distinct_same : (old new : List KeptGroup) → groups_of new ≡ groups_of old → IsDistinct bytes_eq (kept_names old) → IsDistinct bytes_eq (kept_names new)
distinct_same old new same distinct =
    let D : List (List ℕ) → Type 0 = IsDistinct bytes_eq in
    subst D (names_same old ∙ ap group_names (sym same) ∙ sym (names_same new)) distinct
