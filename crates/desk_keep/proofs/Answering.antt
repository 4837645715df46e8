-- What a keeper that tells its rows answers.
use Rattle.std.proofs.Common.{◌≡◌, List, [], ◌∷◌, map, filter, Bool, true, nat_eq, All, IfOk, OnErr, Result, Ok, Err, Some, ◌⊎◌, inl, inr, refl, sym, ap, ◌∙◌, subst}
use Rattle.std.specs.List.{AllByRecursion}
use Rattle.std.specs.List.Sorted.{IsStrictlySortedBy}
use Rattle.std.proofs.lemmas.List.Elements.{All-from_recursion, recursion_from_All, filter_passes}
use Rattle.desk_keep.specs.declared.table.Table.TheVariants.{Sites}
use Rattle.desk_keep.specs.declared.change.Change.{Change}
use Rattle.desk_keep.specs.declared.change.Change.TheVariants as change
use Rattle.desk_keep.specs.declared.answer.Found.{Found}
use Rattle.desk_keep.specs.declared.answer.Found.TheVariants as found
use Rattle.desk_keep.specs.declared.answer.Listed.{Listed}
use Rattle.desk_keep.specs.declared.answer.Listed.TheVariants as listed
use Rattle.desk_keep.specs.Keys.{Key, key_of, key_cmp}
use Rattle.desk_keep.specs.Forms.{Fits}
use Rattle.desk_keep.specs.Tables.{row_at, is_of, without_text, AreRows}
use Rattle.desk_keep.specs.Calls.{IfTold, Finds, Lists, ListsVersions}
use Rattle.desk_keep.proofs.Putting.{AreRows-filter, found_key, found_fits}

-- what holds of the rows holds where they are told
pub if_told : (rows : List Change) (P : List Change → Type 0) → P rows → IfTold (Some rows) P
if_told rows P holds other is = let one : rows ≡ other = cc in subst P one holds

-- the row of a key, or want of memory
pub finds_row : (rows : List Change) (key : Key) (row : Change) (answer : Found) → AreRows rows → Some row ≡ row_at key rows
    → (answer ≡ found.Change row) ⊎ (answer ≡ found.Memory) → Finds (Some rows) key answer
finds_row rows key row answer are at (inl is) =
    subst (Finds (Some rows) key) (sym is)
    (found_key key rows row (sym at), found_fits key rows row are.fit (sym at), if_told rows (λ all. row_at key all ≡ Some row) (sym at))
finds_row rows key row answer are at (inr is) = subst (Finds (Some rows) key) (sym is) tt

-- ---- lists

pub lists_rows : {E : Type 0} (rows : List Change) (asked : Change → Bool) (list : Result (List Change) E) (answer : Listed) → AreRows rows
    → IfOk list (λ l. l ≡ filter asked rows) → IfOk list (λ l. answer ≡ listed.Changes l) → OnErr list (answer ≡ listed.Memory) → Lists asked (Some rows) answer
lists_rows rows asked (Ok list) answer are is ok err =
    subst (Lists asked (Some rows)) (sym ok) (
      subst AreRows (sym is) (AreRows-filter asked rows are),
      subst (All (λ row. asked row ≡ true)) (sym is) (filter_passes asked rows),
      if_told rows (λ all. list ≡ filter asked all) is,
    )
lists_rows rows asked (Err e) answer are is ok err = subst (Lists asked (Some rows)) (sym err) tt

-- ---- versions

same_key_without : (row : Change) → key_of (without_text row) ≡ key_of row
same_key_without (change.Site name version text) = refl
same_key_without (change.Action id text digest) = refl
same_key_without (change.File digest bytes) = refl
same_key_without (change.Computer name) = refl
same_key_without (change.Report computer seq digest) = refl
same_key_without (change.Result result) = refl

fits_without : (row : Change) → Fits row → Fits (without_text row)
fits_without (change.Site name version text) fit = fit
fits_without (change.Action id text digest) fit = fit
fits_without (change.File digest bytes) fit = fit
fits_without (change.Computer name) fit = fit
fits_without (change.Report computer seq digest) fit = fit
fits_without (change.Result result) fit = fit

bare : (row : Change) → without_text (without_text row) ≡ without_text row
bare (change.Site name version text) = refl
bare (change.Action id text digest) = refl
bare (change.File digest bytes) = refl
bare (change.Computer name) = refl
bare (change.Report computer seq digest) = refl
bare (change.Result result) = refl

keys_without : (rows : List Change) → map key_of (map without_text rows) ≡ map key_of rows
keys_without [] = refl
keys_without (row ∷ rows) = (λ i. same_key_without row i ∷ keys_without rows i)

all_without : (P Q : Change → Type 0) → ((row : Change) → P row → Q (without_text row)) → (rows : List Change) → AllByRecursion P rows → AllByRecursion Q (map without_text rows)
all_without P Q each [] all = tt
all_without P Q each (row ∷ rows) all = (each row all.0, all_without P Q each rows all.1)

AreRows-without : (rows : List Change) → AreRows rows → AreRows (map without_text rows)
AreRows-without rows are = record {
  ascending = subst (IsStrictlySortedBy key_cmp) (sym (keys_without rows)) are.ascending;
  fit = All-from_recursion Fits (map without_text rows) (all_without Fits Fits fits_without rows (recursion_from_All Fits rows are.fit));
}

-- a row of a site without its text
abbrev pub IsBare : Change → Type 0
IsBare row = (is_of Sites row ≡ true) × (without_text row ≡ row)

bare_of : (row : Change) → is_of Sites row ≡ true → IsBare (without_text row)
bare_of row is = (ap (λ (key : Key). nat_eq key.table 0) (same_key_without row) ∙ is, bare row)

pub lists_versions : {E : Type 0} (rows : List Change) (list : Result (List Change) E) (answer : Listed) → AreRows rows
    → IfOk list (λ l. l ≡ map without_text (filter (is_of Sites) rows)) → IfOk list (λ l. answer ≡ listed.Changes l) → OnErr list (answer ≡ listed.Memory)
    → ListsVersions (Some rows) answer
lists_versions rows (Ok list) answer are is ok err =
    subst (ListsVersions (Some rows)) (sym ok) (
      subst AreRows (sym is) (AreRows-without (filter (is_of Sites) rows) (AreRows-filter (is_of Sites) rows are)),
      subst (All IsBare) (sym is)
          (All-from_recursion IsBare (map without_text (filter (is_of Sites) rows)) (all_without (λ row. is_of Sites row ≡ true) IsBare bare_of (filter (is_of Sites) rows) (recursion_from_All (λ row. is_of Sites row ≡ true) (filter (is_of Sites) rows) (filter_passes (is_of Sites) rows)))),
      if_told rows (λ all. list ≡ map without_text (filter (is_of Sites) all)) is,
    )
lists_versions rows (Err e) answer are is ok err = subst (ListsVersions (Some rows)) (sym err) tt
