-- What a keeper that tells no rows answers.
use Rattle.std.proofs.Common.{◌≡◌, List, [], ◌∷◌, ◌++◌, arith, Bool, true, All, IfOk, OnErr, Result, Ok, Err, None, ◌⊎◌, inl, inr, sym, subst}
use Rattle.std.proofs.lemmas.List.Elements.{All-push}
use Rattle.desk_keep.specs.declared.table.Table.TheVariants.{Sites}
use Rattle.desk_keep.specs.declared.change.Change.{Change}
use Rattle.desk_keep.specs.declared.answer.Listed.{Listed}
use Rattle.desk_keep.specs.declared.answer.Listed.TheVariants as listed
use Rattle.desk_keep.specs.Tables.{is_of, without_text, AreRows}
use Rattle.desk_keep.specs.Calls.{IfTold, Lists, ListsVersions}
use Rattle.desk_keep.proofs.Following.{AreRows-nil}

pub nothing_told : (P : List Change → Type 0) → IfTold None P
nothing_told P rows told = let no : ⊥ = cc in absurd no

pub lists_untold : {E : Type 0} (asked : Change → Bool) (list : Result (List Change) E) (answer : Listed) → IfOk list AreRows → IfOk list (All (λ row. asked row ≡ true))
    → IfOk list (λ l. answer ≡ listed.Changes l) → OnErr list ((answer ≡ listed.Failed) ⊎ (answer ≡ listed.Memory)) → Lists asked None answer
lists_untold asked (Ok list) answer are all ok err = subst (Lists asked None) (sym ok) (are, all, nothing_told _)
lists_untold asked (Err e) answer are all ok (inl is) = subst (Lists asked None) (sym is) tt
lists_untold asked (Err e) answer are all ok (inr is) = subst (Lists asked None) (sym is) tt

pub versions_untold : {E : Type 0} (list : Result (List Change) E) (answer : Listed) → IfOk list AreRows → IfOk list (All (λ row. (is_of Sites row ≡ true) × (without_text row ≡ row)))
    → IfOk list (λ l. answer ≡ listed.Changes l) → OnErr list ((answer ≡ listed.Failed) ⊎ (answer ≡ listed.Memory)) → ListsVersions None answer
versions_untold (Ok list) answer are all ok err = subst (ListsVersions None) (sym ok) (are, all, nothing_told _)
versions_untold (Err e) answer are all ok (inl is) = subst (ListsVersions None) (sym is) tt
versions_untold (Err e) answer are all ok (inr is) = subst (ListsVersions None) (sym is) tt

-- ---- rows that are appended one by one

pub none_yet : (P : Change → Type 0) (rows : List Change) → rows ≡ [] → AreRows rows × All P rows
none_yet P rows none = (subst AreRows (sym none) AreRows-nil, subst (All P) (sym none) (λ k d inside. absurd (omega (arith, inside))))

pub one_more : (P : Change → Type 0) (old new : List Change) (row : Change) → new ≡ old ++ row ∷ [] → (AreRows old → AreRows new) → P row → AreRows old × All P old → AreRows new × All P new
one_more P old new row pushed rows holds so_far = (rows so_far.0, subst (All P) (sym pushed) (All-push P old row so_far.1 holds))
