-- A row above the last one follows, and no other does. Other crates may cite these lemmas.
use Rattle.std.proofs.Common.{◌≡◌, ◌-◌, List, [], ◌∷◌, ◌++◌, map, length, slice_get, Some, All, IfSome, refl, sym, ap, ◌∙◌, subst, arith}
use Rattle.std.specs.declared.cmp.Ordering.TheVariants.{Less}
use Rattle.std.specs.List.{AllByRecursion}
use Rattle.std.specs.List.Sorted.{IsStrictlySortedBy}
use Rattle.std.proofs.lemmas.List.{map-append}
use Rattle.std.proofs.lemmas.List.Elements.{All-push, All-head, All-tail}
use Rattle.desk_keep.specs.declared.change.Change.{Change}
use Rattle.desk_keep.specs.Keys.{Key, key_of, key_cmp}
use Rattle.desk_keep.specs.Forms.{Fits}
use Rattle.desk_keep.specs.Tables.{AreRows}
use Rattle.desk_keep.specs.Inside.{IsAboveLast}
use Rattle.desk_keep.proofs.KeyOrder.{key_total}
use Rattle.line_forms.proofs.Sorted.{sorted_around}

-- the last of these rows, the first of which is given
abbrev pub last_of : Change → List Change → Change
last_of here [] = here
last_of here (next ∷ rest) = last_of next rest

last_is : (here : Change) (rest : List Change) → slice_get (here ∷ rest) (length rest) ≡ Some (last_of here rest)
last_is here [] = refl
last_is here (next ∷ rest) = last_is next rest

above_last : (here : Change) (rest : List Change) (row : Change) → IsAboveLast (here ∷ rest) row → key_cmp (key_of (last_of here rest)) (key_of row) ≡ Less
above_last here rest row above =
    let at : length (here ∷ rest) - 1 ≡ length rest = omega arith in
    subst (λ found. IfSome found (λ last. key_cmp (key_of last) (key_of row) ≡ Less)) (ap (slice_get (here ∷ rest)) at ∙ last_is here rest) above

is_above_last : (here : Change) (rest : List Change) (row : Change) → key_cmp (key_of (last_of here rest)) (key_of row) ≡ Less → IsAboveLast (here ∷ rest) row
is_above_last here rest row less =
    let at : length (here ∷ rest) - 1 ≡ length rest = omega arith in
    subst (λ found. IfSome found (λ last. key_cmp (key_of last) (key_of row) ≡ Less)) (sym (ap (slice_get (here ∷ rest)) at ∙ last_is here rest)) less

all_below : (here : Change) (rest : List Change) (row : Change) → IsStrictlySortedBy key_cmp (map key_of (here ∷ rest)) → key_cmp (key_of (last_of here rest)) (key_of row) ≡ Less
    → AllByRecursion (λ key. key_cmp key (key_of row) ≡ Less) (map key_of (here ∷ rest))
unfolding IsStrictlySortedBy
all_below here [] row sorted less = (less, tt)
all_below here (next ∷ rest) row sorted less =
    let later = all_below next rest row sorted.1 less in
    (key_total.trans (key_of here) (key_of next) (key_of row) sorted.0.0 later.0, later)

sorted_one : (key : Key) → IsStrictlySortedBy key_cmp (key ∷ [])
unfolding IsStrictlySortedBy
sorted_one key = (tt, tt)

sorted_none : IsStrictlySortedBy key_cmp []
unfolding IsStrictlySortedBy
sorted_none = tt

pub AreRows-nil : AreRows []
AreRows-nil = record { ascending = sorted_none; fit = λ k d inside. absurd (omega arith) }

sorted_push : (rows : List Change) (row : Change) → IsStrictlySortedBy key_cmp (map key_of rows) → IsAboveLast rows row → IsStrictlySortedBy key_cmp (map key_of (rows ++ row ∷ []))
sorted_push [] row sorted above = sorted_one (key_of row)
sorted_push (here ∷ rest) row sorted above =
    subst (IsStrictlySortedBy key_cmp) (sym (map-append key_of (here ∷ rest) (row ∷ [])))
    (sorted_around key_total (map key_of (here ∷ rest)) (key_of row) [] sorted (all_below here rest row sorted (above_last here rest row above)) tt sorted_none)

pub AreRows-push : (rows : List Change) (row : Change) → Fits row → IsAboveLast rows row → AreRows rows → AreRows (rows ++ row ∷ [])
AreRows-push rows row fits above are = record { ascending = sorted_push rows row are.ascending above; fit = All-push Fits rows row are.fit fits }

last_less : (here : Change) (rest : List Change) (row : Change) → IsStrictlySortedBy key_cmp (map key_of (here ∷ (rest ++ row ∷ []))) → key_cmp (key_of (last_of here rest)) (key_of row) ≡ Less
unfolding IsStrictlySortedBy
last_less here [] row sorted = sorted.0.0
last_less here (next ∷ rest) row sorted = last_less next rest row sorted.1

-- what stands last in rows is above those before it, and fits
pub pushed_above : (rows : List Change) (row : Change) → AreRows (rows ++ row ∷ []) → IsAboveLast rows row
pushed_above [] row are = tt
pushed_above (here ∷ rest) row are = is_above_last here rest row (last_less here rest row are.ascending)

pub pushed_fits : (rows : List Change) (row : Change) → AreRows (rows ++ row ∷ []) → Fits row
pushed_fits rows row are = last_fits rows row are.fit
  where
    last_fits : (rows : List Change) (row : Change) → All Fits (rows ++ row ∷ []) → Fits row
    last_fits [] row fit = All-head Fits row [] fit
    last_fits (here ∷ rest) row fit = last_fits rest row (All-tail Fits here (rest ++ row ∷ []) fit)
