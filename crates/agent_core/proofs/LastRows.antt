-- The last row of an action.
use Rattle.std.proofs.Common.{ℕ, zero, suc, ◌≡◌, ◌+◌, ◌-◌, ◌<◌, List, [], ◌∷◌, length, get_or, ap, subst, arith, Some}
use Rattle.std.specs.Prelude.{All}
use Rattle.std.proofs.lemmas.Option.{get_or_from_slice_get, slice_get-get_or, slice_get_within}
use Rattle.act_rules.specs.declared.row.Row.{Row}
use Rattle.act_rules.specs.Rows.{AreNumbered, last_row}

pub last_is : (rows : List Row) → 0 < length rows → (row : Row) × (last_row rows ≡ Some row)
last_is [] some = absurd (omega arith)
last_is (x ∷ rows) some =
    let i = length (x ∷ rows) - 1 in
    (get_or (x ∷ rows) i x, slice_get-get_or (x ∷ rows) i x (omega arith))

-- what holds of each holds of the last
pub last_holds : (P : Row → Type 0) (rows : List Row) (row : Row) → last_row rows ≡ Some row → All P rows → P row
last_holds P rows row last all =
    let i = length rows - 1 in
    subst P (get_or_from_slice_get rows i row row last) (all i row (slice_get_within rows i row last))

numbered_at : (n : ℕ) (rows : List Row) (k : ℕ) (d : Row) → AreNumbered n rows → k < length rows → (get_or rows k d).number ≡ n + k
numbered_at n [] k d are inside = absurd (omega arith)
numbered_at n (x ∷ rows) zero d are inside = omega (arith, are.0)
numbered_at n (x ∷ rows) (suc k) d are inside = omega (arith, numbered_at (n + 1) rows k d are.1 (omega arith))

-- its number is how many there are
pub last_number : (rows : List Row) (row : Row) → AreNumbered 1 rows → last_row rows ≡ Some row → row.number ≡ length rows
last_number rows row are last =
    let i = length rows - 1 in
    let within : i < length rows = slice_get_within rows i row last in
    let there : (get_or rows i row).number ≡ 1 + i = numbered_at 1 rows i row are within in
    let same : (get_or rows i row).number ≡ row.number = ap (λ (r : Row). r.number) (get_or_from_slice_get rows i row row last) in
    omega arith
