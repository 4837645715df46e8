-- Rows and their last one. Other crates may cite these lemmas.
use Rattle.std.proofs.Common.{ℕ, zero, suc, ◌≡◌, ◌+◌, ◌-◌, ◌<◌, ◌^◌, List, [], ◌∷◌, ◌++◌, length, refl, sym, ap, ◌∙◌, subst, arith, Option, Some, None, get_or, length-append}
use Rattle.std.specs.Prelude.{slice_set, All, IfSome, IsSomeAnd}
use Rattle.std.proofs.lemmas.List.Elements.{All-push, All-nil, All-cons, All-head, All-tail}
use Rattle.line_forms.proofs.Lasts.{last_step}
use Rattle.act_rules.specs.declared.row.Row.{Row}
use Rattle.act_rules.specs.Rows.{last_row, AreNumbered, OnlyLastRuns, HasEnded, HasMoments, IsRows, with_last}

pub last_snoc : (rows : List Row) (row : Row) → last_row (rows ++ row ∷ []) ≡ Some row
last_snoc [] row = refl
last_snoc (x ∷ []) row = refl
last_snoc (x ∷ y ∷ rows) row = sym (last_step x y (rows ++ row ∷ [])) ∙ last_snoc (y ∷ rows) row

pub some_and : {T : Type 0} (o : Option T) (P : T → Type 0) → IsSomeAnd o P → (x : T) × (o ≡ Some x) × P x
some_and None P h = absurd h
some_and (Some x) P h = (x, refl, h)

numbered_snoc : (n : ℕ) (rows : List Row) (row : Row) → AreNumbered n rows → row.number ≡ length rows + n → AreNumbered n (rows ++ row ∷ [])
numbered_snoc n [] row h e = (omega (arith, e), tt)
numbered_snoc n (x ∷ rows) row h e = (h.0, numbered_snoc (n + 1) rows row h.1 (omega (arith, e)))

ended_snoc : (rows : List Row) (row : Row) → OnlyLastRuns rows → IfSome (last_row rows) HasEnded → OnlyLastRuns (rows ++ row ∷ [])
ended_snoc [] row h e = tt
ended_snoc (x ∷ []) row h e = (e, tt)
ended_snoc (x ∷ y ∷ rows) row h e =
    let P : Option Row → Type 0 = λ o. IfSome o HasEnded in
    (h.0, ended_snoc (y ∷ rows) row h.1 (subst P (sym (last_step x y rows)) e))

pub rows_snoc : (rows : List Row) (row : Row) → IsRows rows → row.number < 2 ^ 32 → IfSome (last_row rows) HasEnded → row.number ≡ length rows + 1 → HasMoments row → IsRows (rows ++ row ∷ [])
rows_snoc rows row is small ended number moments = record {
  few = omega (arith, small, number, length-append rows (row ∷ []));
  numbered = numbered_snoc 1 rows row is.numbered number;
  ended = ended_snoc rows row is.ended ended;
  moments = All-push HasMoments rows row is.moments moments;
}

pub length_with_last : (rows : List Row) (change : Row → Row) → length (with_last rows change) ≡ length rows
length_with_last [] change = refl
length_with_last (x ∷ []) change = refl
length_with_last (x ∷ y ∷ rows) change = ap suc (length_with_last (y ∷ rows) change)

numbered_with : (n : ℕ) (rows : List Row) (change : Row → Row) → ((row : Row) → (change row).number ≡ row.number) → AreNumbered n rows → AreNumbered n (with_last rows change)
numbered_with n [] change k h = tt
numbered_with n (x ∷ []) change k h = (k x ∙ h.0, tt)
numbered_with n (x ∷ y ∷ rows) change k h = (h.0, numbered_with (n + 1) (y ∷ rows) change k h.1)

ended_with : (rows : List Row) (change : Row → Row) → OnlyLastRuns rows → OnlyLastRuns (with_last rows change)
ended_with [] change h = tt
ended_with (x ∷ []) change h = tt
ended_with (x ∷ y ∷ []) change h = (h.0, tt)
ended_with (x ∷ y ∷ z ∷ rows) change h = (h.0, ended_with (y ∷ z ∷ rows) change h.1)

moments_with : (rows : List Row) (change : Row → Row) → ((row : Row) → HasMoments row → HasMoments (change row)) → All HasMoments rows → All HasMoments (with_last rows change)
moments_with [] change k h = h
moments_with (x ∷ []) change k h = All-cons HasMoments (change x) [] (k x (All-head HasMoments x [] h)) (All-nil HasMoments)
moments_with (x ∷ y ∷ rows) change k h =
    All-cons HasMoments x (with_last (y ∷ rows) change) (All-head HasMoments x (y ∷ rows) h) (moments_with (y ∷ rows) change k (All-tail HasMoments x (y ∷ rows) h))

pub rows_with_last : (rows : List Row) (change : Row → Row) → ((row : Row) → (change row).number ≡ row.number) → ((row : Row) → HasMoments row → HasMoments (change row)) → IsRows rows → IsRows (with_last rows change)
rows_with_last rows change number moments is = record {
  few = omega (arith, is.few, length_with_last rows change);
  numbered = numbered_with 1 rows change number is.numbered;
  ended = ended_with rows change is.ended;
  moments = moments_with rows change moments is.moments;
}

-- a write to the last row
pub set_last : (rows : List Row) (i : ℕ) (row : Row) (change : Row → Row) → i + 1 ≡ length rows → get_or rows i row ≡ row → slice_set rows i (change row) ≡ with_last rows change
set_last [] i row change e d = refl
set_last (x ∷ []) zero row change e d = ap (λ (r : Row). change r ∷ []) (sym d)
set_last (x ∷ []) (suc i) row change e d = absurd (omega (arith, e))
set_last (x ∷ y ∷ rows) zero row change e d = absurd (omega (arith, e))
set_last (x ∷ y ∷ rows) (suc i) row change e d = ap (λ r. x ∷ r) (set_last (y ∷ rows) i row change (omega (arith, e)) d)

pub last_some : (rows : List Row) (P : Row → Type 0) → IsSomeAnd (last_row rows) P → 0 < length rows
last_some [] P h = absurd h
last_some (x ∷ rows) P h = omega arith
