-- The code's tables are those of the definitions, and the first row that fits is found in both.
use Rattle.std.proofs.Common.{◌≡◌, ℕ, Bool, true, false, cond, List, [], ◌∷◌, map, find, Option, Some, None, option_map, refl, sym, ap, ◌∙◌}
use Rattle.std.proofs.lemmas.List.Folds.{find-append}
use Rattle.std.specs.Option.{option_or}
use Rattle.std.specs.Borrow.{Bor}
use Rattle.rel_types.specs.declared.given.Given.{Given}
use Rattle.rel_types.specs.declared.row.Row.{Row}
use Rattle.rel_types.specs.declared.cast_words.CastRow.{CastRow}
use Rattle.rel_types.specs.Rows.{fits}
use Rattle.rel_types.specs.Properties.{property_rows}
use Rattle.rel_types.specs.Aggregates.{aggregate_rows}
use Rattle.rel_types.specs.Heads.{first_row}
use Rattle.std.specs.Str.{bytes_eq}
use Rattle.rel_types.specs.Casts.{cast_rows, cast_named}
use Rattle.rel_types.specs.Tables.{shown_row, shown_cast_row}

cond_map : {A B : Type 0} (f : A → B) (b : Bool) (x : A) (o : Option A) → cond b (Some (f x)) (option_map f o) ≡ option_map f (cond b (Some x) o)
cond_map f true x o = refl
cond_map f false x o = refl

find_map : {A B : Type 0} (f : A → B) (p : B → Bool) (xs : List A) → find p (map f xs) ≡ option_map f (find (λ x. p (f x)) xs)
find_map f p [] = refl
find_map f p (x ∷ xs) = ap (cond (p (f x)) (Some (f x))) (find_map f p xs) ∙ cond_map f (p (f x)) x (find (λ y. p (f y)) xs)

lent : {A B : Type 0} (f : A → B) (r : Option (Bor A)) → option_map (λ x. f x.now) r ≡ option_map f (option_map (λ x. x.now) r)
lent f None = refl
lent f (Some x) = refl

-- what is found in a table of the code is found in the table that it shows
found : {A B : Type 0} (f : A → B) (p : B → Bool) (xs : List A) (rows : List B) (r : Option (Bor A)) → map f xs ≡ rows → option_map (λ x. x.now) r ≡ find (λ x. p (f x)) xs → option_map (λ x. f x.now) r ≡ find p rows
found f p xs rows r e h = lent f r ∙ ap (option_map f) h ∙ sym (find_map f p xs) ∙ ap (find p) e

first_of_two : (words : List ℕ) (a o : Given) → first_row words a o ≡ option_or (find (fits words a o) property_rows) (find (fits words a o) aggregate_rows)
first_of_two words a o = find-append (fits words a o) property_rows aggregate_rows

pub found_property : (words : List ℕ) (a o : Given) (xs : List Row) (r : Option (Bor Row)) (row : Bor Row) → map shown_row xs ≡ property_rows → r ≡ Some row → option_map (λ x. x.now) r ≡ find (λ x. fits words a o (shown_row x)) xs → Some (shown_row row.now) ≡ first_row words a o
found_property words a o xs r row shows is h =
    let e : Some (shown_row row.now) ≡ find (fits words a o) property_rows = ap (option_map (λ x. shown_row x.now)) (sym is) ∙ found shown_row (fits words a o) xs property_rows r shows h in
    ap (λ x. option_or x (find (fits words a o) aggregate_rows)) e ∙ sym (first_of_two words a o)

pub found_aggregate : (words : List ℕ) (a o : Given) (xs ys : List Row) (r s : Option (Bor Row)) → map shown_row xs ≡ property_rows → map shown_row ys ≡ aggregate_rows → r ≡ None → option_map (λ x. x.now) r ≡ find (λ x. fits words a o (shown_row x)) xs → option_map (λ x. x.now) s ≡ find (λ x. fits words a o (shown_row x)) ys → option_map (λ x. shown_row x.now) s ≡ first_row words a o
found_aggregate words a o xs ys r s shows these is h g =
    let e : None ≡ find (fits words a o) property_rows = ap (option_map (λ x. shown_row x.now)) (sym is) ∙ found shown_row (fits words a o) xs property_rows r shows h in
    found shown_row (fits words a o) ys aggregate_rows s these g
    ∙ ap (λ x. option_or x (find (fits words a o) aggregate_rows)) e ∙ sym (first_of_two words a o)

cast_name : (r : Option (Bor CastRow)) → option_map (λ row. row.cast) (option_map (λ x. shown_cast_row x.now) r) ≡ option_map (λ x. x.now.cast) r
cast_name None = refl
cast_name (Some row) = refl

pub found_cast : (words : List ℕ) (xs : List CastRow) (r : Option (Bor CastRow)) → map shown_cast_row xs ≡ cast_rows → option_map (λ x. x.now) r ≡ find (λ x. bytes_eq (shown_cast_row x).words words) xs → option_map (λ x. x.now.cast) r ≡ cast_named words
found_cast words xs r shows h = sym (cast_name r) ∙ ap (option_map (λ row. row.cast)) (found shown_cast_row (λ row. bytes_eq row.words words) xs cast_rows r shows h)
