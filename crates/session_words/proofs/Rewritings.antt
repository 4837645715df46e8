-- What is found in the table of the code is found in that of the definitions.
use Rattle.std.proofs.Common.{◌≡◌, ℕ, Bool, true, false, cond, List, [], ◌∷◌, map, find, Option, None, Some, option_map, refl, sym, ap, ◌∙◌}
use Rattle.std.specs.Borrow.{Bor}
use Rattle.std.specs.Map.{lookup}
use Rattle.std.specs.Str.{bytes_eq}
use Rattle.session_words.specs.declared.rewriting.Row.{Row}
use Rattle.session_words.specs.Inside.{shown_rewriting, shown_row}
use Rattle.session_words.specs.Replaced.{rewriting_of, rewritings}

becomes_of : (b : Bool) (row : Row) (o : Option Row)
    → option_map (λ (r : Row). shown_rewriting r.becomes) (cond b (Some row) o) ≡ cond b (Some (shown_rewriting row.becomes)) (option_map (λ (r : Row). shown_rewriting r.becomes) o)
becomes_of true row o = refl
becomes_of false row o = refl

by_rows : (text : List ℕ) (rows : List Row)
    → option_map (λ (r : Row). shown_rewriting r.becomes) (find (λ r. bytes_eq text (shown_row r).0) rows) ≡ lookup (bytes_eq text) (map shown_row rows)
by_rows text [] = refl
by_rows text (row ∷ rows) =
    becomes_of (bytes_eq text (shown_row row).0) row (find (λ r. bytes_eq text (shown_row r).0) rows)
    ∙ ap (cond (bytes_eq text (shown_row row).0) (Some (shown_rewriting row.becomes))) (by_rows text rows)

by_table : (text : List ℕ) (rows : List Row) (o : Option Row) → map shown_row rows ≡ rewritings → o ≡ find (λ r. bytes_eq text (shown_row r).0) rows
    → option_map (λ (r : Row). shown_rewriting r.becomes) o ≡ rewriting_of text
unfolding rewriting_of
by_table text rows o table found = ap (option_map (λ (r : Row). shown_rewriting r.becomes)) found ∙ by_rows text rows ∙ ap (lookup (bytes_eq text)) table

pub some_rewriting : (text : List ℕ) (rows : List Row) (r : Option (Bor Row)) (row : Bor Row) → map shown_row rows ≡ rewritings → r ≡ Some row
    → option_map (λ x. x.now) r ≡ find (λ r. bytes_eq text (shown_row r).0) rows → Some (shown_rewriting row.now.becomes) ≡ rewriting_of text
some_rewriting text rows r row table is found = by_table text rows (Some row.now) table (ap (option_map (λ x. x.now)) (sym is) ∙ found)

pub no_rewriting : (text : List ℕ) (rows : List Row) (r : Option (Bor Row)) → map shown_row rows ≡ rewritings → r ≡ None
    → option_map (λ x. x.now) r ≡ find (λ r. bytes_eq text (shown_row r).0) rows → None ≡ rewriting_of text
no_rewriting text rows r table is found = by_table text rows None table (ap (option_map (λ x. x.now)) (sym is) ∙ found)
