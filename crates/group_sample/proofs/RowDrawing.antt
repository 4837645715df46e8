-- What is drawn of a trace, value by value, is its row.
use Rattle.std.proofs.Common.{ℕ, zero, suc, ◌≡◌, ◌+◌, ℤ, Bool, true, false, cond, not, ◌&&◌, ◌||◌, List, [], ◌∷◌, ◌++◌, map, length, take, refl, sym, ap, ◌∙◌, arith, inl, inr, append_assoc}
use Rattle.std.specs.Prelude.{nat_lt, take_while}
use Rattle.std.specs.List.{list_any, prefix_len}
use Rattle.std.proofs.lemmas.Bool.{cond-true, cond-false, cases_lt, lt-ltb, le-ltb}
use Rattle.bf_world.specs.declared.key.Key.{Key}
use Rattle.rel_value.specs.Plain.{Plain}
use Rattle.rel_value.specs.Texts.{text_of}
use Rattle.rel_trace.specs.Trace.{Stop, Error, Event, Look, Turn, Give, Trace, Ends, After}
use Rattle.rel_nodes.specs.Steps.{prepend, gives}
use Rattle.rel_eval.specs.Pulls.{Skips}
use Rattle.group_sample.specs.declared.drawing.Drawn.{Drawn}
use Rattle.group_sample.specs.Rows.{ends_in_error, is_short, values_of}
use Rattle.group_sample.specs.Drawing.{behind, drawn, ended}

-- ---- looks and turns are passed over
passed : (offset : ℤ) (room : ℕ) (events : List Event) (t : Trace) → gives events ≡ [] → drawn offset (suc room) (prepend events t) ≡ drawn offset (suc room) t
passed offset room [] t quiet = refl
passed offset room (Look place key ∷ events) t quiet = passed offset room events t quiet
passed offset room (Turn place ∷ events) t quiet = passed offset room events t quiet
passed offset room (Give value ∷ events) t quiet = cc

pub skipped : (offset : ℤ) (room : ℕ) (t u : Trace) (looks : List Key) → Skips t looks u → drawn offset (suc room) t ≡ drawn offset (suc room) u
skipped offset room t u looks skips = ap (drawn offset (suc room)) skips.whole ∙ passed offset room skips.events u skips.quiet

-- ---- a value
pub short_value : (offset : ℤ) (room : ℕ) (value : Plain) (t : Trace) → is_short (text_of offset value) ≡ true → drawn offset (suc room) (After (Give value) t) ≡ behind (text_of offset value ∷ []) (drawn offset room t)
short_value offset room value t short = cond-true (is_short (text_of offset value)) (behind (text_of offset value ∷ []) (drawn offset room t)) (ended true) short

pub long_value : (offset : ℤ) (room : ℕ) (value : Plain) (t : Trace) → is_short (text_of offset value) ≡ false → drawn offset (suc room) (After (Give value) t) ≡ ended true
long_value offset room value t long = cond-false (is_short (text_of offset value)) (behind (text_of offset value ∷ []) (drawn offset room t)) (ended true) long

-- a row of values, with an error or not
abbrev row_of : List (List ℕ) → Bool → Drawn
row_of values error = record { values = values; error = error }

-- ---- values in front of others
pub behind_none : (row : Drawn) → behind [] row ≡ row
behind_none row = refl

pub behind_both : (a b : List (List ℕ)) (row : Drawn) → behind a (behind b row) ≡ behind (a ++ b) row
behind_both a b row = ap (λ values. row_of values row.error) (sym (append_assoc a b row.values))

-- ---- the row as lists

-- the texts of so many values, and the row that they make
abbrev pub texts : ℤ → ℕ → Trace → List (List ℕ)
texts offset room t = take room (map (text_of offset) (values_of t))

abbrev pub has_long : List (List ℕ) → Bool
has_long found = list_any (λ text. not (is_short text)) found

abbrev pub fails : ℕ → Trace → Bool
fails room t = nat_lt (length (values_of t)) room && ends_in_error t

abbrev pub row_in : ℤ → ℕ → Trace → Drawn
row_in offset room t = row_of (take_while is_short (texts offset room t)) (has_long (texts offset room t) || fails room t)

and_false : (b : Bool) → (b && false) ≡ false
and_false true = refl
and_false false = refl

below_suc : (m n : ℕ) → nat_lt (suc m) (suc n) ≡ nat_lt m n
below_suc m n = elim (cases_lt m n) [
  | inl lt ↦ lt-ltb (suc m) (suc n) (omega arith) ∙ sym (lt-ltb m n lt)
  | inr ge ↦ le-ltb (suc m) (suc n) (omega arith) ∙ sym (le-ltb m n ge)
]

shorter : (text : List ℕ) (found : List (List ℕ)) → is_short text ≡ true → take_while is_short (text ∷ found) ≡ text ∷ take_while is_short found
shorter text found short =
    let count : prefix_len is_short (text ∷ found) ≡ suc (prefix_len is_short found) =
    cond-true (is_short text) (1 + prefix_len is_short found) 0 short ∙ (let e : 1 + prefix_len is_short found ≡ suc (prefix_len is_short found) = omega arith in e) in
    ap (λ n. take n (text ∷ found)) count

longer : (text : List ℕ) (found : List (List ℕ)) → is_short text ≡ false → take_while is_short (text ∷ found) ≡ []
longer text found long = ap (λ n. take n (text ∷ found)) (cond-false (is_short text) (1 + prefix_len is_short found) 0 long)

pub drawn_row : (offset : ℤ) (room : ℕ) (t : Trace) → drawn offset room t ≡ row_in offset room t
drawn_row offset zero t = ap (λ b. row_of [] b) (sym (ap (λ b. b && ends_in_error t) (le-ltb (length (values_of t)) 0 (omega arith))))
drawn_row offset (suc room) (Ends Stop) = ap (λ b. row_of [] b) (sym (and_false (nat_lt 0 (suc room))))
drawn_row offset (suc room) (Ends (Error kind place)) = ap (λ b. row_of [] b) (sym (ap (λ b. b && true) (lt-ltb 0 (suc room) (omega arith))))
drawn_row offset (suc room) (After (Look place key) t) = drawn_row offset (suc room) t
drawn_row offset (suc room) (After (Turn place) t) = drawn_row offset (suc room) t
drawn_row offset (suc room) (After (Give value) t) = by (is_short text) refl (drawn_row offset room t)
  where
    text : List ℕ
    text = text_of offset value

    found : List (List ℕ)
    found = texts offset room t

    by : (b : Bool) → is_short text ≡ b → drawn offset room t ≡ row_in offset room t → cond b (behind (text ∷ []) (drawn offset room t)) (ended true) ≡ row_in offset (suc room) (After (Give value) t)
    by true short rest =
        let error : (has_long (text ∷ found) || (nat_lt (suc (length (values_of t))) (suc room) && ends_in_error t)) ≡ (has_long found || fails room t) =
        ap (λ b. (not b || has_long found) || (nat_lt (suc (length (values_of t))) (suc room) && ends_in_error t)) short ∙ ap (λ b. has_long found || (b && ends_in_error t)) (below_suc (length (values_of t)) room) in
        ap (λ row. row_of (text ∷ row.values) row.error) rest
        ∙ (λ i. row_of (sym (shorter text found short) i) (sym error i))
    by false long rest =
        let error : (has_long (text ∷ found) || fails (suc room) (After (Give value) t)) ≡ true = ap (λ b. (not b || has_long found) || fails (suc room) (After (Give value) t)) long in
        (λ i. row_of (sym (longer text found long) i) (sym error i))
