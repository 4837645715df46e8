-- A number in decimal that stops at the greatest u64.
use Rattle.std.proofs.Common.{◌≡◌, ℕ, ◌+◌, ◌*◌, ◌-◌, ◌^◌, ◌≤◌, ◌<◌, min, arith, Bool, true, false, ◌&&◌, ◌==◌, not, nat_lt, None, Some, List, [], ◌∷◌, length, get_or, take, drop, refl, sym, ap, ◌∙◌}
use Rattle.std.specs.List.{list_all}
use Rattle.std.specs.Char.{is_ascii_digit, digit_value}
use Rattle.std.specs.Str.Parse.{digits_value, digits_value_after}
use Rattle.std.proofs.lemmas.Grind.{common_steps}
use Rattle.std.proofs.lemmas.Bool.Decides.{nat_tests}
use Rattle.desk_http.specs.Fields.{has_leading_zero, is_number, number_in}
use Rattle.std.proofs.lemmas.Bool.{false≢true}

pub clamped_step : (n d v w : ℕ) → v ≡ min n (2 ^ 64 - 1) → w ≡ min (min (v * 10) (2 ^ 64 - 1) + d) (2 ^ 64 - 1) → w ≡ min (n * 10 + d) (2 ^ 64 - 1)
clamped_step n d v w is was = omega (arith, is, was)

and_false : (a b : Bool) → b ≡ false → (a && b) ≡ false
and_false true b is = is
and_false false b is = refl

and_true : (a b : Bool) → a ≡ true → b ≡ true → (a && b) ≡ true
and_true true b is too = too
and_true false b is too = is

none_by : (text : List ℕ) → is_number text ≡ false → number_in text ≡ None
none_by text is = rw is refl

pub empty_is_none : (text : List ℕ) → (length text == 0) ≡ true → number_in text ≡ None
empty_is_none [] is = refl
empty_is_none (x ∷ xs) is = absurd (grind (arith, nat_tests))

pub zero_is_none : (text : List ℕ) → has_leading_zero text ≡ true → number_in text ≡ None
zero_is_none text is =
    let e : not (has_leading_zero text) ≡ false = ap not is in
    none_by text (and_false (nat_lt 0 (length text)) (list_all is_ascii_digit text && not (has_leading_zero text)) (and_false (list_all is_ascii_digit text) (not (has_leading_zero text)) e))

pub other_is_none : (text rest : List ℕ) → 1 ≤ length rest → list_all is_ascii_digit text ≡ list_all is_ascii_digit rest → is_ascii_digit (get_or rest 0 0) ≡ false → number_in text ≡ None
other_is_none text [] some all other = absurd (omega arith)
other_is_none text (b ∷ rest) some all other =
    let none : list_all is_ascii_digit (b ∷ rest) ≡ false = ap (λ v. v && list_all is_ascii_digit rest) other in
    let e : (list_all is_ascii_digit text && not (has_leading_zero text)) ≡ false = ap (λ v. v && not (has_leading_zero text)) (all ∙ none) in
    none_by text (and_false (nat_lt 0 (length text)) (list_all is_ascii_digit text && not (has_leading_zero text)) e)

pub all_is_some : (text rest : List ℕ) → (length text == 0) ≡ false → has_leading_zero text ≡ false → list_all is_ascii_digit text ≡ list_all is_ascii_digit rest → length rest < 1 → number_in text ≡ Some (digits_value 10 text)
all_is_some text (b ∷ rest) some zero all none = absurd (omega arith)
all_is_some [] [] some zero all none = absurd (false≢true (sym some))
all_is_some (x ∷ xs) [] some zero all none =
    let text = x ∷ xs in
    let e : is_number text ≡ true = and_true (nat_lt 0 (length text)) (list_all is_ascii_digit text && not (has_leading_zero text)) (grind (arith, nat_tests)) (and_true (list_all is_ascii_digit text) (not (has_leading_zero text)) all (ap not zero)) in
    rw e refl

pub value_at_end : (text rest : List ℕ) (n v : ℕ) → v ≡ min n (2 ^ 64 - 1) → digits_value_after 10 n rest ≡ digits_value 10 text → length rest < 1 → v ≡ min (digits_value 10 text) (2 ^ 64 - 1)
value_at_end text (b ∷ rest) n v is digits none = absurd (omega arith)
value_at_end text [] n v is digits none = is ∙ ap (λ m. min m (2 ^ 64 - 1)) digits

digit_is : (b : ℕ) → is_ascii_digit b ≡ true → digit_value b ≡ b - 48
digit_is b is = grind (arith, nat_tests)

pub digits_step : (rest : List ℕ) (n value : ℕ) → 1 ≤ length rest → is_ascii_digit (get_or rest 0 0) ≡ true → digits_value_after 10 n rest ≡ value → digits_value_after 10 (n * 10 + (get_or rest 0 0 - 48)) (take (length rest - 1) (drop 1 rest)) ≡ value
digits_step [] n value some is digits = absurd (omega arith)
digits_step (b ∷ rest) n value some is digits =
    let e : take (length (b ∷ rest) - 1) (drop 1 (b ∷ rest)) ≡ rest = grind (arith, common_steps) in
    ap (λ l. digits_value_after 10 (n * 10 + (b - 48)) l) e ∙ ap (λ d. digits_value_after 10 (n * 10 + d) rest) (sym (digit_is b is)) ∙ digits

pub all_step : (rest : List ℕ) (all : Bool) → 1 ≤ length rest → is_ascii_digit (get_or rest 0 0) ≡ true → all ≡ list_all is_ascii_digit rest → all ≡ list_all is_ascii_digit (take (length rest - 1) (drop 1 rest))
all_step [] all some is was = absurd (omega arith)
all_step (b ∷ rest) all some is was =
    let e : take (length (b ∷ rest) - 1) (drop 1 (b ∷ rest)) ≡ rest = grind (arith, common_steps) in
    was ∙ ap (λ v. v && list_all is_ascii_digit rest) is ∙ ap (list_all is_ascii_digit) (sym e)
