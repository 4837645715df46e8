-- What is written is read again: the response of a status and a body, and the request of a route and a body.
use Rattle.std.proofs.Common.{◌≡◌, ℕ, zero, suc, ◌+◌, ◌*◌, ◌/◌, ◌%◌, ◌^◌, ◌<◌, ◌≤◌, inl, inr, IsTrue, Bool, true, false, ◌==◌, ◌&&◌, nat_lt, List, [], ◌∷◌, ◌++◌, Some, length, length-append, get_or, refl, sym, ap, subst, ◌∙◌, arith, append_assoc}
use Rattle.std.specs.Prelude.{codes, decimal}
use Rattle.std.specs.Char.{is_ascii_digit, digit_value}
use Rattle.std.specs.List.{list_all}
use Rattle.std.specs.Str.Parse.{digits_value}
use Rattle.std.proofs.lemmas.Bool.{and_parts, cases_lt}
use Rattle.std.proofs.lemmas.Bool.Decides.{nat_tests}
use Rattle.std.proofs.lemmas.List.Elements.{All-nil, All-cons, All-append, All-head, All-weaker}
use Rattle.std.proofs.lemmas.Fmt.{decimal_by_steps, decimal_digit, decimal_is_IsNumeral, decimal_nonempty, first_decimal, length-decimal-le}
use Rattle.http.specs.StatusCode.{IsStatusCode, code_digits}
use Rattle.httparse.specs.Grammar.{AllPass, Field, IsField, crlf, ResponseHead, IsResponseHead, is_ows, is_token_byte, is_value_byte, print_field, print_response, print_section, skip_ows, trim_ows}
use Rattle.httparse.proofs.GrammarLemmas.{print_response-append}
use Rattle.httparse.proofs.TrimLemmas.{AllPass-reverse, skip_ows_no, trim_ows_space}
use Rattle.desk_http.specs.Fields.{has_leading_zero, is_number, number_in}
use Rattle.desk_http.specs.Replied.{IsReply}
use Rattle.desk_http.specs.Spoken.{reason, spoken, spoken_head}

-- each byte of a literal passes
pub passes_by : (test : ℕ → Bool) (xs : List ℕ) → list_all test xs ≡ true → AllPass test xs
passes_by test [] h = All-nil (λ b. IsTrue (test b))
passes_by test (x ∷ xs) h =
    let p = and_parts (test x) (list_all test xs) h in
    All-cons (λ b. IsTrue (test b)) x xs p.0 (passes_by test xs p.1)

list_by : (test : ℕ → Bool) (xs : List ℕ) → AllPass test xs → list_all test xs ≡ true
list_by test [] all = refl
list_by test (x ∷ xs) all =
    both (test x) (list_all test xs) (All-head (λ b. IsTrue (test b)) x xs all) (list_by test xs (λ k d inside. all (suc k) d (omega (arith, inside))))
  where
    both : (a b : Bool) → a ≡ true → b ≡ true → (a && b) ≡ true
    both true b h k = k
    both false b h k = h

-- a decimal number
pub digits_pass : (n : ℕ) → n < 2 ^ 64 → AllPass is_ascii_digit (decimal n)
digits_pass n h =
    let P : ℕ → List ℕ → Type 0 = λ n ds. AllPass is_ascii_digit ds in
    decimal_by_steps P
    (λ n small. All-cons (λ b. IsTrue (is_ascii_digit b)) (48 + n) [] (digit n small) (All-nil (λ b. IsTrue (is_ascii_digit b))))
    (λ n ds large front. All-append (λ b. IsTrue (is_ascii_digit b)) ds ((48 + n % 10) ∷ []) front
    (All-cons (λ b. IsTrue (is_ascii_digit b)) (48 + n % 10) [] (digit (n % 10) (omega arith)) (All-nil (λ b. IsTrue (is_ascii_digit b)))))
    n h
  where
    digit : (d : ℕ) → d < 10 → is_ascii_digit (48 + d) ≡ true
    digit d small = grind (arith, nat_tests)

no_zero : (n : ℕ) → n < 2 ^ 64 → has_leading_zero (decimal n) ≡ false
no_zero n h = elim (cases_lt n 10) [
  | inl small ↦ let e = decimal_digit n small in subst (λ l. has_leading_zero l ≡ false) (sym e) refl
  | inr large ↦ let first = first_decimal n (omega (arith, large)) h in second (nat_lt 1 (length (decimal n))) (get_or (decimal n) 0 0) first
]
  where
    second : (a : Bool) (x : ℕ) → 48 < x → (a && x == 48) ≡ false
    second a x more = grind (arith, nat_tests)

pub number_again : (n : ℕ) → n < 2 ^ 64 → number_in (decimal n) ≡ Some n
number_again n h =
    let some : nat_lt 0 (length (decimal n)) ≡ true = more (length (decimal n)) (decimal_nonempty n h) in
    let all = list_by is_ascii_digit (decimal n) (digits_pass n h) in
    let is : is_number (decimal n) ≡ true = rw (some, all, no_zero n h) refl in
    let value = (decimal_is_IsNumeral n h).1 in
    rw is (ap Some value)
  where
    more : (k : ℕ) → 0 < k → nat_lt 0 k ≡ true
    more k some = grind (arith, nat_tests)

no_space : (xs : List ℕ) → AllPass is_ascii_digit xs → skip_ows xs ≡ xs
no_space [] all = refl
no_space (x ∷ xs) all = skip_ows_no refl (sym (solid x (All-head (λ b. IsTrue (is_ascii_digit b)) x xs all)))
  where
    solid : (b : ℕ) → is_ascii_digit b ≡ true → is_ows b ≡ false
    solid b h = grind (arith, nat_tests)

pub trimmed : (n : ℕ) → n < 2 ^ 64 → trim_ows (32 ∷ decimal n) ≡ decimal n
trimmed n h =
    let all = digits_pass n h in
    trim_ows_space (decimal n) (no_space (decimal n) all) (no_space _ (AllPass-reverse is_ascii_digit (decimal n) all))

digit_is_value : (b : ℕ) → is_ascii_digit b ≡ true → is_value_byte b ≡ true
digit_is_value b h = grind (arith, nat_tests)

pub value_passes : (n : ℕ) → n < 2 ^ 64 → AllPass is_value_byte (32 ∷ decimal n)
value_passes n h =
    All-cons (λ b. IsTrue (is_value_byte b)) 32 (decimal n) refl
    (All-weaker (λ b. IsTrue (is_ascii_digit b)) (λ b. IsTrue (is_value_byte b)) digit_is_value (decimal n) (digits_pass n h))

pub is_token_name : (name : List ℕ) → nat_lt 0 (length name) ≡ true → list_all is_token_byte name ≡ true → (0 < length name) × AllPass is_token_byte name
is_token_name name some all = (grind (arith, nat_tests), passes_by is_token_byte name all)

-- the words of each status are short and may stand in a status line
abbrev good_words : ℕ → Bool
good_words status = list_all is_value_byte (reason status) && nat_lt (length (reason status)) 64

abbrev all_below : ℕ → Bool
all_below zero = true
all_below (suc n) = good_words n && all_below n

words_below : all_below 1000 ≡ true
unfolding reason
words_below = refl

at_below : (n k : ℕ) → all_below n ≡ true → k < n → good_words k ≡ true
at_below zero k h less = absurd (omega arith)
at_below (suc n) k h less =
    let p = and_parts (good_words n) (all_below n) h in
    elim (cases_lt k n) [
      | inl below ↦ at_below n k p.1 below
      | inr top ↦ let e : k ≡ n = omega arith in rw e p.0
    ]

good_at : (status : ℕ) → status < 1000 → AllPass is_value_byte (reason status) × (length (reason status) < 64)
good_at status less =
    let p = and_parts (list_all is_value_byte (reason status)) (nat_lt (length (reason status)) 64) (at_below 1000 status words_below less) in
    (passes_by is_value_byte (reason status) p.0, short (length (reason status)) p.1)
  where
    short : (n : ℕ) → nat_lt n 64 ≡ true → n < 64
    short n h = grind (arith, nat_tests)

-- the head of a response
abbrev pub length_field : ℕ → Field
length_field n = record { name = codes "Content-Length"; raw = 32 ∷ decimal n; end = crlf }

abbrev close_field : Field
close_field = record { name = codes "Connection"; raw = codes " close"; end = crlf }

abbrev head_spoken : ℕ → ℕ → ResponseHead
head_spoken status n = record {
  blank = [];
  minor = 1;
  digits = code_digits status;
  reason = Some (reason status);
  line_end = crlf;
  fields = length_field n ∷ close_field ∷ [];
  last = crlf;
}

pub length_field_is : (n : ℕ) → n < 2 ^ 64 → IsField (length_field n)
unfolding is_token_byte
length_field_is n h = record { name = is_token_name (codes "Content-Length") refl refl; raw = value_passes n h }

close_field_is : IsField close_field
unfolding is_token_byte
close_field_is = record { name = is_token_name (codes "Connection") refl refl; raw = passes_by is_value_byte (codes " close") refl }

code_passes : (status : ℕ) → IsStatusCode status → AllPass is_ascii_digit (code_digits status)
code_passes status is =
    let P : ℕ → Type 0 = λ b. IsTrue (is_ascii_digit b) in
    All-cons P (48 + status / 100) ((48 + status / 10 % 10) ∷ (48 + status % 10) ∷ []) (digit (status / 100) (omega (arith, is.1)))
    (All-cons P (48 + status / 10 % 10) ((48 + status % 10) ∷ []) (digit (status / 10 % 10) (omega arith))
    (All-cons P (48 + status % 10) [] (digit (status % 10) (omega arith)) (All-nil P)))
  where
    digit : (d : ℕ) → d < 10 → is_ascii_digit (48 + d) ≡ true
    digit d small = grind (arith, nat_tests)

code_again : (status : ℕ) → IsStatusCode status → status ≡ digits_value 10 (code_digits status)
code_again status is =
    let a = value (status / 100) (omega (arith, is.1)) in
    let b = value (status / 10 % 10) (omega arith) in
    let c = value (status % 10) (omega arith) in
    let e : digits_value 10 (code_digits status) ≡ (digit_value (48 + status / 100) * 10 + digit_value (48 + status / 10 % 10)) * 10 + digit_value (48 + status % 10) = omega arith in
    omega (arith, a, b, c, e)
  where
    value : (d : ℕ) → d < 10 → digit_value (48 + d) ≡ d
    value d small = grind (arith, nat_tests)

head_is : (status n : ℕ) → IsStatusCode status → n < 2 ^ 64 → IsResponseHead (head_spoken status n)
head_is status n is h = record {
  minor = omega arith;
  digits = (refl, code_passes status is);
  reason = (good_at status (omega (arith, is.1))).0;
  fields = All-cons IsField (length_field n) (close_field ∷ []) (length_field_is n h) (All-cons IsField close_field [] close_field_is (All-nil IsField));
}

pub four_parts : (d e x l b : List ℕ) → (((d ++ e) ++ x) ++ l) ++ b ≡ d ++ (e ++ (x ++ (l ++ b)))
four_parts d e x l b = simp (append_assoc)

section_is : (n : ℕ) (body : List ℕ) → print_section (length_field n ∷ close_field ∷ []) crlf ++ body ≡ codes "Content-Length: " ++ (decimal n ++ (codes "\r\nConnection: close\r\n\r\n" ++ body))
section_is n body =
    ap (λ l. codes "Content-Length: " ++ l) (four_parts (decimal n) (13 ∷ 10 ∷ []) (print_field close_field ++ []) (13 ∷ 10 ∷ []) body)

printed : (status : ℕ) (body : List ℕ) → spoken status body ≡ print_response (head_spoken status (length body)) ++ body
unfolding spoken_head
printed status body =
    let n = length body in
    let here : spoken status body ≡ codes "HTTP/1.1 " ++ (code_digits status ++ (32 ∷ (reason status ++ (codes "\r\nContent-Length: " ++ (decimal n ++ (codes "\r\nConnection: close\r\n\r\n" ++ body)))))) =
    ap (λ l. codes "HTTP/1.1 " ++ (code_digits status ++ (32 ∷ l))) (four_parts (reason status) (codes "\r\nContent-Length: ") (decimal n) (codes "\r\nConnection: close\r\n\r\n") body) in
    let there : print_response (head_spoken status n) ++ body ≡ codes "HTTP/1.1 " ++ (code_digits status ++ (32 ∷ (reason status ++ (13 ∷ 10 ∷ (print_section (length_field n ∷ close_field ∷ []) crlf ++ body))))) =
    print_response-append (head_spoken status n) body in
    here ∙ sym (there ∙ ap (λ l. codes "HTTP/1.1 " ++ (code_digits status ++ (32 ∷ (reason status ++ (13 ∷ 10 ∷ l))))) (section_is n body))

spoken_short : (status : ℕ) (body : List ℕ) → IsStatusCode status → length body < 2 ^ 63 → length (print_response (head_spoken status (length body))) ≤ 16384
unfolding spoken_head
spoken_short status body is h =
    let n = length body in
    let few = length-decimal-le 20 n (omega arith) (omega (arith, h)) (omega (arith, h)) in
    let words = (good_at status (omega (arith, is.1))).1 in
    let whole = ap length (printed status body) in
    let a = length-append (print_response (head_spoken status n)) body in
    let b = length-append (spoken_head status n) body in
    let words_part = reason status ++ codes "\r\nContent-Length: " in
    let c = length-append (words_part ++ decimal n) (codes "\r\nConnection: close\r\n\r\n") in
    let d = length-append words_part (decimal n) in
    let e = length-append (reason status) (codes "\r\nContent-Length: ") in
    omega (arith, few, words, whole, a, b, c, d, e)

pub spoken_read : (status : ℕ) (body : List ℕ) → IsStatusCode status → length body < 2 ^ 63 → IsReply (spoken status body) status body
spoken_read status body is h =
    let n = length body in
    let small : n < 2 ^ 64 = omega (arith, h) in
    record {
      head = head_spoken status n;
      reads = (head_is status n is small, printed status body);
      short = spoken_short status body is h;
      few = omega arith;
      code = code_again status is;
      stated = ap number_in (trimmed n small) ∙ number_again n small;
    }
