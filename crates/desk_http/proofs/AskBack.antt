-- A request of a route is heard as its call.
use Rattle.std.proofs.Common.{◌≡◌, ℕ, ◌^◌, ◌<◌, ◌≤◌, IsTrue, Bool, true, false, List, [], ◌∷◌, ◌++◌, Some, length, length-append, take, refl, sym, ap, ◌∙◌, arith, append_assoc}
use Rattle.std.specs.Prelude.{codes, decimal}
use Rattle.std.specs.Char.{is_ascii_digit}
use Rattle.std.specs.List.{list_all}
use Rattle.std.proofs.lemmas.Bool.Decides.{nat_tests}
use Rattle.std.proofs.lemmas.Grind.{common_steps}
use Rattle.std.proofs.lemmas.List.Elements.{All-nil, All-cons, All-append, All-weaker}
use Rattle.std.proofs.lemmas.Fmt.{length-decimal-le}
use Rattle.httparse.specs.Grammar.{AllPass, Field, IsField, IsRequestHead, IsToken, RequestHead, crlf, is_token_byte, is_uri_byte, is_value_byte, print_request, print_section}
use Rattle.httparse.proofs.GrammarLemmas.{print_request-append}
use Rattle.line_forms.specs.Names.{IsName, is_name_byte}
use Rattle.route_rules.specs.declared.method.Asking.{Asking}
use Rattle.route_rules.specs.declared.method.Asking.TheVariants.{Get, Post}
use Rattle.route_rules.specs.declared.route.Route.{Route}
use Rattle.route_rules.specs.declared.route.Route.TheVariants as route
use Rattle.route_rules.specs.declared.route.Routes.{Routes}
use Rattle.route_rules.specs.Routes.{HasForms, IsRoute, file_path, is_open, method_word, results_path, row_of, site_path, stop_path}
use Rattle.route_rules.proofs.Values.{hex_digits, length_hex, route_utf8}
use Rattle.hex.specs.Hex.{encode_lower, is_hex_digit}
use Rattle.desk_http.specs.Asked.{ask_text}
use Rattle.desk_http.specs.Fields.{number_in}
use Rattle.desk_http.specs.Heard.{Call, Hears, IsHead, good_head, length_of, most_behind}
use Rattle.desk_http.proofs.ReadBack.{digits_pass, four_parts, is_token_name, length_field, length_field_is, number_again, passes_by, trimmed}
use Rattle.desk_http.proofs.Requests.{call_is, most_of}

-- the bytes of a path may stand in a target
abbrev IsUri : List ℕ → Type 0
IsUri path = AllPass is_uri_byte path

digit_is_uri : (b : ℕ) → is_ascii_digit b ≡ true → is_uri_byte b ≡ true
digit_is_uri b h = grind (arith, nat_tests)

name_is_uri : (b : ℕ) → is_name_byte b ≡ true → is_uri_byte b ≡ true
name_is_uri b h = grind (arith, nat_tests)

hex_is_uri : (b : ℕ) → is_hex_digit b ≡ true → is_uri_byte b ≡ true
hex_is_uri b h = by (is_uri_byte b) refl
  where
    by : (v : Bool) → is_uri_byte b ≡ v → v ≡ true
    by true e = refl
    by false e = absurd (grind (arith, nat_tests))

decimal_uri : (n : ℕ) → n < 2 ^ 64 → IsUri (decimal n)
decimal_uri n h = All-weaker (λ b. IsTrue (is_ascii_digit b)) (λ b. IsTrue (is_uri_byte b)) digit_is_uri (decimal n) (digits_pass n h)

name_uri : (name : List ℕ) → IsName name → IsUri name
name_uri name is = All-weaker (λ b. is_name_byte b ≡ true) (λ b. IsTrue (is_uri_byte b)) name_is_uri name is.2

both_uri : (a b : List ℕ) → IsUri a → IsUri b → IsUri (a ++ b)
both_uri a b p q = All-append (λ b. IsTrue (is_uri_byte b)) a b p q

word_uri : (word : List ℕ) → list_all is_uri_byte word ≡ true → IsUri word
word_uri word h = passes_by is_uri_byte word h

abbrev IsTarget : List ℕ → Type 0
IsTarget path = (0 < length path) × IsUri path × (length path ≤ 128)

target_is : (r : Route) → HasForms r → IsTarget (row_of r).path
unfolding stop_path site_path file_path results_path
target_is route.Publish forms = (omega arith, word_uri (codes "/sites") refl, omega arith)
target_is route.Act forms = (omega arith, word_uri (codes "/actions") refl, omega arith)
target_is (route.Stop id) forms =
    let small : id < 2 ^ 64 = omega (arith, forms.1) in
    let few = length-decimal-le 20 id (omega arith) (omega (arith, small)) small in
    let size = length-append (decimal id) (codes "/stop") in
    (omega arith, both_uri (codes "/actions/") (decimal id ++ codes "/stop") (word_uri (codes "/actions/") refl) (both_uri (decimal id) (codes "/stop") (decimal_uri id small) (word_uri (codes "/stop") refl)), omega (arith, few, size))
target_is route.File forms = (omega arith, word_uri (codes "/files") refl, omega arith)
target_is route.AskSites forms = (omega arith, word_uri (codes "/sites") refl, omega arith)
target_is (route.AskSite name version) forms =
    let small : version < 2 ^ 64 = omega (arith, forms.1) in
    let few = length-decimal-le 20 version (omega arith) (omega (arith, small)) small in
    let size = length-append name (47 ∷ decimal version) in
    (omega arith, both_uri (codes "/sites/") (name ++ 47 ∷ decimal version) (word_uri (codes "/sites/") refl) (both_uri name (47 ∷ decimal version) (name_uri name forms.0) (both_uri (47 ∷ []) (decimal version) (word_uri (47 ∷ []) refl) (decimal_uri version small))), omega (arith, few, size, forms.0.1))
target_is (route.AskFile digest) forms =
    (omega arith, both_uri (codes "/files/") (encode_lower digest) (word_uri (codes "/files/") refl) (All-weaker (λ b. is_hex_digit b ≡ true) (λ b. IsTrue (is_uri_byte b)) hex_is_uri (encode_lower digest) (hex_digits digest forms)), omega (arith, length_hex digest forms))
target_is route.Report forms = (omega arith, word_uri (codes "/reports") refl, omega arith)
target_is (route.Results computer) forms =
    (omega arith, both_uri (codes "/results/") computer (word_uri (codes "/results/") refl) (name_uri computer forms), omega (arith, forms.1))

-- the head of a request
abbrev host_field : Field
host_field = record { name = codes "Host"; raw = codes " desk"; end = crlf }

host_field_is : IsField host_field
unfolding is_token_byte
host_field_is = record { name = is_token_name (codes "Host") refl refl; raw = passes_by is_value_byte (codes " desk") refl }

method_is : (asking : Asking) → IsToken (method_word asking)
unfolding is_token_byte
method_is Get = is_token_name (codes "GET") refl refl
method_is Post = is_token_name (codes "POST") refl refl

method_short : (asking : Asking) → length (method_word asking) ≤ 4
method_short Get = omega arith
method_short Post = omega arith

abbrev head_asked : Asking → List ℕ → ℕ → RequestHead
head_asked asking path n = record {
  blank = [];
  method = method_word asking;
  target = path;
  minor = 1;
  line_end = crlf;
  fields = host_field ∷ length_field n ∷ [];
  last = crlf;
}

section_asked : (n : ℕ) (body : List ℕ) → print_section (host_field ∷ length_field n ∷ []) crlf ++ body ≡ codes "Host: desk\r\nContent-Length: " ++ (decimal n ++ (codes "\r\n\r\n" ++ body))
section_asked n body =
    ap (λ l. codes "Host: desk\r\nContent-Length: " ++ l) (four_parts (decimal n) (13 ∷ 10 ∷ []) [] (13 ∷ 10 ∷ []) body)

asked_parts : (m s p h n e b : List ℕ) → (((((m ++ s) ++ p) ++ h) ++ n) ++ e) ++ b ≡ m ++ (s ++ (p ++ (h ++ (n ++ (e ++ b)))))
asked_parts m s p h n e b = simp (append_assoc)

regrouped : (asking : Asking) (path body : List ℕ) → ask_text asking path body ≡ method_word asking ++ (32 ∷ (path ++ (codes " HTTP/1.1\r\nHost: desk\r\nContent-Length: " ++ (decimal (length body) ++ (codes "\r\n\r\n" ++ body)))))
unfolding ask_text
regrouped asking path body =
    asked_parts (method_word asking) (codes " ") path (codes " HTTP/1.1\r\nHost: desk\r\nContent-Length: ") (decimal (length body)) (codes "\r\n\r\n") body

printed_asked : (asking : Asking) (path body : List ℕ) → ask_text asking path body ≡ print_request (head_asked asking path (length body)) ++ body
printed_asked asking path body =
    let n = length body in
    let there : print_request (head_asked asking path n) ++ body ≡ method_word asking ++ 32 ∷ (path ++ (codes " HTTP/1.1\r\n" ++ (print_section (host_field ∷ length_field n ∷ []) crlf ++ body))) =
    print_request-append (head_asked asking path n) body in
    regrouped asking path body ∙ sym (there ∙ ap (λ l. method_word asking ++ 32 ∷ (path ++ (codes " HTTP/1.1\r\n" ++ l))) (section_asked n body))

asked_short : (asking : Asking) (path body : List ℕ) → length path ≤ 128 → length body < 2 ^ 63 → length (print_request (head_asked asking path (length body))) ≤ 16384
asked_short asking path body few h =
    let n = length body in
    let digits = length-decimal-le 20 n (omega arith) (omega (arith, h)) (omega (arith, h)) in
    let whole = ap length (sym (regrouped asking path body) ∙ printed_asked asking path body) in
    let a = length-append (print_request (head_asked asking path n)) body in
    let tail = codes "\r\n\r\n" ++ body in
    let b = length-append (method_word asking) (32 ∷ (path ++ (codes " HTTP/1.1\r\nHost: desk\r\nContent-Length: " ++ (decimal n ++ tail)))) in
    let c = length-append path (codes " HTTP/1.1\r\nHost: desk\r\nContent-Length: " ++ (decimal n ++ tail)) in
    let d = length-append (decimal n) tail in
    omega (arith, digits, whole, a, b, c, d, few, method_short asking)

take_whole : (body : List ℕ) → take (length body) body ≡ body
take_whole body = grind (arith, common_steps)

pub asked_heard : (routes : Routes) (r : Route) (body : List ℕ) → HasForms r → is_open routes (row_of r).relay ≡ true → length body ≤ (row_of r).most → (most : ℕ) × Hears routes (ask_text (row_of r).asking (row_of r).path body) (Call (row_of r).asking (row_of r).path body) most
asked_heard routes r body forms here fits =
    let n = length body in
    let asking = (row_of r).asking in
    let path = (row_of r).path in
    let below : n < 2 ^ 63 = omega (arith, fits, most_of r) in
    let small : n < 2 ^ 64 = omega (arith, below) in
    let target = target_is r forms in
    let head = head_asked asking path n in
    let good : IsRequestHead head = record {
      method = method_is asking;
      target = (target.0, target.1);
      target_text = route_utf8 r forms;
      minor = omega arith;
      fields = All-cons IsField host_field (length_field n ∷ []) host_field_is (All-cons IsField (length_field n) [] (length_field_is n small) (All-nil IsField));
    } in
    let is : IsHead (ask_text asking path body) head body = record {
      reads = (good, printed_asked asking path body);
      short = asked_short asking path body target.2 below;
      few = omega arith;
    } in
    let stated : length_of head ≡ Some n = ap number_in (trimmed n small) ∙ number_again n small in
    let finds : IsRoute routes head.method head.target r = record { asked = refl; named = refl; forms = forms; here = here } in
    let call = call_is head body n r fits (omega arith) in
    (most_behind head n (Some r), good_head head body n (Some r) is stated finds (sym (call ∙ ap (Call asking path) (take_whole body))) refl)
