-- The paths of routes: each is text, and matches the pattern of its endpoint. Other crates may cite these lemmas.
use Rattle.std.proofs.Common.{◌≡◌, ◌≢◌, ℕ, ◌+◌, ◌%◌, ◌^◌, ◌<◌, ◌≤◌, inl, inr, true, false, ◌==◌, nat_lt, List, [], ◌∷◌, ◌++◌, length, All, Option, None, Some, refl, sym, ap, subst, ◌∙◌, arith, append-nil, append_assoc}
use Rattle.std.specs.Prelude.{codes, decimal}
use Rattle.std.specs.List.{list_all}
use Rattle.std.specs.Str.{IsUtf8}
use Rattle.std.proofs.lemmas.Bool.{and_parts, cases_eq}
use Rattle.std.proofs.lemmas.Bool.Decides.{nat_tests}
use Rattle.std.proofs.lemmas.List.Elements.{All-nil, All-cons, All-append, All-head, All-tail, All-weaker}
use Rattle.std.proofs.lemmas.List.{append_cancel_left, append_cancel_right}
use Rattle.std.proofs.lemmas.Str.{IsUtf8-append, IsUtf8-from_ascii}
use Rattle.std.proofs.lemmas.Str.Ascii.{IsAscii-from_all}
use Rattle.std.proofs.lemmas.Fmt.{IsAscii-decimal, decimal_by_steps, decimal_injective, decimal_nonempty}
use Rattle.hex.specs.Hex.{encode_lower, is_hex_digit, lower_digits}
use Rattle.hex.proofs.HexLemmas.{IsAscii-encode_with, decode_sized-encode_lower, decode_sized-twice, decode_of-ok, length-encode_with}
use Rattle.matchit.specs.Seek.{has_slash}
use Rattle.line_forms.specs.Cuts.{Lacks, IsLastCut}
use Rattle.line_forms.specs.Digests.{IsDigest}
use Rattle.line_forms.specs.Names.{IsName, is_name_byte}
use Rattle.line_forms.specs.Numbers.{IsId, IsNumber, last_id}
use Rattle.line_forms.specs.Readers.{Spells}
use Rattle.line_forms.specs.Reads.{Reads, ReadsText}
use Rattle.route_rules.specs.declared.route.Route.{Route}
use Rattle.route_rules.specs.declared.route.Route.TheVariants as route
use Rattle.route_rules.specs.Endpoints.{Matches, endpoint_of, pattern_of}
use Rattle.route_rules.specs.Finding.{Fronts, SpellsName}
use Rattle.route_rules.specs.Routes.{HasForms, IsDigestValue, file_path, results_path, row_of, site_path, stop_path}
use Rattle.route_rules.proofs.Segments.{cond_false}
use Rattle.route_rules.proofs.Shapes.{all_small, is_small}
use denote.Ref.{Bor}

-- no slash stands in a value
bare_by : (text : List ℕ) → Lacks 47 text → has_slash text ≡ false
bare_by [] lacks = refl
bare_by (b ∷ text) lacks =
    let other : (b == 47) ≡ false = elim (cases_eq b 47) [
      | inl same ↦ absurd (All-head (λ x. x ≢ 47) b text lacks same)
      | inr different ↦ grind (arith, nat_tests)
    ] in
    cond_false (b == 47) true (has_slash text) other ∙ bare_by text (All-tail (λ x. x ≢ 47) b text lacks)

pub lacks_decimal : (n : ℕ) → n < 2 ^ 64 → Lacks 47 (decimal n)
lacks_decimal n h =
    let P : ℕ → List ℕ → Type 0 = λ n ds. Lacks 47 ds in
    decimal_by_steps P
    (λ n small. All-cons (λ x. x ≢ 47) (48 + n) [] (omega arith) (All-nil (λ x. x ≢ 47)))
    (λ n ds large front. All-append (λ x. x ≢ 47) ds ((48 + n % 10) ∷ []) front (All-cons (λ x. x ≢ 47) (48 + n % 10) [] (omega arith) (All-nil (λ x. x ≢ 47))))
    n h

name_byte : (byte : ℕ) → is_name_byte byte ≡ true → byte ≢ 47
name_byte byte h e = grind (arith, nat_tests)

lacks_name : (name : List ℕ) → IsName name → Lacks 47 name
lacks_name name is = All-weaker (λ x. is_name_byte x ≡ true) (λ x. x ≢ 47) name_byte name is.2

pub length_hex : (digest : List ℕ) → IsDigestValue digest → length (encode_lower digest) ≡ 64
length_hex digest is = let e = length-encode_with lower_digits digest in omega (arith, e, is.0)

pub hex_digits : (digest : List ℕ) → IsDigestValue digest → All (λ b. is_hex_digit b ≡ true) (encode_lower digest)
hex_digits digest is =
    let text = encode_lower digest in
    (decode_of-ok text digest (sym (decode_sized-twice text 32 (length_hex digest is)) ∙ decode_sized-encode_lower digest 32 is.0 is.1)).1

lacks_hex : (digest : List ℕ) → IsDigestValue digest → Lacks 47 (encode_lower digest)
lacks_hex digest is = λ k d inside e. not_digit (sym (ap is_hex_digit e) ∙ hex_digits digest is k d inside)
  where
    not_digit : is_hex_digit 47 ≡ true → ⊥
    not_digit h = cc

some_hex : (digest : List ℕ) → IsDigestValue digest → 0 < length (encode_lower digest)
some_hex digest is = omega (arith, length_hex digest is)

-- digits in lower case are ASCII
small_by : (xs : List ℕ) → list_all (λ x. nat_lt x 128) xs ≡ true → All (λ x. x < 128) xs
small_by [] h = All-nil (λ x. x < 128)
small_by (x ∷ xs) h =
    let p = and_parts (nat_lt x 128) (list_all (λ x. nat_lt x 128) xs) h in
    All-cons (λ x. x < 128) x xs (grind (arith, nat_tests)) (small_by xs p.1)

utf8_hex : (digest : List ℕ) → IsUtf8 (encode_lower digest)
utf8_hex digest = IsUtf8-from_ascii (encode_lower digest) (IsAscii-encode_with lower_digits digest (IsAscii-from_all lower_digits (small_by lower_digits refl)))

utf8_word : (word : List ℕ) → list_all (λ x. nat_lt x 128) word ≡ true → IsUtf8 word
utf8_word word h = IsUtf8-from_ascii word (IsAscii-from_all word (small_by word h))

utf8_decimal : (n : ℕ) → n < 2 ^ 64 → IsUtf8 (decimal n)
utf8_decimal n h = IsUtf8-from_ascii (decimal n) (IsAscii-decimal n h)

name_small : (byte : ℕ) → is_name_byte byte ≡ true → byte < 128
name_small byte h = grind (arith, nat_tests)

utf8_name : (name : List ℕ) → IsName name → IsUtf8 name
utf8_name name is = IsUtf8-from_ascii name (IsAscii-from_all name (All-weaker (λ x. is_name_byte x ≡ true) (λ x. x < 128) name_small name is.2))

-- each path is text
pub route_utf8 : (r : Route) → HasForms r → IsUtf8 (row_of r).path
unfolding stop_path site_path file_path results_path
route_utf8 route.Publish forms = utf8_word (codes "/sites") refl
route_utf8 route.Act forms = utf8_word (codes "/actions") refl
route_utf8 (route.Stop id) forms =
    IsUtf8-append (codes "/actions/") (decimal id ++ codes "/stop") (utf8_word (codes "/actions/") refl)
    (IsUtf8-append (decimal id) (codes "/stop") (utf8_decimal id (omega (arith, forms.1))) (utf8_word (codes "/stop") refl))
route_utf8 route.File forms = utf8_word (codes "/files") refl
route_utf8 route.AskSites forms = utf8_word (codes "/sites") refl
route_utf8 (route.AskSite name version) forms =
    IsUtf8-append (codes "/sites/") (name ++ 47 ∷ decimal version) (utf8_word (codes "/sites/") refl)
    (IsUtf8-append name (47 ∷ decimal version) (utf8_name name forms.0)
    (IsUtf8-append (47 ∷ []) (decimal version) (utf8_word (47 ∷ []) refl) (utf8_decimal version (omega (arith, forms.1)))))
route_utf8 (route.AskFile digest) forms = IsUtf8-append (codes "/files/") (encode_lower digest) (utf8_word (codes "/files/") refl) (utf8_hex digest)
route_utf8 route.Report forms = utf8_word (codes "/reports") refl
route_utf8 (route.Results computer) forms = IsUtf8-append (codes "/results/") computer (utf8_word (codes "/results/") refl) (utf8_name computer forms)

-- a word matches itself, and a value the place of one
word_matches : (word tokens rest : List ℕ) → all_small word ≡ true → Matches tokens rest → Matches (word ++ tokens) (word ++ rest)
word_matches [] tokens rest h m = m
word_matches (x ∷ word) tokens rest h m =
    let p = and_parts (nat_lt x 256) (all_small word) h in
    inl (is_small x p.0, (word ++ rest, refl, word_matches word tokens rest p.1 m))

word_alone : (word : List ℕ) → all_small word ≡ true → Matches word word
word_alone [] h = refl
word_alone (x ∷ word) h = let p = and_parts (nat_lt x 256) (all_small word) h in inl (is_small x p.0, (word, refl, word_alone word p.1))

value_matches : (value tokens rest : List ℕ) → 0 < length value → Lacks 47 value → Matches tokens rest → Matches (256 ∷ tokens) (value ++ rest)
value_matches value tokens rest some lacks m = inr (refl, (value, rest, refl, some, bare_by value lacks, m))

value_last : (value : List ℕ) → 0 < length value → Lacks 47 value → Matches (256 ∷ []) value
value_last value some lacks = inr (refl, (value, [], sym (append-nil value), some, bare_by value lacks, refl))

-- each path matches the pattern of its endpoint
pub path_matches : (r : Route) → HasForms r → Matches (pattern_of (endpoint_of r)) (row_of r).path
unfolding stop_path site_path file_path results_path
path_matches route.Publish forms = word_alone (codes "/sites") refl
path_matches route.Act forms = word_alone (codes "/actions") refl
path_matches (route.Stop id) forms =
    let small : id < 2 ^ 64 = omega (arith, forms.1) in
    word_matches (codes "/actions/") (256 ∷ codes "/stop") (decimal id ++ codes "/stop") refl
    (value_matches (decimal id) (codes "/stop") (codes "/stop") (decimal_nonempty id small) (lacks_decimal id small) (word_alone (codes "/stop") refl))
path_matches route.File forms = word_alone (codes "/files") refl
path_matches route.AskSites forms = word_alone (codes "/sites") refl
path_matches (route.AskSite name version) forms =
    let small : version < 2 ^ 64 = omega (arith, forms.1) in
    word_matches (codes "/sites/") (256 ∷ 47 ∷ 256 ∷ []) (name ++ 47 ∷ decimal version) refl
    (value_matches name (47 ∷ 256 ∷ []) (47 ∷ decimal version) forms.0.0 (lacks_name name forms.0)
    (word_matches (47 ∷ []) (256 ∷ []) (decimal version) refl (value_last (decimal version) (decimal_nonempty version small) (lacks_decimal version small))))
path_matches (route.AskFile digest) forms =
    word_matches (codes "/files/") (256 ∷ []) (encode_lower digest) refl (value_last (encode_lower digest) (some_hex digest forms) (lacks_hex digest forms))
path_matches route.Report forms = word_alone (codes "/reports") refl
path_matches (route.Results computer) forms =
    word_matches (codes "/results/") (256 ∷ []) computer refl (value_last computer forms.0 (lacks_name computer forms))

-- what a front before a value leaves of it
pub front_none : (front path tail : List ℕ) (r : Option (Bor (List ℕ))) → Fronts front path r → r ≡ None → path ≡ front ++ tail → ⊥
front_none front path tail None cases was is = cases tail is
front_none front path tail (Some x) cases was is = cc was

pub spells_id : (path rest text : List ℕ) (r : Option ℕ) → path ≡ codes "/actions/" ++ rest → rest ≡ text ++ codes "/stop" → Spells IsId decimal text r → Spells IsId stop_path path r
unfolding stop_path
spells_id path rest text None is more none = λ id good e.
    none id good (append_cancel_right text (decimal id) (codes "/stop") (sym more ∙ append_cancel_left (codes "/actions/") rest (decimal id ++ codes "/stop") (sym is ∙ e)))
spells_id path rest text (Some id) is more found = (found.0, is ∙ ap (λ l. codes "/actions/" ++ l) (more ∙ ap (λ t. t ++ codes "/stop") found.1))

pub no_stop : (path rest : List ℕ) → path ≡ codes "/actions/" ++ rest → ((front : List ℕ) → rest ≢ front ++ codes "/stop") → (id : ℕ) → IsId id → path ≡ stop_path id → ⊥
unfolding stop_path
no_stop path rest is none id good e = none (decimal id) (append_cancel_left (codes "/actions/") rest (decimal id ++ codes "/stop") (sym is ∙ e))

pub no_actions : (path : List ℕ) (r : Option (Bor (List ℕ))) → Fronts (codes "/actions/") path r → r ≡ None → (id : ℕ) → IsId id → path ≡ stop_path id → ⊥
unfolding stop_path
no_actions path r cases was id good e = front_none (codes "/actions/") path (decimal id ++ codes "/stop") r cases was e

pub spells_digest : (path text : List ℕ) (r : Option (List ℕ)) → path ≡ codes "/files/" ++ text → Reads (IsDigest text) r → Spells IsDigestValue file_path path r
unfolding file_path
spells_digest path text None is none = λ digest good e. none digest (good.0, good.1, append_cancel_left (codes "/files/") text (encode_lower digest) (sym is ∙ e))
spells_digest path text (Some digest) is found = ((found.0.0, found.0.1), is ∙ ap (λ l. codes "/files/" ++ l) found.0.2)

pub no_files : (path : List ℕ) (r : Option (Bor (List ℕ))) → Fronts (codes "/files/") path r → r ≡ None → (digest : List ℕ) → IsDigestValue digest → path ≡ file_path digest → ⊥
unfolding file_path
no_files path r cases was digest good e = front_none (codes "/files/") path (encode_lower digest) r cases was e

pub spells_computer : (path text : List ℕ) (r : Option (Bor (List ℕ))) → path ≡ codes "/results/" ++ text → ReadsText IsName text r → SpellsName results_path path r
unfolding results_path
spells_computer path text None is none = λ name good e.
    let P : List ℕ → Type 0 = IsName in
    none (subst P (append_cancel_left (codes "/results/") name text (sym e ∙ is)) good)
spells_computer path text (Some name) is found =
    let P : List ℕ → Type 0 = IsName in
    (subst P (sym found.1) found.0, is ∙ ap (λ l. codes "/results/" ++ l) (sym found.1))

pub no_results : (path : List ℕ) (r : Option (Bor (List ℕ))) → Fronts (codes "/results/") path r → r ≡ None → (name : List ℕ) → IsName name → path ≡ results_path name → ⊥
unfolding results_path
no_results path r cases was name good e = front_none (codes "/results/") path name r cases was e

at_end : (ys left : List ℕ) → Lacks 47 (ys ++ 47 ∷ left) → ⊥
at_end [] left lacks = All-head (λ x. x ≢ 47) 47 left lacks refl
at_end (y ∷ ys) left lacks = at_end ys left (All-tail (λ x. x ≢ 47) y (ys ++ 47 ∷ left) lacks)

inside : (ys rest left : List ℕ) → rest ≡ ys ++ 47 ∷ left → Lacks 47 rest → ⊥
inside ys rest left tail lacks =
    let P : List ℕ → Type 0 = Lacks 47 in
    at_end ys left (subst P tail lacks)

-- a text is cut at its last slash in one way
one_last : (first rest other left : List ℕ) → Lacks 47 rest → Lacks 47 left → first ++ 47 ∷ rest ≡ other ++ 47 ∷ left → (other ≡ first) × (left ≡ rest)
one_last [] rest [] left a b e = (refl, cc)
one_last [] rest (y ∷ ys) left a b e =
    let tail : rest ≡ ys ++ 47 ∷ left = cc in
    absurd (inside ys rest left tail a)
one_last (x ∷ xs) rest [] left a b e =
    let tail : left ≡ xs ++ 47 ∷ rest = cc in
    absurd (inside xs left rest tail b)
one_last (x ∷ xs) rest (y ∷ ys) left a b e =
    let more = one_last xs rest ys left a b (cc) in
    let same : x ≡ y = cc in
    (ap (λ h. h ∷ ys) (sym same) ∙ ap (λ l. x ∷ l) more.0, more.1)

-- a site's path, cut at its last slash
site_cut : (path first rest name : List ℕ) (version : ℕ) → IsLastCut 47 path first rest → IsName name → version ≤ last_id → path ≡ site_path name version → (first ≡ codes "/sites/" ++ name) × (rest ≡ decimal version)
unfolding site_path
site_cut path first rest name version cut good small e =
    let whole : first ++ 47 ∷ rest ≡ (codes "/sites/" ++ name) ++ 47 ∷ decimal version = sym cut.1 ∙ e ∙ sym (append_assoc (codes "/sites/") name (47 ∷ decimal version)) in
    let one = one_last first rest (codes "/sites/" ++ name) (decimal version) cut.0 (lacks_decimal version (omega (arith, small))) whole in
    (sym one.0, sym one.1)

pub no_cut : (path name : List ℕ) (version : ℕ) → Lacks 47 path → path ≡ site_path name version → ⊥
unfolding site_path
no_cut path name version lacks e =
    let P : List ℕ → Type 0 = Lacks 47 in
    All-head (λ x. x ≢ 47) 47 (codes "sites/" ++ name ++ 47 ∷ decimal version) (subst P e lacks) refl

pub no_sites : (path first rest : List ℕ) (r : Option (Bor (List ℕ))) → IsLastCut 47 path first rest → Fronts (codes "/sites/") first r → r ≡ None → (name : List ℕ) (version : ℕ) → IsName name → version ≤ last_id → path ≡ site_path name version → ⊥
no_sites path first rest r cut cases was name version good small e =
    front_none (codes "/sites/") first name r cases was (site_cut path first rest name version cut good small e).0

pub no_name : (path first rest text : List ℕ) → IsLastCut 47 path first rest → first ≡ codes "/sites/" ++ text → (IsName text → ⊥) → (name : List ℕ) (version : ℕ) → IsName name → version ≤ last_id → path ≡ site_path name version → ⊥
no_name path first rest text cut is none name version good small e =
    let P : List ℕ → Type 0 = IsName in
    none (subst P (append_cancel_left (codes "/sites/") name text (sym (site_cut path first rest name version cut good small e).0 ∙ is)) good)

pub no_version : (path first rest : List ℕ) → IsLastCut 47 path first rest → ((n : ℕ) → IsNumber 9007199254740992 rest n → ⊥) → (name : List ℕ) (version : ℕ) → IsName name → version ≤ last_id → path ≡ site_path name version → ⊥
no_version path first rest cut none name version good small e = none version (small, (site_cut path first rest name version cut good small e).1)

pub is_site : (path first rest text name : List ℕ) (version : ℕ) → IsLastCut 47 path first rest → first ≡ codes "/sites/" ++ text → name ≡ text → rest ≡ decimal version → path ≡ site_path name version
unfolding site_path
is_site path first rest text name version cut is same number =
    cut.1 ∙ ap (λ l. l ++ 47 ∷ rest) is ∙ append_assoc (codes "/sites/") text (47 ∷ rest)
    ∙ ap (λ l. codes "/sites/" ++ l) (ap (λ t. t ++ 47 ∷ rest) (sym same) ∙ ap (λ l. name ++ 47 ∷ l) number)

-- the name and the version of a site's path are known by it
pub one_site : (name other : List ℕ) (version n : ℕ) → version ≤ last_id → n ≤ last_id → site_path name version ≡ site_path other n → (name ≡ other) × (version ≡ n)
unfolding site_path
one_site name other version n small low e =
    let h : version < 2 ^ 64 = omega (arith, small) in
    let k : n < 2 ^ 64 = omega (arith, low) in
    let whole : name ++ 47 ∷ decimal version ≡ other ++ 47 ∷ decimal n = append_cancel_left (codes "/sites/") (name ++ 47 ∷ decimal version) (other ++ 47 ∷ decimal n) e in
    let one = one_last name (decimal version) other (decimal n) (lacks_decimal version h) (lacks_decimal n k) whole in
    (sym one.0, decimal_injective version n h k (sym one.1))
