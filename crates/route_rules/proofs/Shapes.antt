-- A path of an endpoint is that of no other one of its method.
use Rattle.std.proofs.Common.{◌≡◌, ℕ, suc, ◌+◌, ◌<◌, inl, inr, Bool, true, false, cond, ◌==◌, nat_lt, List, [], ◌∷◌, ◌++◌, get_or, refl, sym, ap, ◌∙◌, arith}
use Rattle.std.specs.Prelude.{codes}
use Rattle.std.specs.List.{list_all}
use Rattle.std.proofs.lemmas.Bool.{and_parts, cases_Bool}
use Rattle.std.proofs.lemmas.Bool.Decides.{nat_tests}
use Rattle.matchit.specs.Seek.{has_slash}
use Rattle.route_rules.specs.declared.endpoint.Endpoint.{Endpoint}
use Rattle.route_rules.specs.declared.endpoint.Endpoint.TheVariants as endpoint
use Rattle.route_rules.specs.declared.method.Asking.{Asking}
use Rattle.route_rules.specs.declared.method.Asking.TheVariants.{Get, Post}
use Rattle.route_rules.specs.Endpoints.{Matches, method_of, pattern_of}
use Rattle.route_rules.proofs.Segments.{cond_true, cond_false}
use Rattle.route_rules.proofs.Complete.{bare_tail}

-- every token of a word is a byte
abbrev pub all_small : List ℕ → Bool
all_small word = list_all (λ x. nat_lt x 256) word

pub is_small : (x : ℕ) → nat_lt x 256 ≡ true → x < 256
is_small x h = grind (arith, nat_tests)

-- what stands behind a word in a path that matches
pub after_word : (word tokens path : List ℕ) → all_small word ≡ true → Matches (word ++ tokens) path → (rest : List ℕ) × (path ≡ word ++ rest) × Matches tokens rest
after_word [] tokens path h m = (path, refl, m)
after_word (x ∷ word) tokens path h (inl (small, (q, whole, m))) =
    let r = after_word word tokens q (and_parts (nat_lt x 256) (all_small word) h).1 m in
    (r.0, whole ∙ ap (λ l. x ∷ l) r.1, r.2)
after_word (x ∷ word) tokens path h (inr (wild, m)) = absurd (omega (arith, wild, is_small x (and_parts (nat_lt x 256) (all_small word) h).0))

pub only_word : (word path : List ℕ) → all_small word ≡ true → Matches word path → path ≡ word
only_word [] path h m = m
only_word (x ∷ word) path h (inl (small, (q, whole, m))) =
    whole ∙ ap (λ l. x ∷ l) (only_word word q (and_parts (nat_lt x 256) (all_small word) h).1 m)
only_word (x ∷ word) path h (inr (wild, m)) = absurd (omega (arith, wild, is_small x (and_parts (nat_lt x 256) (all_small word) h).0))

-- a value, and what stands behind it
pub after_value : (tokens path : List ℕ) → Matches (256 ∷ tokens) path → (part : List ℕ) × (rest : List ℕ) × (path ≡ part ++ rest) × (has_slash part ≡ false) × Matches tokens rest
after_value tokens path (inl (small, m)) = absurd (omega (arith, small))
after_value tokens path (inr (wild, (part, rest, whole, some, bare, m))) = (part, rest, whole, bare, m)

-- how many slashes a path has
abbrev pub slashes : List ℕ → ℕ
slashes [] = 0
slashes (b ∷ path) = cond (b == 47) (suc (slashes path)) (slashes path)

slashes_append : (front rest : List ℕ) → slashes (front ++ rest) ≡ slashes front + slashes rest
slashes_append [] rest = let none : slashes [] ≡ 0 = refl in omega (arith, none)
slashes_append (b ∷ front) rest = elim (cases_Bool (b == 47)) [
  | inl slash ↦
      let one = cond_true (b == 47) (suc (slashes (front ++ rest))) (slashes (front ++ rest)) slash in
      let other = cond_true (b == 47) (suc (slashes front)) (slashes front) slash in
      omega (arith, one, other, slashes_append front rest)
  | inr none ↦
      let one = cond_false (b == 47) (suc (slashes (front ++ rest))) (slashes (front ++ rest)) none in
      let other = cond_false (b == 47) (suc (slashes front)) (slashes front) none in
      omega (arith, one, other, slashes_append front rest)
]

slashes_none : (part : List ℕ) → has_slash part ≡ false → slashes part ≡ 0
slashes_none [] bare = refl
slashes_none (b ∷ part) bare =
    let t = bare_tail b part bare in
    cond_false (b == 47) (suc (slashes part)) (slashes part) t.0 ∙ slashes_none part t.1

-- the slashes of a path of an endpoint, and its second byte
abbrev pub slashes_of : Endpoint → ℕ
slashes_of endpoint.Stop = 3
slashes_of endpoint.AskSite = 3
slashes_of endpoint.AskFile = 2
slashes_of endpoint.Results = 2
slashes_of other = 1

abbrev pub initial_of : Endpoint → ℕ
initial_of endpoint.Publish = 115
initial_of endpoint.Act = 97
initial_of endpoint.Stop = 97
initial_of endpoint.File = 102
initial_of endpoint.AskSites = 115
initial_of endpoint.AskSite = 115
initial_of endpoint.AskFile = 102
initial_of endpoint.Report = 114
initial_of endpoint.Results = 114

abbrev pub HasShape : List ℕ → ℕ → ℕ → Type 0
HasShape path count initial = (slashes path ≡ count) × (get_or path 1 0 ≡ initial)

word_shape : (word path : List ℕ) → path ≡ word → HasShape path (slashes word) (get_or word 1 0)
word_shape word path is = (ap slashes is, ap (λ l. get_or l 1 0) is)

-- a word of two slashes, a value, and what follows
value_count : (word path rest part tail : List ℕ) → path ≡ word ++ rest → rest ≡ part ++ tail → has_slash part ≡ false → slashes path ≡ slashes word + slashes tail
value_count word path rest part tail is more bare =
    let a = ap slashes is ∙ slashes_append word rest in
    let b = ap slashes more ∙ slashes_append part tail in
    omega (arith, a, b, slashes_none part bare)

site_shape : (path : List ℕ) → Matches (pattern_of endpoint.AskSite) path → HasShape path 3 115
site_shape path m =
    let w = after_word (codes "/sites/") (256 ∷ 47 ∷ 256 ∷ []) path refl m in
    let v = after_value (47 ∷ 256 ∷ []) w.0 w.2 in
    let s = after_word (47 ∷ []) (256 ∷ []) v.1 refl v.4 in
    let u = after_value [] s.0 s.2 in
    let end : u.1 ≡ [] = u.4 in
    let tail = value_count (47 ∷ []) v.1 s.0 u.0 u.1 s.1 u.2 u.3 in
    let none = ap slashes end in
    let count = value_count (codes "/sites/") path w.0 v.0 v.1 w.1 v.2 v.3 in
    (omega (arith, count, tail, none), ap (λ l. get_or l 1 0) w.1)

stop_shape : (path : List ℕ) → Matches (pattern_of endpoint.Stop) path → HasShape path 3 97
stop_shape path m =
    let w = after_word (codes "/actions/") (256 ∷ codes "/stop") path refl m in
    let v = after_value (codes "/stop") w.0 w.2 in
    let end = only_word (codes "/stop") v.1 refl v.4 in
    let tail = ap slashes end in
    let count = value_count (codes "/actions/") path w.0 v.0 v.1 w.1 v.2 v.3 in
    (omega (arith, count, tail), ap (λ l. get_or l 1 0) w.1)

file_shape : (path : List ℕ) → Matches (pattern_of endpoint.AskFile) path → HasShape path 2 102
file_shape path m =
    let w = after_word (codes "/files/") (256 ∷ []) path refl m in
    let v = after_value [] w.0 w.2 in
    let none = ap slashes v.4 in
    let count = value_count (codes "/files/") path w.0 v.0 v.1 w.1 v.2 v.3 in
    (omega (arith, count, none), ap (λ l. get_or l 1 0) w.1)

results_shape : (path : List ℕ) → Matches (pattern_of endpoint.Results) path → HasShape path 2 114
results_shape path m =
    let w = after_word (codes "/results/") (256 ∷ []) path refl m in
    let v = after_value [] w.0 w.2 in
    let none = ap slashes v.4 in
    let count = value_count (codes "/results/") path w.0 v.0 v.1 w.1 v.2 v.3 in
    (omega (arith, count, none), ap (λ l. get_or l 1 0) w.1)

pub shape_of : (e : Endpoint) (path : List ℕ) → Matches (pattern_of e) path → HasShape path (slashes_of e) (initial_of e)
shape_of endpoint.Publish path m = word_shape (codes "/sites") path (only_word (codes "/sites") path refl m)
shape_of endpoint.Act path m = word_shape (codes "/actions") path (only_word (codes "/actions") path refl m)
shape_of endpoint.Stop path m = stop_shape path m
shape_of endpoint.File path m = word_shape (codes "/files") path (only_word (codes "/files") path refl m)
shape_of endpoint.AskSites path m = word_shape (codes "/sites") path (only_word (codes "/sites") path refl m)
shape_of endpoint.AskSite path m = site_shape path m
shape_of endpoint.AskFile path m = file_shape path m
shape_of endpoint.Report path m = word_shape (codes "/reports") path (only_word (codes "/reports") path refl m)
shape_of endpoint.Results path m = results_shape path m

-- by them an endpoint of a method is known
abbrev endpoint_by : Asking → ℕ → ℕ → Endpoint
endpoint_by Get count initial = cond (count == 1) endpoint.AskSites (cond (count == 3) endpoint.AskSite (cond (initial == 102) endpoint.AskFile endpoint.Results))
endpoint_by Post count initial =
    cond (count == 3) endpoint.Stop (cond (initial == 97) endpoint.Act (cond (initial == 102) endpoint.File (cond (initial == 114) endpoint.Report endpoint.Publish)))

known_by : (e : Endpoint) → endpoint_by (method_of e) (slashes_of e) (initial_of e) ≡ e
known_by endpoint.Publish = refl
known_by endpoint.Act = refl
known_by endpoint.Stop = refl
known_by endpoint.File = refl
known_by endpoint.AskSites = refl
known_by endpoint.AskSite = refl
known_by endpoint.AskFile = refl
known_by endpoint.Report = refl
known_by endpoint.Results = refl

known : (e : Endpoint) (path : List ℕ) → Matches (pattern_of e) path → endpoint_by (method_of e) (slashes path) (get_or path 1 0) ≡ e
known e path m =
    let s = shape_of e path m in
    ap (λ n. endpoint_by (method_of e) n (get_or path 1 0)) s.0 ∙ ap (λ n. endpoint_by (method_of e) (slashes_of e) n) s.1 ∙ known_by e

pub one_endpoint : (e other : Endpoint) (path : List ℕ) → method_of e ≡ method_of other → Matches (pattern_of e) path → Matches (pattern_of other) path → e ≡ other
one_endpoint e other path same m n =
    sym (known e path m) ∙ ap (λ a. endpoint_by a (slashes path) (get_or path 1 0)) same ∙ known other path n
