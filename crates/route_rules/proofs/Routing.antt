-- What a router finds is the endpoint of a method and a path, and what they ask for is one route.
use Rattle.std.proofs.Common.{◌≡◌, ℕ, ◌≤◌, inl, inr, Bool, true, false, cond, ◌==◌, ◌&&◌, nat_lt, List, [], ◌∷◌, ◌++◌, get_or, Option, None, Some, Result, Ok, Err, IfOk, is_some, refl, sym, ap, subst, ◌∙◌, arith, Fits, w8}
use Rattle.std.specs.Prelude.{codes, decimal}
use Rattle.std.specs.Str.{IsUtf8}
use Rattle.std.proofs.lemmas.Bool.{and_parts, false≢true}
use Rattle.std.proofs.lemmas.Bool.Decides.{nat_tests}
use Rattle.std.proofs.lemmas.List.{append_cancel_left, append_cancel_right}
use Rattle.std.proofs.lemmas.Fmt.{decimal_injective}
use Rattle.matchit.specs.Rows.{RowsOf}
use Rattle.matchit.specs.Router.{RouteOf}
use Rattle.matchit.specs.Seek.{first}
use Rattle.hex.proofs.HexLemmas.{decode_sized-encode_lower}
use Rattle.hex.specs.Hex.{encode_lower}
use Rattle.route_rules.specs.declared.endpoint.Endpoint.{Endpoint}
use Rattle.route_rules.specs.declared.endpoint.Endpoint.TheVariants as endpoint
use Rattle.route_rules.specs.declared.method.Asking.{Asking}
use Rattle.route_rules.specs.declared.method.Asking.TheVariants.{Get, Post}
use Rattle.route_rules.specs.declared.route.Route.{Route}
use Rattle.route_rules.specs.declared.route.Route.TheVariants as route
use Rattle.route_rules.specs.declared.route.Routes.{Routes}
use Rattle.route_rules.specs.declared.route.Routes.TheVariants.{Server, Relay}
use Rattle.route_rules.specs.Endpoints.{AllTidy, Ends, HasRow, IsTidy, Matches, endpoint_of, method_of, opens, pattern_of, row, rows_of}
use Rattle.route_rules.specs.Finding.{HasNoValue, ReadsRoute}
use Rattle.route_rules.specs.Routes.{FindsRoute, HasForms, IsDigestValue, IsRoute, file_path, is_open, method_word, results_path, row_of, site_path, stop_path}
use Rattle.route_rules.proofs.Segments.{cond_true}
use Rattle.route_rules.proofs.Sound.{sound}
use Rattle.route_rules.proofs.Complete.{complete}
use Rattle.route_rules.proofs.Routed.{all_bytes}
use Rattle.route_rules.proofs.Shapes.{one_endpoint}
use Rattle.route_rules.proofs.Values.{path_matches, route_utf8, one_site}

-- the patterns are tidy
abbrev ends_test : List ℕ → Bool
ends_test [] = true
ends_test (x ∷ tokens) = x == 47

abbrev tidy_test : List ℕ → Bool
tidy_test [] = true
tidy_test (x ∷ tokens) = nat_lt x 257 && (cond (x == 256) (ends_test tokens) true && tidy_test tokens)

ends_by : (tokens : List ℕ) → ends_test tokens ≡ true → Ends tokens
ends_by [] h = tt
ends_by (x ∷ tokens) h = grind (arith, nat_tests)

tidy_by : (tokens : List ℕ) → tidy_test tokens ≡ true → IsTidy tokens
tidy_by [] h = tt
tidy_by (x ∷ tokens) h =
    let p = and_parts (nat_lt x 257) (cond (x == 256) (ends_test tokens) true && tidy_test tokens) h in
    let q = and_parts (cond (x == 256) (ends_test tokens) true) (tidy_test tokens) p.1 in
    let small : x ≤ 256 = at_most x p.0 in
    (small, λ e. ends_by tokens (sym (cond_true (x == 256) (ends_test tokens) true (same x e)) ∙ q.0), tidy_by tokens q.1)
  where
    at_most : (x : ℕ) → nat_lt x 257 ≡ true → x ≤ 256
    at_most x h = grind (arith, nat_tests)

    same : (x : ℕ) → x ≡ 256 → (x == 256) ≡ true
    same x e = grind (arith, nat_tests)

tidy_pattern : (e : Endpoint) → IsTidy (pattern_of e)
tidy_pattern endpoint.Publish = tidy_by (codes "/sites") refl
tidy_pattern endpoint.Act = tidy_by (codes "/actions") refl
tidy_pattern endpoint.Stop = tidy_by (codes "/actions/" ++ 256 ∷ codes "/stop") refl
tidy_pattern endpoint.File = tidy_by (codes "/files") refl
tidy_pattern endpoint.AskSites = tidy_by (codes "/sites") refl
tidy_pattern endpoint.AskSite = tidy_by (codes "/sites/" ++ 256 ∷ 47 ∷ 256 ∷ []) refl
tidy_pattern endpoint.AskFile = tidy_by (codes "/files/" ++ 256 ∷ []) refl
tidy_pattern endpoint.Report = tidy_by (codes "/reports") refl
tidy_pattern endpoint.Results = tidy_by (codes "/results/" ++ 256 ∷ []) refl

-- a row of a router is that of an endpoint of its method
abbrev IsRowOf : Asking → List ℕ → RouteOf Endpoint → Type 0
IsRowOf asking tokens key = (tokens ≡ pattern_of key.value) × (method_of key.value ≡ asking)

is_row : (text : List ℕ) (names : List (ℕ × ℕ)) (e : Endpoint) (asking : Asking) (tokens : List ℕ) (key : RouteOf Endpoint) → method_of e ≡ asking → (row text names e).0 ≡ tokens → (row text names e).1 ≡ key → IsRowOf asking tokens key
is_row text names e asking tokens key m same k =
    let v : e ≡ key.value = ap (λ (r : RouteOf Endpoint). r.value) k in
    (sym same ∙ ap pattern_of v, sym (ap method_of v) ∙ m)

row_says : (asking : Asking) (tokens : List ℕ) (key : RouteOf Endpoint) → HasRow tokens key (rows_of asking) → IsRowOf asking tokens key
row_says Get tokens key (inl h) = is_row _ _ endpoint.AskFile Get tokens key refl h.0 h.1
row_says Get tokens key (inr (inl h)) = is_row _ _ endpoint.Results Get tokens key refl h.0 h.1
row_says Get tokens key (inr (inr (inl h))) = is_row _ _ endpoint.AskSite Get tokens key refl h.0 h.1
row_says Get tokens key (inr (inr (inr (inl h)))) = is_row _ _ endpoint.AskSites Get tokens key refl h.0 h.1
row_says Get tokens key (inr (inr (inr (inr h)))) = absurd h
row_says Post tokens key (inl h) = is_row _ _ endpoint.Stop Post tokens key refl h.0 h.1
row_says Post tokens key (inr (inl h)) = is_row _ _ endpoint.Act Post tokens key refl h.0 h.1
row_says Post tokens key (inr (inr (inl h))) = is_row _ _ endpoint.File Post tokens key refl h.0 h.1
row_says Post tokens key (inr (inr (inr (inl h)))) = is_row _ _ endpoint.Report Post tokens key refl h.0 h.1
row_says Post tokens key (inr (inr (inr (inr (inl h))))) = is_row _ _ endpoint.Publish Post tokens key refl h.0 h.1
row_says Post tokens key (inr (inr (inr (inr (inr h))))) = absurd h

all_tidy : (asking : Asking) → AllTidy (rows_of asking)
all_tidy asking tokens key has =
    let P : List ℕ → Type 0 = IsTidy in
    subst P (sym (row_says asking tokens key has).0) (tidy_pattern key.value)

-- each endpoint has a row
has_row : (e : Endpoint) → (key : RouteOf Endpoint) × HasRow (pattern_of e) key (rows_of (method_of e))
has_row endpoint.AskFile = ((row (codes "/files/{sha256}") ((8, 14) ∷ []) endpoint.AskFile).1, inl (refl, refl))
has_row endpoint.Results = ((row (codes "/results/{computer}") ((10, 18) ∷ []) endpoint.Results).1, inr (inl (refl, refl)))
has_row endpoint.AskSite = ((row (codes "/sites/{name}/{version}") ((8, 12) ∷ (15, 22) ∷ []) endpoint.AskSite).1, inr (inr (inl (refl, refl))))
has_row endpoint.AskSites = ((row (codes "/sites") [] endpoint.AskSites).1, inr (inr (inr (inl (refl, refl)))))
has_row endpoint.Stop = ((row (codes "/actions/{id}/stop") ((10, 12) ∷ []) endpoint.Stop).1, inl (refl, refl))
has_row endpoint.Act = ((row (codes "/actions") [] endpoint.Act).1, inr (inl (refl, refl)))
has_row endpoint.File = ((row (codes "/files") [] endpoint.File).1, inr (inr (inl (refl, refl))))
has_row endpoint.Report = ((row (codes "/reports") [] endpoint.Report).1, inr (inr (inr (inl (refl, refl)))))
has_row endpoint.Publish = ((row (codes "/sites") [] endpoint.Publish).1, inr (inr (inr (inr (inl (refl, refl))))))

pub found_endpoint : (rows : RowsOf (RouteOf Endpoint)) (asking : Asking) (path : List ℕ) (key : RouteOf Endpoint) → rows ≡ rows_of asking → ((i : ℕ) → Fits w8 (get_or path i 0)) → first rows path ≡ Some key → (method_of key.value ≡ asking) × Matches (pattern_of key.value) path
found_endpoint rows asking path key is fits found =
    let f = sound 0 (rows_of asking) path key (all_tidy asking) (all_bytes path fits) (sym (ap (λ r. first r path) is) ∙ found) in
    let r = row_says asking f.0 key f.1 in
    (r.1, subst (λ l. Matches l path) r.0 f.2)

pub missing_endpoint : (rows : RowsOf (RouteOf Endpoint)) (asking : Asking) (path : List ℕ) → rows ≡ rows_of asking → first rows path ≡ None → (e : Endpoint) → method_of e ≡ asking → Matches (pattern_of e) path → ⊥
missing_endpoint rows asking path is none e m hit =
    let r = has_row e in
    let there = complete 0 (rows_of (method_of e)) path (pattern_of e) r.0 (all_tidy (method_of e)) r.1 hit in
    let gone : first (rows_of (method_of e)) path ≡ None = ap (λ a. first (rows_of a) path) m ∙ sym (ap (λ r. first r path) is) ∙ none in
    false≢true (sym (ap (λ o. is_some o) gone) ∙ there)

-- the method of a route's endpoint, and whether it is open
method_same : (r : Route) → method_of (endpoint_of r) ≡ (row_of r).asking
method_same route.Publish = refl
method_same route.Act = refl
method_same (route.Stop id) = refl
method_same route.File = refl
method_same route.AskSites = refl
method_same (route.AskSite name version) = refl
method_same (route.AskFile digest) = refl
method_same route.Report = refl
method_same (route.Results computer) = refl

open_same : (routes : Routes) (r : Route) → opens routes (endpoint_of r) ≡ is_open routes (row_of r).relay
open_same Server r = refl
open_same Relay route.Publish = refl
open_same Relay route.Act = refl
open_same Relay (route.Stop id) = refl
open_same Relay route.File = refl
open_same Relay route.AskSites = refl
open_same Relay (route.AskSite name version) = refl
open_same Relay (route.AskFile digest) = refl
open_same Relay route.Report = refl
open_same Relay (route.Results computer) = refl

word_method : Asking → ℕ
word_method Get = 71
word_method Post = 80

method_one : (a b : Asking) → method_word a ≡ method_word b → a ≡ b
method_one Get Get e = refl
method_one Post Post e = refl
method_one Get Post e = let h : 71 ≡ 80 = ap (λ l. get_or l 0 0) e in absurd (omega (arith, h))
method_one Post Get e = let h : 80 ≡ 71 = ap (λ l. get_or l 0 0) e in absurd (omega (arith, h))

not_spelled : (path : List ℕ) (r : Route) → HasNoValue (endpoint_of r) path → HasForms r → path ≡ (row_of r).path → ⊥
not_spelled path route.Publish none forms is = none
not_spelled path route.Act none forms is = none
not_spelled path (route.Stop id) none forms is = none id forms is
not_spelled path route.File none forms is = none
not_spelled path route.AskSites none forms is = none
not_spelled path (route.AskSite name version) none forms is = none name version forms.0 forms.1 is
not_spelled path (route.AskFile digest) none forms is = none digest forms is
not_spelled path route.Report none forms is = none
not_spelled path (route.Results computer) none forms is = none computer forms is

module _ (routes : Routes) (method path : List ℕ) where
  pub no_method : ((asking : Asking) → method ≡ method_word asking → ⊥) → (r : Route) → IsRoute routes method path r → ⊥
  no_method none r is = none (row_of r).asking is.asked

  pub no_text : (IsUtf8 path → ⊥) → (r : Route) → IsRoute routes method path r → ⊥
  no_text none r is = let P : List ℕ → Type 0 = IsUtf8 in none (subst P (sym is.named) (route_utf8 r is.forms))

  -- a route's method and path are those of its endpoint
  is_endpoint : (asking : Asking) → method ≡ method_word asking → (r : Route) → IsRoute routes method path r → (method_of (endpoint_of r) ≡ asking) × Matches (pattern_of (endpoint_of r)) path
  is_endpoint asking word r is =
      (method_same r ∙ method_one (row_of r).asking asking (sym is.asked ∙ word), subst (λ l. Matches (pattern_of (endpoint_of r)) l) (sym is.named) (path_matches r is.forms))

  pub no_endpoint : (asking : Asking) (text : List ℕ) → method ≡ method_word asking → text ≡ path → ((e : Endpoint) → method_of e ≡ asking → Matches (pattern_of e) text → ⊥) → (r : Route) → IsRoute routes method path r → ⊥
  no_endpoint asking text word same none r is =
      let at = is_endpoint asking word r is in
      none (endpoint_of r) at.0 (subst (λ l. Matches (pattern_of (endpoint_of r)) l) (sym same) at.1)

  -- where an endpoint was found, a route is that of it
  one_found : (asking : Asking) (e : Endpoint) → method ≡ method_word asking → method_of e ≡ asking → Matches (pattern_of e) path → (r : Route) → IsRoute routes method path r → endpoint_of r ≡ e
  one_found asking e word m hit r is =
      let at = is_endpoint asking word r is in
      one_endpoint (endpoint_of r) e path (at.0 ∙ sym m) at.1 hit

  pub not_open : (asking : Asking) (e : Endpoint) (text : List ℕ) → method ≡ method_word asking → text ≡ path → method_of e ≡ asking → Matches (pattern_of e) text → opens routes e ≡ false → (r : Route) → IsRoute routes method path r → ⊥
  not_open asking e text word same m hit shut r is =
      let one = one_found asking e word m (subst (λ l. Matches (pattern_of e) l) same hit) r is in
      false≢true (sym shut ∙ ap (opens routes) (sym one) ∙ open_same routes r ∙ is.here)

  pub route_found : (asking : Asking) (e : Endpoint) (text : List ℕ) (found : Option Route) → method ≡ method_word asking → text ≡ path → method_of e ≡ asking → Matches (pattern_of e) text → opens routes e ≡ true → ReadsRoute e path found → FindsRoute routes method path found
  route_found asking e text None word same m hit open_ none = λ r is.
      let one = one_found asking e word m (subst (λ l. Matches (pattern_of e) l) same hit) r is in
      not_spelled path r (subst (λ e. HasNoValue e path) (sym one) none) is.forms is.named
  route_found asking e text (Some r) word same m hit open_ found = record {
    asked = word ∙ ap method_word (sym m ∙ ap method_of (sym found.0) ∙ method_same r);
    named = found.2;
    forms = found.1;
    here = sym (open_same routes r) ∙ ap (opens routes) found.0 ∙ open_;
  }

digest_one : (digest other : List ℕ) → IsDigestValue digest → IsDigestValue other → encode_lower digest ≡ encode_lower other → digest ≡ other
digest_one digest other a b same =
    let x = decode_sized-encode_lower digest 32 a.0 a.1 in
    let y = decode_sized-encode_lower other 32 b.0 b.1 in
    cc

-- A route is known by its endpoint and its path.
one_of : (path : List ℕ) (r other : Route) → endpoint_of r ≡ endpoint_of other → HasForms r → HasForms other → path ≡ (row_of r).path → path ≡ (row_of other).path → r ≡ other
unfolding stop_path site_path file_path results_path
one_of path route.Publish route.Publish e a b is too = refl
one_of path route.Act route.Act e a b is too = refl
one_of path route.File route.File e a b is too = refl
one_of path route.AskSites route.AskSites e a b is too = refl
one_of path route.Report route.Report e a b is too = refl
one_of path (route.Stop id) (route.Stop n) e a b is too =
    let same = append_cancel_right (decimal id) (decimal n) (codes "/stop") (append_cancel_left (codes "/actions/") (decimal id ++ codes "/stop") (decimal n ++ codes "/stop") (sym is ∙ too)) in
    ap (λ (n : ℕ). route.Stop n) (decimal_injective id n (omega (arith, a.1)) (omega (arith, b.1)) same)
one_of path (route.AskSite name version) (route.AskSite text n) e a b is too =
    let same = one_site name text version n a.1 b.1 (sym is ∙ too) in
    ap (λ l. route.AskSite l version) same.0 ∙ ap (λ n. route.AskSite text n) same.1
one_of path (route.AskFile digest) (route.AskFile bytes) e a b is too =
    let same = append_cancel_left (codes "/files/") (encode_lower digest) (encode_lower bytes) (sym is ∙ too) in
    ap (λ (d : List ℕ). route.AskFile d) (digest_one digest bytes a b same)
one_of path (route.Results name) (route.Results text) e a b is too =
    ap (λ (n : List ℕ). route.Results n) (append_cancel_left (codes "/results/") name text (sym is ∙ too))
one_of path r other e a b is too = cc

pub one_route : (routes : Routes) (method path : List ℕ) (found other : Option Route) → FindsRoute routes method path found → FindsRoute routes method path other → found ≡ other
one_route routes method path None None a b = refl
one_route routes method path None (Some r) a b = absurd (a r b)
one_route routes method path (Some r) None a b = absurd (b r a)
one_route routes method path (Some r) (Some s) a b =
    let m : method_of (endpoint_of r) ≡ method_of (endpoint_of s) = method_same r ∙ method_one (row_of r).asking (row_of s).asking (sym a.asked ∙ b.asked) ∙ sym (method_same s) in
    let one = one_endpoint (endpoint_of r) (endpoint_of s) path m
    (subst (λ l. Matches (pattern_of (endpoint_of r)) l) (sym a.named) (path_matches r a.forms))
    (subst (λ l. Matches (pattern_of (endpoint_of s)) l) (sym b.named) (path_matches s b.forms)) in
    ap Some (one_of path r s one a.forms b.forms a.named b.named)

pub routes_found : {E : Type 0} (routes : Routes) (method path : List ℕ) (asking : Asking) (e : Endpoint) (text : List ℕ) (r : Result (Option Route) E) → method ≡ method_word asking → text ≡ path → (method_of e ≡ asking) × Matches (pattern_of e) text → opens routes e ≡ true → IfOk r (λ found. ReadsRoute e path found) → IfOk r (λ found. FindsRoute routes method path found)
routes_found routes method path asking e text (Ok found) word same is open_ reads = route_found routes method path asking e text found word same is.0 is.1 open_ reads
routes_found routes method path asking e text (Err error) word same is open_ reads = reads
