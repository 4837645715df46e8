-- What holds of requests and replies.
use Rattle.std.proofs.Common.{◌≡◌, ℕ, ◌<◌, List, ◌++◌, Option, length, length-append, sym, ap, subst, ◌∙◌, arith}
use Rattle.httparse.specs.Grammar.{RequestHead, ResponseHead, status_code}
use Rattle.httparse.proofs.GrammarLemmas.{request_unique, response_prefix_free, response_unique}
use Rattle.httparse.specs.Spans.{name_and_value}
use Rattle.route_rules.specs.declared.route.Routes.{Routes}
use Rattle.route_rules.specs.declared.route.Route.{Route}
use Rattle.route_rules.specs.Routes.{FindsRoute}
use Rattle.desk_http.specs.Fields.{reply_length}
use Rattle.desk_http.specs.Heard.{Heard, Hears, length_of, heard_behind, most_behind, no_head, bad_fields, good_head}
use Rattle.desk_http.specs.Replied.{IsReply}
use Rattle.desk_http.proofs.Requests.{none_some, same_in}
use Rattle.std.specs.Prelude.{map}

-- a method and a path have one route
abbrev pub HasOneRoute : Type 0
HasOneRoute = (routes : Routes) (method path : List ℕ) (found other : Option Route) → FindsRoute routes method path found → FindsRoute routes method path other → found ≡ other

pub one_heard : HasOneRoute → (routes : Routes) (bytes : List ℕ) (heard other : Heard) (most least : ℕ) → Hears routes bytes heard most → Hears routes bytes other least → (heard ≡ other) × (most ≡ least)
one_heard one routes bytes heard other most least (no_head none a b) (no_head gone c d) = (a ∙ sym c, b ∙ sym d)
one_heard one routes bytes heard other most least (no_head none a b) (bad_fields head rest is bad c d) = absurd (none head rest is)
one_heard one routes bytes heard other most least (no_head none a b) (good_head head rest count route is good finds c d) = absurd (none head rest is)
one_heard one routes bytes heard other most least (bad_fields head rest is bad a b) (no_head none c d) = absurd (none head rest is)
one_heard one routes bytes heard other most least (bad_fields head rest is bad a b) (bad_fields head' rest' is' bad' c d) = (a ∙ sym c, b ∙ sym d)
one_heard one routes bytes heard other most least (bad_fields head rest is bad a b) (good_head head' rest' count route is' good finds c d) =
    let same = request_unique bytes head head' rest rest' is.reads is'.reads in
    absurd (none_some count (sym bad ∙ ap length_of same.0 ∙ good))
one_heard one routes bytes heard other most least (good_head head rest count route is good finds a b) (no_head none c d) = absurd (none head rest is)
one_heard one routes bytes heard other most least (good_head head rest count route is good finds a b) (bad_fields head' rest' is' bad c d) =
    let same = request_unique bytes head head' rest rest' is.reads is'.reads in
    absurd (none_some count (sym bad ∙ sym (ap length_of same.0) ∙ good))
one_heard one routes bytes heard other most least (good_head head rest count route is good finds a b) (good_head head' rest' count' route' is' good' finds' c d) =
    let same = request_unique bytes head head' rest rest' is.reads is'.reads in
    let counts : count ≡ count' = same_in count count' (sym good ∙ ap length_of same.0 ∙ good') in
    let method = ap (λ (h : RequestHead). h.method) same.0 in
    let target = ap (λ (h : RequestHead). h.target) same.0 in
    let found : FindsRoute routes head'.method head'.target route =
    subst (λ t. FindsRoute routes head'.method t route) target (subst (λ m. FindsRoute routes m head.target route) method finds) in
    let routes_same : route ≡ route' = one routes head'.method head'.target route route' found finds' in (
      a ∙ ap (λ h. heard_behind h rest count route) same.0 ∙ ap (λ l. heard_behind head' l count route) same.1 ∙ ap (λ n. heard_behind head' rest' n route) counts ∙ ap (heard_behind head' rest' count') routes_same ∙ sym c,
      b ∙ ap (λ h. most_behind h count route) same.0 ∙ ap (λ n. most_behind head' n route) counts ∙ ap (most_behind head' count') routes_same ∙ sym d,
    )

pub no_more : (bytes more : List ℕ) (status : ℕ) (body : List ℕ) → IsReply bytes status body → 0 < length more → (code : ℕ) (rest : List ℕ) → IsReply (bytes ++ more) code rest → ⊥
no_more bytes more status body is some code rest other =
    let same = response_prefix_free bytes more is.head other.head body rest is.reads other.reads in
    let lengths : length body ≡ length rest = same_in (length body) (length rest) (sym is.stated ∙ ap (λ h. reply_length (map name_and_value h.fields)) same.0 ∙ other.stated) in
    omega (arith, lengths, some, ap length same.1, length-append body more)

pub one_reply : (bytes : List ℕ) (status code : ℕ) (body rest : List ℕ) → IsReply bytes status body → IsReply bytes code rest → (status ≡ code) × (body ≡ rest)
one_reply bytes status code body rest is other =
    let same = response_unique bytes is.head other.head body rest is.reads other.reads in
    (is.code ∙ ap (λ (h : ResponseHead). status_code h) same.0 ∙ sym other.code, same.1)
