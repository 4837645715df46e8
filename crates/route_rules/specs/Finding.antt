-- What the steps of finding a route answer. Only private functions cite these definitions.
use Rattle.std.specs.Prelude.{◌≡◌, ℕ, ◌≤◌, List, ◌++◌, MatchOption}
use Rattle.std.specs.declared.option.Option.{Option}
use Rattle.line_forms.specs.Names.{IsName}
use Rattle.line_forms.specs.Numbers.{IsId, last_id}
use Rattle.route_rules.specs.declared.endpoint.Endpoint.{Endpoint}
use Rattle.route_rules.specs.declared.endpoint.Endpoint.TheVariants as endpoint
use Rattle.route_rules.specs.declared.method.Asking.{Asking}
use Rattle.route_rules.specs.declared.path.SiteAsked.{SiteAsked}
use Rattle.route_rules.specs.declared.route.Route.{Route}
use Rattle.route_rules.specs.Endpoints.{Matches, endpoint_of, method_of, pattern_of}
use Rattle.route_rules.specs.Routes.{HasForms, IsDigestValue, file_path, method_word, results_path, row_of, site_path, stop_path}
use denote.Ref.{Bor}

-- the method of a word
abbrev pub ReadsMethod : List ℕ → Option Asking → Type 0
ReadsMethod word found = MatchOption found ((asking : Asking) → ¬ (word ≡ method_word asking)) (λ asking. word ≡ method_word asking)

-- the endpoint of this method whose path it is
abbrev pub FindsEndpoint : Asking → List ℕ → Option Endpoint → Type 0
FindsEndpoint asking path found =
    MatchOption found ((e : Endpoint) → method_of e ≡ asking → ¬ Matches (pattern_of e) path)
    (λ e. (method_of e ≡ asking) × Matches (pattern_of e) path)

-- the path has no value in its form where the endpoint has one
abbrev pub HasNoValue : Endpoint → List ℕ → Type 0
HasNoValue endpoint.Stop path = (id : ℕ) → IsId id → ¬ (path ≡ stop_path id)
HasNoValue endpoint.AskSite path =
    (name : List ℕ) (version : ℕ) → IsName name → version ≤ last_id → ¬ (path ≡ site_path name version)
HasNoValue endpoint.AskFile path = (digest : List ℕ) → IsDigestValue digest → ¬ (path ≡ file_path digest)
HasNoValue endpoint.Results path = (name : List ℕ) → IsName name → ¬ (path ≡ results_path name)
HasNoValue other path = ⊥

-- the route of this endpoint whose path it is
abbrev pub ReadsRoute : Endpoint → List ℕ → Option Route → Type 0
ReadsRoute e path found =
    MatchOption found (HasNoValue e path)
    (λ route. (endpoint_of route ≡ e) × HasForms route × (path ≡ (row_of route).path))

-- what follows in a path that begins so
abbrev pub Fronts : List ℕ → List ℕ → Option (Bor (List ℕ)) → Type 0
Fronts front path found = MatchOption found ((rest : List ℕ) → ¬ (path ≡ front ++ rest)) (λ rest. path ≡ front ++ rest.now)

-- the name whose path it is
abbrev pub SpellsName : (List ℕ → List ℕ) → List ℕ → Option (Bor (List ℕ)) → Type 0
SpellsName path_of path found =
    MatchOption found ((name : List ℕ) → IsName name → ¬ (path ≡ path_of name)) (λ name. IsName name.now × (path ≡ path_of name.now))

-- the site whose path it is
abbrev pub SpellsSite : List ℕ → Option SiteAsked → Type 0
SpellsSite path found =
    MatchOption found (HasNoValue endpoint.AskSite path)
    (λ site. IsName site.name.now × (site.version ≤ last_id) × (path ≡ site_path site.name.now site.version))
