-- Routes without the values in their paths, and how a router sees them. Only private functions cite these definitions.
use Rattle.std.specs.Prelude.{◌≡◌, ℕ, ◌<◌, ◌≤◌, ◌⊎◌, Bool, true, false, List, [], ◌∷◌, ◌++◌, length, codes, ⊤}
use Rattle.matchit.specs.Rows.{RowsOf}
use Rattle.matchit.specs.Router.{RouteOf}
use Rattle.matchit.specs.Seek.{has_slash}
use Rattle.route_rules.specs.declared.endpoint.Endpoint.{Endpoint}
use Rattle.route_rules.specs.declared.endpoint.Endpoint.TheVariants as endpoint
use Rattle.route_rules.specs.declared.method.Asking.{Asking}
use Rattle.route_rules.specs.declared.method.Asking.TheVariants.{Get, Post}
use Rattle.route_rules.specs.declared.route.Route.{Route}
use Rattle.route_rules.specs.declared.route.Route.TheVariants as route
use Rattle.route_rules.specs.declared.route.Routes.{Routes}
use Rattle.route_rules.specs.declared.route.Routes.TheVariants.{Server, Relay}

-- the endpoint of a route
abbrev pub endpoint_of : Route → Endpoint
endpoint_of route.Publish = endpoint.Publish
endpoint_of route.Act = endpoint.Act
endpoint_of (route.Stop id) = endpoint.Stop
endpoint_of route.File = endpoint.File
endpoint_of route.AskSites = endpoint.AskSites
endpoint_of (route.AskSite name version) = endpoint.AskSite
endpoint_of (route.AskFile digest) = endpoint.AskFile
endpoint_of route.Report = endpoint.Report
endpoint_of (route.Results computer) = endpoint.Results

-- the method of an endpoint
abbrev pub method_of : Endpoint → Asking
method_of endpoint.AskSites = Get
method_of endpoint.AskSite = Get
method_of endpoint.AskFile = Get
method_of endpoint.Results = Get
method_of other = Post

-- whether an endpoint is open among these routes
abbrev pub opens : Routes → Endpoint → Bool
opens Server e = true
opens Relay endpoint.AskSites = true
opens Relay endpoint.AskSite = true
opens Relay endpoint.AskFile = true
opens Relay endpoint.Report = true
opens Relay other = false

-- the path of an endpoint, with 256 for each value
abbrev pub pattern_of : Endpoint → List ℕ
pattern_of endpoint.Publish = codes "/sites"
pattern_of endpoint.Act = codes "/actions"
pattern_of endpoint.Stop = codes "/actions/" ++ 256 ∷ codes "/stop"
pattern_of endpoint.File = codes "/files"
pattern_of endpoint.AskSites = codes "/sites"
pattern_of endpoint.AskSite = codes "/sites/" ++ 256 ∷ 47 ∷ 256 ∷ []
pattern_of endpoint.AskFile = codes "/files/" ++ 256 ∷ []
pattern_of endpoint.Report = codes "/reports"
pattern_of endpoint.Results = codes "/results/" ++ 256 ∷ []

-- at the end, or at a slash
abbrev pub Ends : List ℕ → Type 0
Ends [] = ⊤
Ends (x ∷ tokens) = x ≡ 47

-- there is no catch-all, and a parameter goes to the end of its part
abbrev pub IsTidy : List ℕ → Type 0
IsTidy [] = ⊤
IsTidy (x ∷ tokens) = (x ≤ 256) × (x ≡ 256 → Ends tokens) × IsTidy tokens

-- a byte matches itself, and a parameter one byte or more without a slash
abbrev pub Matches : List ℕ → List ℕ → Type 0
Matches [] path = path ≡ []
Matches (x ∷ tokens) path =
    ((x < 256) × ((rest : List ℕ) × (path ≡ x ∷ rest) × Matches tokens rest))
    ⊎ ((x ≡ 256) × ((part : List ℕ) × (rest : List ℕ) × (path ≡ part ++ rest) × (0 < length part) × (has_slash part ≡ false)
    × Matches tokens rest))

module _ {K : Type 0} where
  -- the row is one of these
  abbrev pub HasRow : List ℕ → K → RowsOf K → Type 0
  HasRow tokens key [] = ⊥
  HasRow tokens key (r ∷ rows) = ((r.0 ≡ tokens) × (r.1 ≡ key)) ⊎ HasRow tokens key rows

  abbrev pub AllTidy : RowsOf K → Type 0
  AllTidy rows = (tokens : List ℕ) (key : K) → HasRow tokens key rows → IsTidy tokens

-- a row of a router: the text of the path, the places of its parameters' names in it, and the endpoint
abbrev pub row : List ℕ → List (ℕ × ℕ) → Endpoint → List ℕ × RouteOf Endpoint
row text names e = (pattern_of e, record { pattern = pattern_of e; text = text; names = names; value = e })

-- the rows of both routers
abbrev pub asked_rows : RowsOf (RouteOf Endpoint)
asked_rows =
    row (codes "/files/{sha256}") ((8, 14) ∷ []) endpoint.AskFile
    ∷ row (codes "/results/{computer}") ((10, 18) ∷ []) endpoint.Results
    ∷ row (codes "/sites/{name}/{version}") ((8, 12) ∷ (15, 22) ∷ []) endpoint.AskSite
    ∷ row (codes "/sites") [] endpoint.AskSites
    ∷ []

abbrev pub posted_rows : RowsOf (RouteOf Endpoint)
posted_rows =
    row (codes "/actions/{id}/stop") ((10, 12) ∷ []) endpoint.Stop
    ∷ row (codes "/actions") [] endpoint.Act
    ∷ row (codes "/files") [] endpoint.File
    ∷ row (codes "/reports") [] endpoint.Report
    ∷ row (codes "/sites") [] endpoint.Publish
    ∷ []

abbrev pub rows_of : Asking → RowsOf (RouteOf Endpoint)
rows_of Get = asked_rows
rows_of Post = posted_rows
