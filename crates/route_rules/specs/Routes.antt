-- The routes: what is asked for over HTTP by a method and a path.
use Rattle.std.specs.Prelude.{◌≡◌, ℕ, ◌≤◌, Bool, true, false, List, ◌∷◌, ◌++◌, length, codes, decimal, MatchOption, ⊤}
use Rattle.std.specs.declared.option.Option.{Option}
use Rattle.hex.specs.Hex.{IsBytes, encode_lower}
use Rattle.line_forms.specs.Names.{IsName}
use Rattle.line_forms.specs.Numbers.{IsId, last_id}
use Rattle.route_rules.specs.declared.method.Asking.{Asking}
use Rattle.route_rules.specs.declared.method.Asking.TheVariants.{Get, Post}
use Rattle.route_rules.specs.declared.route.Route.{Route}
use Rattle.route_rules.specs.declared.route.Route.TheVariants.{Publish, Act, Stop, File, AskSites, AskSite, AskFile, Report, Results}
use Rattle.route_rules.specs.declared.route.Routes.{Routes}
use Rattle.route_rules.specs.declared.route.Routes.TheVariants.{Server, Relay}

-- a row of the table: the method, the path, the most bytes of the body, and whether a relay has it too
pub record RouteRow : Type 0 where
  pub asking : Asking
  pub path : List ℕ
  pub most : ℕ
  pub relay : Bool

abbrev pub row : Asking → List ℕ → ℕ → Bool → RouteRow
row asking path most relay = record { asking = asking; path = path; most = most; relay = relay }

-- the paths with values in them
unfoldable pub stop_path : ℕ → List ℕ
stop_path id = codes "/actions/" ++ decimal id ++ codes "/stop"

unfoldable pub site_path : List ℕ → ℕ → List ℕ
site_path name version = codes "/sites/" ++ name ++ 47 ∷ decimal version

unfoldable pub file_path : List ℕ → List ℕ
file_path digest = codes "/files/" ++ encode_lower digest

unfoldable pub results_path : List ℕ → List ℕ
results_path computer = codes "/results/" ++ computer

-- The table.
abbrev pub row_of : Route → RouteRow
row_of Publish = row Post (codes "/sites") 4194304 false
row_of Act = row Post (codes "/actions") 4194304 false
row_of (Stop id) = row Post (stop_path id) 4194304 false
row_of File = row Post (codes "/files") 4194304 false
row_of AskSites = row Get (codes "/sites") 4194304 true
row_of (AskSite name version) = row Get (site_path name version) 4194304 true
row_of (AskFile digest) = row Get (file_path digest) 4194304 true
row_of Report = row Post (codes "/reports") 65536 true
row_of (Results computer) = row Get (results_path computer) 4194304 false

-- the 32 bytes of a digest
abbrev pub IsDigestValue : List ℕ → Type 0
IsDigestValue digest = (length digest ≡ 32) × IsBytes digest

-- the values in the path are in their forms
abbrev pub HasForms : Route → Type 0
HasForms (Stop id) = IsId id
HasForms (AskSite name version) = IsName name × (version ≤ last_id)
HasForms (AskFile digest) = IsDigestValue digest
HasForms (Results computer) = IsName computer
HasForms other = ⊤

-- the word of a method
abbrev pub method_word : Asking → List ℕ
method_word Get = codes "GET"
method_word Post = codes "POST"

-- whether a row is open, by whether a relay has it too
abbrev pub is_open : Routes → Bool → Bool
is_open Server relay = true
is_open Relay relay = relay

-- this method and this path ask for the route, which is open
pub record IsRoute (routes : Routes) (method path : List ℕ) (route : Route) : Type 0 where
  pub asked : method ≡ method_word (row_of route).asking
  pub named : path ≡ (row_of route).path
  pub forms : HasForms route
  pub here : is_open routes (row_of route).relay ≡ true

-- the route that they ask for, or None where they ask for none
abbrev pub FindsRoute : Routes → List ℕ → List ℕ → Option Route → Type 0
FindsRoute routes method path found =
    MatchOption found ((route : Route) → ¬ IsRoute routes method path route) (λ route. IsRoute routes method path route)
