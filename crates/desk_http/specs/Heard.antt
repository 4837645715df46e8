-- What is heard in a conversation: a call, or the first refusal.
use Rattle.std.specs.Prelude.{◌≡◌, ℕ, ◌+◌, ◌≤◌, max, nat_lt, List, length, take, map, None, Some, if◌then◌else◌}
use Rattle.std.specs.declared.option.Option.{Option}
use Rattle.httparse.specs.Grammar.{RequestHead, ReadsRequest, print_request}
use Rattle.httparse.specs.Spans.{name_and_value}
use Rattle.route_rules.specs.declared.method.Asking.{Asking}
use Rattle.route_rules.specs.declared.route.Route.{Route}
use Rattle.route_rules.specs.declared.route.Routes.{Routes}
use Rattle.route_rules.specs.Routes.{FindsRoute, row_of}
use Rattle.desk_http.specs.declared.request.Refusal.{Refusal}
use Rattle.desk_http.specs.declared.request.Refusal.TheVariants.{BadRequest, NoSuch, TooLong}
use Rattle.desk_http.specs.Fields.{request_length}

pub data Heard : Type 0 where
  -- a method, a path and a body
  Call : Asking → List ℕ → List ℕ → Heard
  Refused : Refusal → Heard

-- the bytes are this head, of at most 16,384 bytes and 64 fields, and the rest
pub record IsHead (bytes : List ℕ) (head : RequestHead) (rest : List ℕ) : Type 0 where
  pub reads : ReadsRequest bytes head rest
  pub short : length (print_request head) ≤ 16384
  pub few : length head.fields ≤ 64

-- the bytes begin with no such head
abbrev pub HasNoHead : List ℕ → Type 0
HasNoHead bytes = (head : RequestHead) (rest : List ℕ) → ¬ IsHead bytes head rest

-- the length of the body that a head states, or None where its fields are bad
abbrev pub length_of : RequestHead → Option ℕ
length_of head = request_length head.minor (map name_and_value head.fields)

-- The checks behind a good head, in their order: by the length of the body, and by the route, if there is one.
abbrev pub heard_behind : RequestHead → List ℕ → ℕ → Option Route → Heard
heard_behind head rest count None = Refused NoSuch
heard_behind head rest count (Some route) =
    if nat_lt (row_of route).most count then Refused TooLong
    else (if nat_lt (length rest) count then Refused BadRequest
    else Call (row_of route).asking head.target (take count rest))

-- How many bytes are taken at most: 16,384, and none behind a head that is refused, else up to the end of the body.
abbrev pub most_behind : RequestHead → ℕ → Option Route → ℕ
most_behind head count None = 16384
most_behind head count (Some route) =
    if nat_lt (row_of route).most count then 16384 else max 16384 (length (print_request head) + count)

-- This is heard in all the bytes of a conversation, and so many of them are taken for it at most.
pub data Hears (routes : Routes) (bytes : List ℕ) (heard : Heard) (most : ℕ) : Type 0 where
  no_head : HasNoHead bytes → heard ≡ Refused BadRequest → most ≡ 16384 → Hears routes bytes heard most
  bad_fields : (head : RequestHead) → (rest : List ℕ) → IsHead bytes head rest → length_of head ≡ None
      → heard ≡ Refused BadRequest → most ≡ 16384 → Hears routes bytes heard most
  good_head : (head : RequestHead) → (rest : List ℕ) → (count : ℕ) → (route : Option Route) → IsHead bytes head rest
      → length_of head ≡ Some count → FindsRoute routes head.method head.target route
      → heard ≡ heard_behind head rest count route → most ≡ most_behind head count route → Hears routes bytes heard most
