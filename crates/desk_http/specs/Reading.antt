-- What the steps of reading a request do. Only private functions cite these definitions.
use Rattle.std.specs.Prelude.{◌≡◌, ℕ, ◌+◌, ◌-◌, ◌<◌, ◌≤◌, ◌^◌, ◌⊎◌, Bool, true, false, min, max, List, [], ◌∷◌, ◌++◌, length, codes, MatchOption, None, Some, ⊤}
use Rattle.std.specs.declared.option.Option.{Option}
use Rattle.std.specs.Io.KnownBytes.{Consumes, Keeps, IsAtEnd}
use Rattle.httparse.specs.Grammar.{RequestHead}
use Rattle.httparse.specs.Spans.{IsRequestAt, IsRequestWithin, IsWithin, span_bytes}
use Rattle.httparse.specs.declared.spans.HeaderSpan.{HeaderSpan}
use Rattle.desk_base.specs.Counts.{CountsFaults}
use Rattle.desk_door.specs.Doors.{DoorView}
use Rattle.route_rules.specs.declared.route.Routes.{Routes}
use Rattle.desk_http.specs.declared.fields.Framing.{Framing}
use Rattle.desk_http.specs.declared.fields.Named.{Named}
use Rattle.desk_http.specs.declared.fields.Named.TheVariants as of_name
use Rattle.desk_http.specs.declared.reading.Head.{Head}
use Rattle.desk_http.specs.declared.reading.Head.TheVariants as of_head
use Rattle.desk_http.specs.declared.reading.Rest.{Rest}
use Rattle.desk_http.specs.declared.reading.Rest.TheVariants as of_rest
use Rattle.desk_http.specs.declared.reading.Step.{Step}
use Rattle.desk_http.specs.declared.reading.Step.TheVariants as step
use Rattle.desk_http.specs.declared.request.Taken.{Taken}
use Rattle.desk_http.specs.declared.request.Taken.TheVariants as taken
use Rattle.desk_http.specs.Fields.{named}
use Rattle.desk_http.specs.Heard.{Call, Refused, HasNoHead}
use Rattle.desk_http.specs.Conversing.{IsBegun, IsHeard, TakesFew}

-- what was found of the values with a name
abbrev pub IsNamed : List ℕ → List (List ℕ) → Named → Type 0
IsNamed buf values of_name.Nothing = values ≡ []
IsNamed buf values (of_name.One span) = IsWithin (length buf) span × (values ≡ span_bytes buf span ∷ [])
IsNamed buf values of_name.More = 2 ≤ length values

-- what the fields say of how long the body is
pub record IsFraming (buf : List ℕ) (fields : List (List ℕ × List ℕ)) (framing : Framing) : Type 0 where
  pub coding : IsNamed buf (named (codes "transfer-encoding") fields) framing.coding
  pub host : IsNamed buf (named (codes "host") fields) framing.host
  pub size : IsNamed buf (named (codes "content-length") fields) framing.size

-- a number as a u64, which stops at the greatest
abbrev pub IsClamped : Option ℕ → Option ℕ → Type 0
IsClamped number result = MatchOption result (number ≡ None) (λ n. (m : ℕ) × (number ≡ Some m) × (n ≡ min m (2 ^ 64 - 1)))

-- the door was read from, and nothing else
pub record OnlyReads (failed : Type 0) (old new : DoorView) : Type 0 where
  pub ports : new.ports ≡ old.ports
  pub coming : new.coming ≡ old.coming
  pub written : new.written ≡ old.written
  pub ended : new.ended ≡ old.ended
  pub counts : CountsFaults failed old.faults new.faults

-- at most so many bytes were taken
abbrev pub TakesAtMost : Option (List ℕ) → Option (List ℕ) → ℕ → Type 0
TakesAtMost old new most = (bytes : List ℕ) × Consumes old new bytes × (length bytes ≤ most)

-- these bytes were taken onto the buffer
abbrev pub Grew : Option (List ℕ) → Option (List ℕ) → List ℕ → List ℕ → Type 0
Grew old new buf buf' = (bytes : List ℕ) × Consumes old new bytes × (buf' ≡ buf ++ bytes)

-- some bytes were taken onto the buffer, at most so many
abbrev pub TakesSome : Option (List ℕ) → Option (List ℕ) → List ℕ → List ℕ → ℕ → Step → Type 0
TakesSome old new buf buf' most step.Taken = Grew old new buf buf' × (length buf < length buf') × (length buf' ≤ length buf + most)
TakesSome old new buf buf' most step.End = Keeps old new × IsAtEnd new × (buf' ≡ buf)
TakesSome old new buf buf' most step.Failed = Keeps old new × (buf' ≡ buf)
TakesSome old new buf buf' most step.Memory =
    (bytes : List ℕ) × Consumes old new bytes × (0 < length bytes) × (length bytes ≤ most) × (buf' ≡ buf)

-- whatever follows, there is no head
abbrev pub NeverHasHead : List ℕ → Type 0
NeverHasHead buf = (more : List ℕ) → HasNoHead (buf ++ more)

-- a head was read, or there is none
abbrev pub ReadsHead : Option (List ℕ) → Option (List ℕ) → List ℕ → List HeaderSpan → Head → Type 0
ReadsHead old new buf fields (of_head.Read spans) =
    Consumes old new buf × (length buf ≤ 16384) × IsRequestWithin buf fields spans × ((h : RequestHead) × IsRequestAt buf fields spans h)
ReadsHead old new buf fields of_head.Bad =
    Consumes old new buf × (0 < length buf) × (length buf ≤ 16384) × (NeverHasHead buf ⊎ (IsAtEnd new × HasNoHead buf))
ReadsHead old new buf fields of_head.Closed = IsAtEnd old × Keeps old new
ReadsHead old new buf fields of_head.Failed = Consumes old new buf × HasNoHead buf × (length buf < 16384)
ReadsHead old new buf fields of_head.Memory = TakesAtMost old new 16384

-- so many bytes are there, or the conversation ended before
abbrev pub ReadsRest : Option (List ℕ) → Option (List ℕ) → List ℕ → List ℕ → ℕ → Rest → Type 0
ReadsRest old new buf buf' upto of_rest.Whole = Grew old new buf buf' × (upto ≤ length buf') × (length buf' ≤ max (length buf) upto)
ReadsRest old new buf buf' upto of_rest.Cut = Grew old new buf buf' × IsAtEnd new × (length buf' < upto)
ReadsRest old new buf buf' upto of_rest.Failed = Grew old new buf buf' × (length buf' < upto)
ReadsRest old new buf buf' upto of_rest.Memory = TakesAtMost old new (upto - length buf)

-- whether all of a request was taken
abbrev pub is_whole : Taken → Bool
is_whole (taken.Call call) = true
is_whole (taken.Refused refusal whole) = whole
is_whole other = false

-- the spans of a call lie in these bytes
abbrev pub IsTakenWithin : List ℕ → Taken → Type 0
IsTakenWithin buf (taken.Call call) = IsWithin (length buf) call.path × IsWithin (length buf) call.body
IsTakenWithin buf other = ⊤

-- a request was read
abbrev pub TakesRequest : Routes → Option (List ℕ) → Option (List ℕ) → List ℕ → Taken → Type 0
TakesRequest routes old new buf (taken.Call call) =
    IsTakenWithin buf (taken.Call call)
    × IsHeard routes old new buf (Call call.asking (span_bytes buf call.path) (span_bytes buf call.body)) true
TakesRequest routes old new buf (taken.Refused refusal whole) = IsHeard routes old new buf (Refused refusal) whole
TakesRequest routes old new buf taken.Closed = IsAtEnd old × Keeps old new
TakesRequest routes old new buf taken.Failed = Consumes old new buf × IsBegun routes buf
TakesRequest routes old new buf taken.Memory = TakesFew routes old new
