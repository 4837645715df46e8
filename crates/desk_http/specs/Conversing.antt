-- What one conversation does, by what the door and the host told before and after.
use Rattle.std.specs.Prelude.{◌≡◌, ℕ, ◌<◌, ◌≤◌, ◌⊎◌, Bool, true, false, List, [], ◌++◌, length, None, Some, ⊤}
use Rattle.std.specs.declared.option.Option.{Option}
use Rattle.std.specs.Io.KnownBytes.{Consumes, Keeps, IsAtEnd}
use Rattle.httparse.specs.Grammar.{RequestHead}
use Rattle.desk_base.specs.Counts.{CountsFaults, Rose}
use Rattle.desk_base.specs.Flow.{Puts}
use Rattle.desk_base.specs.declared.sink.Put.{Put}
use Rattle.desk_base.specs.declared.sink.Put.TheVariants as put
use Rattle.desk_door.specs.Doors.{DoorView, here, earlier}
use Rattle.desk_door.specs.Lists.{with_next}
use Rattle.route_rules.specs.declared.method.Asking.{Asking}
use Rattle.route_rules.specs.declared.route.Route.{Route}
use Rattle.route_rules.specs.declared.route.Routes.{Routes}
use Rattle.route_rules.specs.Routes.{FindsRoute, row_of}
use Rattle.desk_http.specs.declared.host.Called.{Called}
use Rattle.desk_http.specs.declared.host.Called.TheVariants.{Answer}
use Rattle.desk_http.specs.declared.talk.Met.{Met}
use Rattle.desk_http.specs.declared.talk.Met.TheVariants as met
use Rattle.desk_http.specs.Heard.{Heard, Hears, Call, Refused, IsHead, HasNoHead, length_of, most_behind}
use Rattle.desk_http.specs.Spoken.{spoken, status_of, text_of, memory_text}

-- where a door tells what is left of the conversation, it is these bytes
abbrev pub Says : Option (List ℕ) → List ℕ → Type 0
Says None bytes = ⊤
Says (Some left) bytes = left ≡ bytes

-- The bytes are all of a request: a head, the body that it states, and perhaps more.
pub record IsWhole (bytes : List ℕ) : Type 0 where
  pub head : RequestHead
  pub rest : List ℕ
  pub count : ℕ
  pub reads : IsHead bytes head rest
  pub states : length_of head ≡ Some count
  pub follows : count ≤ length rest

-- whether they do
abbrev pub SaysWhole : List ℕ → Bool → Type 0
SaysWhole bytes true = IsWhole bytes
SaysWhole bytes false = ¬ IsWhole bytes

-- This is heard in what the peer says. These bytes of it were taken, one at least and no more than that allows, and are all of a request
-- or aren't.
pub record IsHeard (routes : Routes) (old new : Option (List ℕ)) (taken : List ℕ) (heard : Heard) (whole : Bool) : Type 0 where
  pub behind : List ℕ
  pub most : ℕ
  pub says : Says old (taken ++ behind)
  pub hears : Hears routes (taken ++ behind) heard most
  pub takes : Consumes old new taken
  pub some : 0 < length taken
  pub few : length taken ≤ most
  pub ends : SaysWhole taken whole

-- The bytes are the front of a request that is still to be read: of its head, or of a body that its route allows.
pub data IsBegun (routes : Routes) (bytes : List ℕ) : Type 0 where
  in_head : HasNoHead bytes → length bytes < 16384 → IsBegun routes bytes
  in_body : (head : RequestHead) → (rest : List ℕ) → (count : ℕ) → (route : Route) → IsHead bytes head rest
      → length_of head ≡ Some count → FindsRoute routes head.method head.target (Some route) → count ≤ (row_of route).most
      → length rest < count → IsBegun routes bytes

-- So many bytes are taken at most where these begin the conversation: 16,384 for a head, and more for a body that its route allows.
pub data Allows (routes : Routes) (taken : List ℕ) (most : ℕ) : Type 0 where
  for_head : most ≡ 16384 → Allows routes taken most
  for_body : (head : RequestHead) → (rest : List ℕ) → (count : ℕ) → (route : Option Route) → IsHead taken head rest
      → length_of head ≡ Some count → FindsRoute routes head.method head.target route → most ≡ most_behind head count route
      → Allows routes taken most

-- No more was taken than what was taken allows.
pub record TakesFew (routes : Routes) (old new : Option (List ℕ)) : Type 0 where
  pub taken : List ℕ
  pub most : ℕ
  pub takes : Consumes old new taken
  pub allows : Allows routes taken most
  pub few : length taken ≤ most

-- A response was to be written, and the door answered so.
pub record Writes (response : List ℕ) (old : DoorView) (answer : Put) (new : DoorView) : Type 0 where
  pub puts : Puts (here old.written) (here new.written) answer response
  pub counts : CountsFaults (answer ≡ put.Failed) old.faults new.faults

-- The peer said nothing.
pub record ClosesUnsaid (old new : DoorView) : Type 0 where
  pub unsaid : IsAtEnd old.left
  pub keeps : Keeps old.left new.left
  pub written : new.written ≡ old.written
  pub ended : new.ended ≡ with_next false old.ended
  pub faults : new.faults ≡ old.faults

-- The door failed while the request was read.
pub record BreaksOff (routes : Routes) (old new : DoorView) : Type 0 where
  pub taken : List ℕ
  pub takes : Consumes old.left new.left taken
  pub begun : IsBegun routes taken
  pub written : new.written ≡ old.written
  pub ended : new.ended ≡ with_next false old.ended
  pub rose : Rose old.faults new.faults

-- Memory ran out before a request was heard.
pub record RunsOut (routes : Routes) (old new : DoorView) : Type 0 where
  pub few : TakesFew routes old.left new.left
  pub ended : new.ended ≡ with_next false old.ended

module _ {Told : Type 0} (calls : Told → Asking → List ℕ → List ℕ → Called → Told → Type 0) where
  -- the response to what was heard: the host's answer to a call, all of which was taken, or a refusal, for which the host isn't called
  abbrev pub Responds : Told → Heard → Bool → ℕ → List ℕ → Told → Type 0
  Responds host (Call asking path body) whole status text host' = (whole ≡ true) × calls host asking path body (Answer status text) host'
  Responds host (Refused refusal) whole status text host' =
      (status ≡ status_of refusal) × (text ≡ text_of refusal) × (host' ≡ host)

  -- A request was heard, and this response is due. The door was told whether all of the request was taken.
  pub record IsDue (routes : Routes) (old : DoorView) (host : Told) (status : ℕ) (text : List ℕ) (new : DoorView) (host' : Told)
      : Type 0 where
    pub taken : List ℕ
    pub heard : Heard
    pub whole : Bool
    pub is : IsHeard routes old.left new.left taken heard whole
    pub ended : new.ended ≡ with_next whole old.ended
    pub responds : Responds host heard whole status text host'

  -- A call was heard, all of which was taken, and the host answered it so.
  pub record WasCalled (routes : Routes) (old : DoorView) (host : Told) (new : DoorView) (host' : Told) : Type 0 where
    pub taken : List ℕ
    pub asking : Asking
    pub path : List ℕ
    pub body : List ℕ
    pub called : Called
    pub is : IsHeard routes old.left new.left taken (Call asking path body) true
    pub ended : new.ended ≡ with_next true old.ended
    pub answers : calls host asking path body called host'

  -- a response was due, and the door answered so when it was to be written
  abbrev pub Answers : Routes → DoorView → Told → ℕ → Put → DoorView → Told → Type 0
  Answers routes old host status answer new host' =
      (text : List ℕ) × IsDue routes old host status text new host' × Writes (spoken status text) old answer new

  -- A conversation that ended so. The count of faults rises where the door fails, and stays where it doesn't.
  abbrev pub Converses : Routes → DoorView → Told → Met → DoorView → Told → Type 0
  Converses routes old host (met.Answered status) new host' = Answers routes old host status put.Done new host'
  Converses routes old host met.Closed new host' = ClosesUnsaid old new × (host' ≡ host)
  Converses routes old host met.DoorFault new host' =
      (BreaksOff routes old new × (host' ≡ host)) ⊎ ((status : ℕ) × Answers routes old host status put.Failed new host')
  Converses routes old host met.Memory new host' =
      ((RunsOut routes old new × (host' ≡ host)) ⊎ WasCalled routes old host new host')
      × (answer : Put) × Writes (spoken 503 memory_text) old answer new

-- What a conversation leaves: the ports, the conversations to come, and what was written in those before it.
pub record OnlyTalks (old new : DoorView) : Type 0 where
  pub ports : new.ports ≡ old.ports
  pub coming : new.coming ≡ old.coming
  pub earlier : earlier new.written ≡ earlier old.written
  pub nowhere : old.written ≡ Some [] → new.written ≡ Some []
