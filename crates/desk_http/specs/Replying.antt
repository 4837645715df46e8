-- What the steps of answering do. Only private functions cite these definitions.
use Rattle.std.specs.Prelude.{◌≡◌, ℕ, List}
use Rattle.desk_base.specs.declared.sink.Put.{Put}
use Rattle.desk_base.specs.declared.sink.Put.TheVariants as put
use Rattle.desk_door.specs.Doors.{DoorView, WritesOut}
use Rattle.httparse.specs.Spans.{span_bytes}
use Rattle.route_rules.specs.declared.method.Asking.{Asking}
use Rattle.desk_http.specs.declared.host.Called.{Called}
use Rattle.desk_http.specs.declared.host.Called.TheVariants as called
use Rattle.desk_http.specs.declared.request.Taken.{Taken}
use Rattle.desk_http.specs.declared.request.Taken.TheVariants as taken
use Rattle.desk_http.specs.declared.talk.Met.{Met}
use Rattle.desk_http.specs.declared.talk.Met.TheVariants as met
use Rattle.desk_http.specs.Spoken.{spoken, status_of, text_of, memory_text}

-- by what the write of a whole response answered
abbrev pub met_of : ℕ → Put → Met
met_of status put.Done = met.Answered status
met_of status put.Failed = met.DoorFault

-- the response at want of memory was to be written
abbrev pub WritesMemory : DoorView → DoorView → Type 0
WritesMemory old new = (answer : Put) × WritesOut (spoken 503 memory_text) old answer new

-- the response of a status and a body was to be written
abbrev pub Replies : ℕ → List ℕ → DoorView → Met → DoorView → Type 0
Replies status text old met.Memory new = WritesMemory old new
Replies status text old result new = (answer : Put) × (result ≡ met_of status answer) × WritesOut (spoken status text) old answer new

module _ {Told : Type 0} (calls : Told → Asking → List ℕ → List ℕ → Called → Told → Type 0) where
  -- the host was called once with what was read, and its answer was to be written
  abbrev pub AnswersCall : DoorView → Told → Asking → List ℕ → List ℕ → Met → DoorView → Told → Type 0
  AnswersCall door host asking path body met.Memory door' host' =
      (it : Called) × calls host asking path body it host' × WritesMemory door door'
  AnswersCall door host asking path body result door' host' =
      (status : ℕ) × (text : List ℕ) × calls host asking path body (called.Answer status text) host' × Replies status text door result door'

  -- what was taken was answered
  abbrev pub Talks : DoorView → Told → List ℕ → Taken → Met → DoorView → Told → Type 0
  Talks door host buf (taken.Call call) result door' host' =
      AnswersCall door host call.asking (span_bytes buf call.path) (span_bytes buf call.body) result door' host'
  Talks door host buf (taken.Refused refusal whole) result door' host' =
      (host' ≡ host) × (answer : Put) × (result ≡ met_of (status_of refusal) answer)
      × WritesOut (spoken (status_of refusal) (text_of refusal)) door answer door'
  Talks door host buf taken.Closed result door' host' = (host' ≡ host) × (result ≡ met.Closed) × (door' ≡ door)
  Talks door host buf taken.Failed result door' host' = (host' ≡ host) × (result ≡ met.DoorFault) × (door' ≡ door)
  Talks door host buf taken.Memory result door' host' = (host' ≡ host) × (result ≡ met.Memory) × WritesMemory door door'
