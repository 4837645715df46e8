-- What a relay with a cache keeps and answers in a run: by its requests for files, in their order.
use Rattle.std.specs.Prelude.{◌≡◌, ◌⊎◌, ℕ, List, [], ◌∷◌, map, None, Some}
use Rattle.std.specs.declared.option.Option.{Option}
use Rattle.desk_base.specs.declared.sink.Put.{Put}
use Rattle.desk_base.specs.declared.sink.Put.TheVariants as put
use Rattle.desk_door.specs.Doors.{DoorView, BeginsNext}
use Rattle.desk_door.specs.Links.{LinkView}
use Rattle.relay_cache.specs.CachedFiles.{CacheState, File, cached}
use Rattle.relay_cache.specs.FileRequests.{FileRequest, files_after}
use Rattle.route_rules.specs.declared.method.Asking.{Asking}
use Rattle.route_rules.specs.declared.route.Route.TheVariants as of_route
use Rattle.route_rules.specs.declared.route.Routes.TheVariants as routes
use Rattle.route_rules.specs.Routes.{FindsRoute, method_word}
use Rattle.desk_http.specs.declared.host.Called.TheVariants as of_call
use Rattle.desk_http.specs.Conversing.{Answers}
use Rattle.desk_http.specs.Heard.{Call}
use Rattle.server_text.specs.declared.reply.Reply.TheVariants as reply
use Rattle.http_replies.specs.declared.answer.Answer.{Answer}
use Rattle.http_replies.specs.declared.answer.Answer.TheVariants as answer
use Rattle.http_replies.specs.Statuses.{IsCalled}
use Rattle.desk_hosts.specs.declared.file.Came.{Came}
use Rattle.desk_hosts.specs.RelayCalls.{RelayCalls}
use Rattle.desk_hosts.specs.RelayFiles.{AsksUpstream, given, passed_on}
use Rattle.desk_runs.specs.RelayRuns.{Begun, RelayRun, Then}
use Rattle.desk_runs.specs.RelaySteps.{RelayScene, TellsRound, TellsTalk, host_of}

-- a request for a file: its digest, and what came from the upstream, where that was asked
pub record FileCall : Type 0 where
  pub digest : List ℕ
  pub came : Option Came

-- the bytes that came, where they have the digest
abbrev pub given_of : List ℕ → Option Came → Option (List ℕ)
given_of digest None = None
given_of digest (Some gave) = given digest gave

abbrev pub request_of : FileCall → FileRequest
request_of call = record { digest = call.digest; given = given_of call.digest call.came }

-- the files that are kept after the requests, of which the latest comes first
abbrev pub kept_after : ℕ → List FileCall → List File
kept_after room calls = files_after room (map request_of calls)

-- a cache of this room then
abbrev pub cache_after : ℕ → List FileCall → Option CacheState
cache_after room calls = Some (record { room = room; files = kept_after room calls })

-- What is answered, by what is kept of the file: the kept bytes, for which the upstream isn't asked; or what a relay without a cache
-- answers to what came, for which the upstream is asked once.
abbrev pub AnswersFile : List ℕ → Option (List ℕ) → LinkView → Option Came → Answer → LinkView → Type 0
AnswersFile digest (Some bytes) old came it new = (came ≡ None) × (it ≡ answer.Reply (reply.Content bytes)) × (new ≡ old)
AnswersFile digest None old came it new =
    (gave : Came) × (came ≡ Some gave) × AsksUpstream old digest gave new × (it ≡ passed_on digest gave)

-- In a conversation this file was asked for, and this is the answer that was to be written.
pub record HearsFile (digest : List ℕ) (it : Answer) (old new : RelayScene) : Type 0 where
  pub begun : DoorView
  pub begins : BeginsNext old.door put.Done begun
  pub status : ℕ
  pub written : Put
  pub answers : Answers RelayCalls routes.Relay begun (host_of old) status written new.door (host_of new)
  pub asking : Asking
  pub path : List ℕ
  pub body : List ℕ
  pub is : answers.1.heard ≡ Call asking path body
  pub finds : FindsRoute routes.Relay (method_word asking) path (Some (of_route.AskFile digest))
  pub called : IsCalled it (of_call.Answer status answers.0)

-- A conversation asked for a file, behind the earlier requests.
pub record AsksForFile (room : ℕ) (earlier : List FileCall) (old : RelayScene) (calls : List FileCall) (new : RelayScene) : Type 0 where
  pub digest : List ℕ
  pub came : Option Came
  pub it : Answer
  pub hears : HearsFile digest it old new
  pub answers : AnswersFile digest (cached digest (kept_after room earlier)) old.link came it new.link
  pub added : calls ≡ record { digest = digest; came = came } ∷ earlier

-- A conversation asked for one file, or for none, and then the upstream wasn't asked.
abbrev pub AsksForFiles : ℕ → List FileCall → RelayScene → List FileCall → RelayScene → Type 0
AsksForFiles room earlier old calls new = ((calls ≡ earlier) × (new.link ≡ old.link)) ⊎ AsksForFile room earlier old calls new

-- A relay with a cache that kept nothing made these steps, in which these files were asked for, the latest first. It keeps what is kept
-- after them.
abbrev pub KeepsFiles : ℕ → RelayScene → RelayRun → List FileCall → RelayScene → Type 0
KeepsFiles room old (Begun lines) calls new = TellsRound old put.Done lines new × (calls ≡ []) × (new.cache ≡ cache_after room calls)
KeepsFiles room old (Then run ended lines) calls new =
    (earlier : List FileCall) × (mid between : RelayScene) × KeepsFiles room old run earlier mid
    × TellsTalk mid put.Done ended between × AsksForFiles room earlier mid calls between
    × TellsRound between put.Done lines new × (new.cache ≡ cache_after room calls)

-- what came for a request is what the upstream gives of that digest, where it was asked
abbrev pub IsSteady : (List ℕ → Came) → FileCall → Type 0
IsSteady upstream call = (call.came ≡ None) ⊎ (call.came ≡ Some (upstream call.digest))
