-- The steps of a relay: upstream rounds and conversations, each with its lines, and the broken one that ends a run.
use Rattle.std.specs.Prelude.{◌≡◌, ◌≢◌, List, None}
use Rattle.std.specs.declared.option.Option.{Option}
use Rattle.desk_base.specs.Flow.{Writes}
use Rattle.desk_base.specs.Views.{SinkView}
use Rattle.desk_base.specs.declared.sink.Put.{Put}
use Rattle.desk_base.specs.declared.sink.Put.TheVariants as put
use Rattle.desk_door.specs.Doors.{DoorView, BeginsNext}
use Rattle.desk_door.specs.Links.{LinkView}
use Rattle.relay_cache.specs.CachedFiles.{CacheState}
use Rattle.relay_core.specs.Relays.{RelayState}
use Rattle.route_rules.specs.declared.route.Routes.TheVariants as routes
use Rattle.desk_http.specs.declared.talk.Met.{Met}
use Rattle.desk_http.specs.declared.talk.Met.TheVariants as met
use Rattle.desk_http.specs.Conversing.{Converses, OnlyTalks}
use Rattle.desk_hosts.specs.RelayCalls.{RelayCalls, RelayTells}
use Rattle.desk_serve.specs.declared.step.Stop.{Stop}
use Rattle.desk_serve.specs.declared.step.Stop.TheVariants as stop
use Rattle.desk_serve.specs.TalkLines.{talk_line}
use Rattle.desk_rounds.specs.declared.part.Next.{Next}
use Rattle.desk_rounds.specs.declared.part.Next.TheVariants as next
use Rattle.desk_rounds.specs.Clients.{At, at}
use Rattle.desk_rounds.specs.Lines.{Line, lines_text}
use Rattle.desk_rounds.specs.RelayRounds.{RelayRound}
use Rattle.desk_rounds.specs.Ways.{way}

-- what the door, the link and the sink tell, and what the relay keeps, with the files of its cache, if it has one
pub record RelayScene : Type 0 where
  pub door : DoorView
  pub relay : RelayState
  pub link : LinkView
  pub cache : Option CacheState
  pub sink : SinkView

abbrev pub relay_scene : DoorView → RelayState → LinkView → Option CacheState → SinkView → RelayScene
relay_scene door relay link cache sink = record { door = door; relay = relay; link = link; cache = cache; sink = sink }

-- what a round of it goes on
abbrev pub upstream_of : RelayScene → At RelayState
upstream_of scene = at scene.relay (way scene.link None)

-- what its host tells
abbrev pub host_of : RelayScene → RelayTells
host_of scene = record { relay = scene.relay; files = record { link = scene.link; cache = scene.cache } }

-- ---- upstream rounds
-- A whole round was made, and the sink answered so when its lines were to be written.
pub record TellsRound (old : RelayScene) (answer : Put) (lines : List Line) (new : RelayScene) : Type 0 where
  pub then : Next
  pub whole : then ≢ next.Memory
  pub round : RelayRound (upstream_of old) then lines (upstream_of new)
  pub writes : Writes (lines_text lines) old.sink answer new.sink
  pub door : new.door ≡ old.door
  pub cache : new.cache ≡ old.cache

-- A round for which there was no memory broke off. Nothing of it was written.
pub record LeavesRound (old new : RelayScene) : Type 0 where
  pub lines : List Line
  pub round : RelayRound (upstream_of old) next.Memory lines (upstream_of new)
  pub sink : new.sink ≡ old.sink
  pub door : new.door ≡ old.door
  pub cache : new.cache ≡ old.cache

-- A broken round: there was no memory for it, or the sink failed.
abbrev pub BreaksRound : RelayScene → Stop → RelayScene → Type 0
BreaksRound old stop.Door new = ⊥
BreaksRound old stop.Memory new = LeavesRound old new
BreaksRound old stop.Sink new = (lines : List Line) × TellsRound old put.Failed lines new

-- ---- conversations
-- The door's next conversation was begun, and it ended so.
pub record Talks (old : RelayScene) (ended : Met) (new : RelayScene) : Type 0 where
  pub begun : DoorView
  pub begins : BeginsNext old.door put.Done begun
  pub talks : Converses RelayCalls routes.Relay begun (host_of old) ended new.door (host_of new)
  pub only : OnlyTalks begun new.door

-- A whole conversation ended so, and the sink answered so when its line was to be written.
pub record TellsTalk (old : RelayScene) (answer : Put) (ended : Met) (new : RelayScene) : Type 0 where
  pub talks : Talks old ended new
  pub whole : ended ≢ met.Memory
  pub writes : Writes (talk_line ended) old.sink answer new.sink

-- The door had no next conversation.
pub record HasNoTalk (old new : RelayScene) : Type 0 where
  pub begins : BeginsNext old.door put.Failed new.door
  pub relay : new.relay ≡ old.relay
  pub link : new.link ≡ old.link
  pub cache : new.cache ≡ old.cache
  pub sink : new.sink ≡ old.sink

-- Memory ran out in a conversation, of which nothing was printed.
pub record LeavesTalk (old new : RelayScene) : Type 0 where
  pub talks : Talks old met.Memory new
  pub sink : new.sink ≡ old.sink

-- A broken conversation: the door had none, memory ran out in it, or the sink failed.
abbrev pub BreaksTalk : RelayScene → Stop → RelayScene → Type 0
BreaksTalk old stop.Door new = HasNoTalk old new
BreaksTalk old stop.Memory new = LeavesTalk old new
BreaksTalk old stop.Sink new = (ended : Met) × TellsTalk old put.Failed ended new
