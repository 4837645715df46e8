-- The steps of a server that serves conversations: whole ones, each with its line, and the broken one that ends a run.
use Rattle.std.specs.Prelude.{◌≡◌, ◌≢◌, MatchResult}
use Rattle.std.specs.declared.result.Result.{Result}
use Rattle.std.specs.Io.KnownBytes.{Appends}
use Rattle.desk_base.specs.Counts.{Rose}
use Rattle.desk_base.specs.Flow.{AppendsFront}
use Rattle.desk_base.specs.Views.{SinkView}
use Rattle.desk_base.specs.declared.sink.Put.TheVariants as put
use Rattle.desk_door.specs.Doors.{DoorView, BeginsNext}
use Rattle.desk_keep.specs.Views.{KeeperView}
use Rattle.route_rules.specs.declared.route.Routes.TheVariants as routes
use Rattle.desk_http.specs.declared.talk.Met.{Met}
use Rattle.desk_http.specs.declared.talk.Met.TheVariants as met
use Rattle.desk_http.specs.Conversing.{Converses, OnlyTalks}
use Rattle.server_core.specs.declared.limits.Limits.{Limits}
use Rattle.desk_hosts.specs.ServerCalls.{ServerCalls, ServerTells}
use Rattle.desk_serve.specs.declared.step.Stop.{Stop}
use Rattle.desk_serve.specs.declared.step.Stop.TheVariants as stop
use Rattle.desk_serve.specs.TalkLines.{talk_line}

-- what the door, the keeper and the sink tell
pub record Scene : Type 0 where
  pub door : DoorView
  pub keeper : KeeperView
  pub sink : SinkView

-- a server of these limits over the scene's keeper
abbrev pub server_of : Limits → Scene → ServerTells
server_of limits scene = record { limits = limits; keeper = scene.keeper }

-- The door's next conversation was begun, and it ended so.
pub record Talks (limits : Limits) (old : Scene) (ended : Met) (new : Scene) : Type 0 where
  pub begun : DoorView
  pub begins : BeginsNext old.door put.Done begun
  pub talks : Converses ServerCalls routes.Server begun (server_of limits old) ended new.door (server_of limits new)
  pub only : OnlyTalks begun new.door

-- A whole step: a conversation that ended so, and its line.
pub record Serves (limits : Limits) (old : Scene) (ended : Met) (new : Scene) : Type 0 where
  pub talks : Talks limits old ended new
  pub whole : ended ≢ met.Memory
  pub line : Appends old.sink.held new.sink.held (talk_line ended)
  pub faults : new.sink.faults ≡ old.sink.faults

-- a conversation was served, and its line wasn't written whole
pub record ServesUnsaid (limits : Limits) (old : Scene) (new : Scene) : Type 0 where
  pub ended : Met
  pub talks : Talks limits old ended new
  pub whole : ended ≢ met.Memory
  pub front : AppendsFront old.sink.held new.sink.held (talk_line ended)
  pub faults : Rose old.sink.faults new.sink.faults

-- The broken step: the door had no next conversation, memory ran out in one, or the sink failed.
abbrev pub Breaks : Limits → Scene → Stop → Scene → Type 0
Breaks limits old stop.Door new = BeginsNext old.door put.Failed new.door × (new.keeper ≡ old.keeper) × (new.sink ≡ old.sink)
Breaks limits old stop.Memory new = Talks limits old met.Memory new × (new.sink ≡ old.sink)
Breaks limits old stop.Sink new = ServesUnsaid limits old new

-- a step: a whole one, or the broken one
abbrev pub ServesNext : Limits → Scene → Result Unit Stop → Scene → Type 0
ServesNext limits old result new =
    MatchResult result (λ _. (ended : Met) × Serves limits old ended new) (λ stop. Breaks limits old stop new)

-- the line of a conversation was to be written; only private functions cite this
abbrev pub SaysLine : SinkView → Met → Result Unit Stop → SinkView → Type 0
SaysLine old ended result new = MatchResult result
    (λ _. Appends old.held new.held (talk_line ended) × (new.faults ≡ old.faults))
    (λ why. (why ≡ stop.Sink) × AppendsFront old.held new.held (talk_line ended) × Rose old.faults new.faults)
