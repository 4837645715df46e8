-- What `relay` does: it names the upstream, opens the door, and goes between upstream rounds and conversations.
use Rattle.std.specs.Prelude.{◌≡◌, ◌⊎◌, ℕ, ◌≤◌, List, [], None, Some}
use Rattle.std.specs.declared.option.Option.{Option}
use Rattle.std.specs.declared.result.Result.{Result}
use Rattle.std.specs.declared.result.Result.TheVariants.{Ok, Err}
use Rattle.desk_base.specs.Counts.{CountsFaults}
use Rattle.desk_base.specs.Views.{SinkView}
use Rattle.desk_base.specs.declared.sink.Put.{Put}
use Rattle.desk_base.specs.declared.sink.Put.TheVariants as put
use Rattle.desk_door.specs.Doors.{DoorView, OpensAt}
use Rattle.desk_door.specs.Links.{LinkView}
use Rattle.relay_cache.specs.CachedFiles.{CacheState}
use Rattle.relay_core.specs.Relays.{RelayState, desk_queue, empty_relay}
use Rattle.desk_serve.specs.declared.step.Stop.{Stop}
use Rattle.desk_serve.specs.declared.step.Stop.TheVariants as stop
use Rattle.desk_runs.specs.RelayRuns.{RelaysAll}
use Rattle.desk_runs.specs.RelaySteps.{RelayScene, relay_scene}
use Rattle.desk_top.specs.declared.command.RelayWords.{RelayWords}
use Rattle.desk_top.specs.declared.status.Status.{Status}
use Rattle.desk_top.specs.declared.status.Status.TheVariants.{Done, Sink, Door, Memory}
use Rattle.desk_top.specs.Counted.{CountsMore}

-- what the devices of a relay tell
pub record Relaying : Type 0 where
  pub door : DoorView
  pub link : LinkView
  pub sink : SinkView

abbrev pub relay_devices : DoorView → LinkView → SinkView → Relaying
relay_devices door link sink = record { door = door; link = link; sink = sink }

-- the upstream is asked from now on
abbrev pub with_upstream : List ℕ → LinkView → LinkView
with_upstream upstream link = record link { upstream = Some upstream }

-- The upstream was named, and then the door was opened at the port, which answered so.
pub record OpensRelay (asked : RelayWords) (old : Relaying) (answer : Put) (new : Relaying) : Type 0 where
  pub link : new.link ≡ with_upstream asked.upstream.now old.link
  pub door : OpensAt asked.port old.door answer new.door
  pub sink : new.sink ≡ old.sink

-- what the steps of a relay go on that keeps this, and these files, if it has a cache
abbrev pub relay_at : RelayState → Option CacheState → Relaying → RelayScene
relay_at relay cache d = relay_scene d.door relay d.link cache d.sink

-- a cache with so much room that keeps nothing
abbrev pub empty_cache : Option ℕ → Option CacheState
empty_cache None = None
empty_cache (Some room) = Some (record { room = room; files = [] })

-- Both were opened, and then a relay that kept nothing was at work, which ended so. It had a cache where there was room for one.
abbrev pub RelaysAt : RelayWords → Relaying → Result Unit Stop → Relaying → Type 0
RelaysAt asked old result new =
    (opened : Relaying) × (last : RelayState) × (kept : Option CacheState) × OpensRelay asked old put.Done opened
    × RelaysAll (relay_at (empty_relay desk_queue) (empty_cache asked.room) opened) asked.count result (relay_at last kept new)

-- How `relay` ends. Unwritten says that nothing was written, and Unopened that the door is as it was. Only private functions cite this.
abbrev pub RelayEnds : RelayWords → Status → Relaying → Relaying → Type 0 → Type 0 → Type 0
RelayEnds asked Done old new Unwritten Unopened = RelaysAt asked old (Ok tt) new
RelayEnds asked Sink old new Unwritten Unopened = RelaysAt asked old (Err stop.Sink) new
RelayEnds asked Door old new Unwritten Unopened =
    (OpensRelay asked old put.Failed new × Unwritten) ⊎ RelaysAt asked old (Err stop.Door) new
RelayEnds asked Memory old new Unwritten Unopened =
    ((new.link ≡ old.link) × Unwritten × Unopened) ⊎ RelaysAt asked old (Err stop.Memory) new
RelayEnds asked _ old new Unwritten Unopened = ⊥

-- The counts of faults by how `relay` ended. Only private functions cite this.
pub record CountsRelay (result : Status) (old new : Relaying) : Type 0 where
  pub sink : CountsFaults (result ≡ Sink) old.sink.faults new.sink.faults
  pub door : CountsMore (result ≡ Door) old.door.faults new.door.faults
  pub link : old.link.faults ≤ new.link.faults
