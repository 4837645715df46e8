-- Runs of a relay that are told in full. Only the law of what a relay does cites this.
use Rattle.std.specs.Prelude.{◌≡◌, ℕ, ◌-◌, ◌^◌, ◌<◌, List, Option, Some}
use Rattle.desk_door.specs.Doors.{DoorView}
use Rattle.relay_cache.specs.CachedFiles.{CacheState}
use Rattle.relay_core.specs.KeptSites.{AreKept}
use Rattle.relay_core.specs.Relays.{RelayState}
use Rattle.desk_runs.specs.OneExchanges.{LinkTold, TellsLink}
use Rattle.desk_runs.specs.RelaySteps.{RelayScene}

-- what the peers say that are still to come, what was written to those that came, what the link tells, and what the relay keeps, with the
-- files of its cache, if it has one
pub record RelayTold : Type 0 where
  pub coming : List (List ℕ)
  pub written : List (List ℕ)
  pub link : LinkTold
  pub relay : RelayState
  pub cache : Option CacheState

-- A door tells this of its conversations. Its count of faults can rise.
pub record TellsDoor (coming written : List (List ℕ)) (door : DoorView) : Type 0 where
  pub comes : door.coming ≡ Some coming
  pub holds : door.written ≡ Some written
  pub rises : door.faults < 2 ^ 64 - 1

-- The door and the link tell this, and the relay keeps it, in order.
pub record TellsRelay (told : RelayTold) (scene : RelayScene) : Type 0 where
  pub door : TellsDoor told.coming told.written scene.door
  pub link : TellsLink told.link scene.link
  pub relay : scene.relay ≡ told.relay
  pub cache : scene.cache ≡ told.cache
  pub kept : AreKept told.relay.sites

-- Neither the door nor the link failed.
pub record IsSteadyRelay (old new : RelayScene) : Type 0 where
  pub door : new.door.faults ≡ old.door.faults
  pub link : new.link.faults ≡ old.link.faults

-- Both tell one thing: what was written to each peer, what the upstream was asked, what is still to come, and what is kept.
abbrev pub RelaysAlike : RelayScene → RelayScene → Type 0
RelaysAlike one other = (told : RelayTold) × TellsRelay told one × TellsRelay told other
