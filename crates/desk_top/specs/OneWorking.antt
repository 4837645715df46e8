-- Runs of relays and agents that are told in full. Only the law of what is said cites this.
use Rattle.std.specs.Prelude.{◌≡◌, ℕ, List, IsSome}
use Rattle.agent_core.specs.Devices.{devices}
use Rattle.desk_runs.specs.OneExchanges.{LinkTold, TellsLink}
use Rattle.desk_runs.specs.OneRelaying.{TellsDoor}
use Rattle.desk_runs.specs.OneRounding.{TellsDevices}
use Rattle.desk_top.specs.Relayed.{Relaying}
use Rattle.desk_top.specs.Rounded.{Rounding}

-- ---- a relay
-- The door tells who is to come and what was written, and the link this. Their counts of faults can rise.
pub record TellsRelaying (coming written : List (List ℕ)) (told : LinkTold) (old : Relaying) : Type 0 where
  pub door : TellsDoor coming written old.door
  pub link : TellsLink told old.link

-- Neither the door nor the link failed.
pub record RelayedSteadily (old new : Relaying) : Type 0 where
  pub door : new.door.faults ≡ old.door.faults
  pub link : new.link.faults ≡ old.link.faults

-- What was written to each peer is the same, and what the upstream was asked.
pub record RelayedAlike (one other : Relaying) : Type 0 where
  pub written : one.door.written ≡ other.door.written
  pub asked : one.link.asked ≡ other.link.asked

-- ---- an agent
-- The link tells this, the machine and the pocket tell all, and the clock the moments that it gave. The counts of faults of the first three
-- can rise.
pub record TellsRounding (told : LinkTold) (old : Rounding) : Type 0 where
  pub link : TellsLink told old.link
  pub devices : TellsDevices (devices old.machine old.pocket)
  pub moments : IsSome old.clock.given

-- Neither the link nor the machine nor the pocket failed.
pub record RoundedSteadily (old new : Rounding) : Type 0 where
  pub link : new.link.faults ≡ old.link.faults
  pub machine : new.machine.faults ≡ old.machine.faults
  pub pocket : new.pocket.faults ≡ old.pocket.faults

-- What the upstream was asked is the same, what was looked up and done, and what is saved.
pub record RoundedAlike (one other : Rounding) : Type 0 where
  pub asked : one.link.asked ≡ other.link.asked
  pub machine : one.machine ≡ other.machine
  pub pocket : one.pocket ≡ other.pocket
