-- A door and a link in memory, as contracts see them, and what a call does to one beyond what its trait says.
use Rattle.std.specs.Prelude.{◌≡◌, ◌⊎◌, Bool, true, false, ℕ, min, List, [], ◌∷◌, ◌++◌, length, None, Some}
use Rattle.std.specs.declared.option.Option.{Option}
use Rattle.desk_base.specs.CallStates.{CallState, IsListed, no_calls, one_call}
use Rattle.desk_base.specs.MemoryStates.{Succeeds, Fails}
use Rattle.desk_base.specs.declared.source.Got.{Got}
use Rattle.desk_base.specs.declared.source.Got.TheVariants as got
use Rattle.desk_base.specs.declared.sink.Put.{Put}
use Rattle.desk_base.specs.declared.sink.Put.TheVariants as put
use Rattle.desk_door.specs.declared.asked.Asked.{Asked}
use Rattle.desk_door.specs.declared.link.Exchanged.{Exchanged}
use Rattle.desk_door.specs.declared.link.Exchanged.TheVariants as of_exchange
use Rattle.desk_door.specs.Doors.{DoorView}
use Rattle.desk_door.specs.Links.{LinkView}

-- the ports, the conversations to come, what is left of the present one, what was written in each, the present one first, what it was told
-- at the last close, if there was one, and the calls
pub record DoorState : Type 0 where
  pub ports : List ℕ
  pub coming : List (List ℕ)
  pub left : List ℕ
  pub written : List (List ℕ)
  pub ended : Option Bool
  pub calls : CallState

-- a door at which nothing has begun yet; the calls with these numbers are to fail
abbrev pub closed_door : List (List ℕ) → List ℕ → DoorState
closed_door coming fails =
    record { ports = []; coming = coming; left = []; written = []; ended = None; calls = no_calls fails }

-- what it tells
abbrev pub door_view : DoorState → DoorView
door_view d = record {
  ports = Some d.ports;
  coming = Some d.coming;
  left = Some d.left;
  written = Some d.written;
  ended = Some d.ended;
  faults = d.calls.faults;
}

-- An opening or a beginning that fails changes nothing, and one that is listed fails.
abbrev pub PutsMemory : DoorState → Put → DoorState → Type 0
PutsMemory old put.Done new = Succeeds old.calls new.calls
PutsMemory old put.Failed new = Fails old.calls new.calls × (new ≡ record old { calls = new.calls })

-- A read fails exactly where it is listed, and takes as much as there is room for.
abbrev pub TakesMemory : DoorState → Got → ℕ → DoorState → Type 0
TakesMemory old (got.Some n) room_length new = Succeeds old.calls new.calls × (n ≡ min (length old.left) room_length)
TakesMemory old got.End room_length new = Succeeds old.calls new.calls
TakesMemory old got.Failed room_length new = Fails old.calls new.calls × IsListed new.calls

-- The first of some texts was extended by a piece, or none was.
abbrev pub ExtendsFirst : List ℕ → List (List ℕ) → Bool → List (List ℕ) → Type 0
ExtendsFirst piece old false new = new ≡ old
ExtendsFirst piece [] true new = ⊥
ExtendsFirst piece (present ∷ before) true new = new ≡ (present ++ piece) ∷ before

-- A write extends what was written in the present conversation. One that fails changes nothing, and one that is listed fails.
abbrev pub WritesMemory : List ℕ → DoorState → Put → DoorState → Type 0
WritesMemory piece old put.Done new = Succeeds old.calls new.calls × ExtendsFirst piece old.written true new.written
WritesMemory piece old put.Failed new = Fails old.calls new.calls × ExtendsFirst piece old.written false new.written

-- the upstream that was opened last, the requests that were asked, the replies to come, and the exchanges
pub record LinkState : Type 0 where
  pub upstream : Option (List ℕ)
  pub asked : List Asked
  pub replies : List (List ℕ)
  pub calls : CallState

-- a link that was asked nothing yet; the exchanges with these numbers are to fail
abbrev pub unasked_link : List (List ℕ) → List ℕ → LinkState
unasked_link replies fails = record { upstream = None; asked = []; replies = replies; calls = no_calls fails }

-- what it tells
abbrev pub link_view : LinkState → LinkView
link_view l = record { upstream = l.upstream; asked = Some l.asked; replies = Some l.replies; faults = l.calls.faults }

-- An exchange fails only where it is listed or no reply is left, and answers only where it isn't listed.
abbrev pub ExchangesMemory : LinkState → Exchanged → LinkState → Type 0
ExchangesMemory old (of_exchange.Reply bytes) new = Succeeds old.calls new.calls
ExchangesMemory old of_exchange.Failed new = Fails old.calls new.calls × (IsListed new.calls ⊎ (old.replies ≡ []))
ExchangesMemory old of_exchange.Memory new = new.calls ≡ one_call old.calls
