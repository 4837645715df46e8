-- Sources, sinks and clocks in memory, as contracts see them, and what a call does to them beyond what its trait says.
use Rattle.std.specs.Prelude.{◌≡◌, ℕ, ℤ, min, List, [], ◌∷◌, length, ◌⊎◌, Some}
use Rattle.desk_base.specs.CallStates.{CallState, IsListed, one_call, one_fault}
use Rattle.desk_base.specs.Views.{SourceView, SinkView, ClockView}
use Rattle.desk_base.specs.declared.source.Got.{Got}
use Rattle.desk_base.specs.declared.source.Got.TheVariants as got
use Rattle.desk_base.specs.declared.sink.Put.{Put}
use Rattle.desk_base.specs.declared.sink.Put.TheVariants as put
use Rattle.desk_base.specs.declared.clock.Told.{Told}
use Rattle.desk_base.specs.declared.clock.Told.TheVariants as told

-- the bytes that are left
pub record SourceState : Type 0 where
  pub left : List ℕ
  pub calls : CallState

-- the bytes that it holds
pub record SinkState : Type 0 where
  pub held : List ℕ
  pub calls : CallState

-- the moments that it gave, and those that it has still to give
pub record ClockState : Type 0 where
  pub given : List ℤ
  pub left : List ℤ
  pub calls : CallState

-- what a source in memory tells
abbrev pub source_view : SourceState → SourceView
source_view s = record { left = Some s.left; reads = Some s.calls.made; faults = s.calls.faults }

-- what a sink in memory tells
abbrev pub sink_view : SinkState → SinkView
sink_view s = record { held = Some s.held; faults = s.calls.faults }

-- what a clock in memory tells
abbrev pub clock_view : ClockState → ClockView
clock_view c = record { given = Some c.given; faults = c.calls.faults }

-- The call was made, is none of those that are to fail, and did not.
abbrev pub Succeeds : CallState → CallState → Type 0
Succeeds old new = (new ≡ one_call old) × ¬ IsListed new

-- The call was made, and failed.
abbrev pub Fails : CallState → CallState → Type 0
Fails old new = new ≡ one_fault (one_call old)

-- A read fails exactly where it is listed, and takes as much as there is room for.
abbrev pub ReadsMemory : SourceState → SourceState → Got → ℕ → Type 0
ReadsMemory old new (got.Some n) room_length = Succeeds old.calls new.calls × (n ≡ min (length old.left) room_length)
ReadsMemory old new got.End room_length = Succeeds old.calls new.calls
ReadsMemory old new got.Failed room_length = Fails old.calls new.calls × IsListed new.calls

-- A write that is listed fails, and one that fails leaves what is held. Any other may fail too, for want of memory.
abbrev pub WritesMemory : SinkState → SinkState → Put → Type 0
WritesMemory old new put.Done = Succeeds old.calls new.calls
WritesMemory old new put.Failed = Fails old.calls new.calls × (new.held ≡ old.held)

-- A question fails exactly where it is listed or no moment is left, and gives the next moment otherwise.
abbrev pub StepsMemory : ClockState → ClockState → Told → Type 0
StepsMemory old new (told.Moment seconds) = Succeeds old.calls new.calls × (old.left ≡ seconds ∷ new.left)
StepsMemory old new told.Failed = Fails old.calls new.calls × (IsListed new.calls ⊎ (old.left ≡ [])) × (new.left ≡ old.left)
