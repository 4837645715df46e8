-- What a run does to the sink, the machine and the clock, where they tell it.
use Rattle.std.specs.Prelude.{◌≡◌, ⊤, ℕ, ℤ, List, All}
use Rattle.std.specs.declared.option.Option.{Option}
use Rattle.std.specs.declared.option.Option.TheVariants.{None, Some}
use Rattle.std.specs.Io.KnownBytes.{Appends}
use Rattle.desk_base.specs.Counts.{CountsFaults}
use Rattle.desk_base.specs.Moments.{AppendsMoments, IsMoment}
use Rattle.desk_base.specs.Views.{SinkView, ClockView}
use Rattle.line_forms.specs.Numbers.{IsOffset}
use Rattle.rel_session.specs.declared.asking.Asking.{Asking}
use Rattle.bf_machine.specs.Looks.{LooksUp}
use Rattle.bf_machine.specs.Rises.{CountsFailed}
use Rattle.bf_machine.specs.Views.{MachineView, OnlyLooks}
use Rattle.bf_world.specs.Worlds.{WorldState}
use Rattle.rel_session.specs.Readings.{Readings}
use Rattle.rel_session.specs.Sessions.{Session, Run, Runs, IsFrontOfRun}

-- what the devices tell
pub record Devices : Type 0 where
  pub sink : SinkView
  pub machine : MachineView
  pub clock : ClockView

-- the devices that tell this
abbrev pub devices : SinkView → MachineView → ClockView → Devices
devices sink machine clock = record { sink = sink; machine = machine; clock = clock }

-- Nothing was done but to look, to write and to ask for moments; the counts of the sink and the clock rose where these failed, and stayed
-- where they didn't.
pub record OnlyAsks (sink_failed clock_failed : Type 0) (old new : Devices) : Type 0 where
  pub looks : OnlyLooks old.machine new.machine
  pub sink : CountsFaults sink_failed old.sink.faults new.sink.faults
  pub clock : CountsFaults clock_failed old.clock.faults new.clock.faults

-- a fixed moment is one
abbrev pub IsDate : Option ℤ → Type 0
IsDate None = ⊤
IsDate (Some fixed) = IsMoment fixed

-- The moments are the clock's next ones, or all of them are a fixed one and the clock gave none.
abbrev pub Dates : Option ℤ → Option (List ℤ) → Option (List ℤ) → List ℤ → Type 0
Dates None old new moments = AppendsMoments old new moments
Dates (Some fixed) old new moments = All (λ moment. moment ≡ fixed) moments × (new ≡ old)

-- The devices did this run, or this front of one, with these moments.
pub record Did (world : Option WorldState) (fixed : Option ℤ) (old new : Devices) (moments : List ℤ) (run : Run) : Type 0 where
  pub written : Appends old.sink.held new.sink.held run.bytes
  pub looked : LooksUp world old.machine.looked new.machine.looked run.looks
  pub faults : CountsFailed run.faults old.machine.faults new.machine.faults
  pub dated : Dates fixed old.clock.given new.clock.given moments

-- All lines were run.
abbrev pub DidAll : Readings → ℤ → Session → List (List ℕ) → Option ℤ → Devices → Devices → Type 0
DidAll reads offset s lines fixed old new = (moments : List ℤ) × (run : Run) × Runs reads old.machine.world offset s lines moments run
    × Did old.machine.world fixed old new moments run

-- A front of that was done.
abbrev pub DidFront : Readings → ℤ → Session → List (List ℕ) → Option ℤ → Devices → Devices → Type 0
DidFront reads offset s lines fixed old new = (moments : List ℤ) × (front : Run) × IsFrontOfRun reads old.machine.world offset s lines moments front
    × Did old.machine.world fixed old new moments front

-- Where and when questions are asked: the offset is one, and a fixed moment is one.
abbrev pub IsAsking : Asking → Type 0
IsAsking asking = IsOffset asking.offset × IsDate asking.moment
