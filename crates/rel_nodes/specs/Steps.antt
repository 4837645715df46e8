-- What a step of a node does to the machine's looks, to the looks and turns that may still be made, and to the trace that is left.
use Rattle.std.specs.Prelude.{◌≡◌, ℕ, ◌+◌, ◌≤◌, Bool, nat_lt, List, [], ◌∷◌, ◌++◌, length, Some}
use Rattle.std.specs.declared.option.Option.{Option}
use Rattle.desk_base.specs.Counts.{CountsIf}
use Rattle.bf_machine.specs.Told.{Grows}
use Rattle.bf_machine.specs.Views.{MachineView, OnlyLooks}
use Rattle.bf_world.specs.declared.key.Key.{Key}
use Rattle.bf_world.specs.Worlds.{WorldState}
use Rattle.rel_inspect.specs.declared.walk.Walk.{Walk}
use Rattle.rel_inspect.specs.Left.{left, values_ahead}
use Rattle.rel_lexer.specs.declared.place.Place.{Place}
use Rattle.rel_sources.specs.declared.scene.Scene.{Scene}
use Rattle.rel_value.specs.Plain.{Plain}
use Rattle.rel_trace.specs.declared.step.Step.{Step}
use Rattle.rel_trace.specs.declared.step.Step.TheVariants.{Quiet, Looked, Turned}
use Rattle.rel_trace.specs.Steps.{AsRoom, Falls, Goes, has_failed}
use Rattle.rel_trace.specs.Trace.{Event, Look, Turn, Give, Trace, After}
use Rattle.rel_nodes.specs.Meaning.{placed}

-- events, and then a trace
abbrev pub prepend : List Event → Trace → Trace
prepend [] trace = trace
prepend (event ∷ events) trace = After event (prepend events trace)

-- the keys of the looks among events
abbrev pub keys : List Event → List Key
keys [] = []
keys (Look place key ∷ events) = key ∷ keys events
keys (Turn place ∷ events) = keys events
keys (Give value ∷ events) = keys events

-- the values among events
abbrev pub gives : List Event → List Plain
gives [] = []
gives (Look place key ∷ events) = gives events
gives (Turn place ∷ events) = gives events
gives (Give value ∷ events) = value ∷ gives events

-- The keys that were looked up grow, where they are told, by those with which the step takes the one trace to the other, whatever
-- was looked up before.
abbrev pub Went : Option (List Key) → Trace → Step → Option (List Key) → Trace → Type 0
Went old before step new after = (more : List Key) × Grows old new more × ((looked : List Key) → Goes looked before step (looked ++ more) after)

-- Some looks and turns were made, as many as there are less to make now, and then this step; the keys that were looked up grow, where
-- they are told, by those of the looks and of the step.
pub record Advances (old : Option (List Key)) (old_budget : ℕ) (before : Trace) (step : Step) (new : Option (List Key)) (new_budget : ℕ) (after : Trace) : Type 0 where
  pub events : List Event
  pub quiet : gives events ≡ []
  pub counted : old_budget ≡ length events + new_budget
  pub next : Trace
  pub whole : before ≡ prepend events next
  pub more : List Key
  pub grows : Grows old new (keys events ++ more)
  pub goes : (looked : List Key) → Goes looked next step (looked ++ more) after

-- so many looks and turns leave room for one
abbrev pub has_room : ℕ → Bool
has_room budget = nat_lt 0 budget

-- With so many looks and turns that may still be made, a node stops here: at a turn only where none may be made.
abbrev pub IsStop : ℕ → Step → Type 0
IsStop budget Quiet = ⊥
IsStop budget (Looked place) = ⊥
IsStop budget (Turned place) = budget ≡ 0
IsStop budget _ = Unit {0}

-- a step is passed over: a quiet one, and a look or a turn, which is counted down
abbrev pub PassedOver : ℕ → Step → ℕ → Type 0
PassedOver old Quiet new = new ≡ old
PassedOver old (Looked place) new = old ≡ new + 1
PassedOver old (Turned place) new = old ≡ new + 1
PassedOver old _ new = ⊥

-- what is left: its trace in each world, and the most quiet steps before its next look, turn or end
pub record Remainder : Type 0 where
  pub trace : WorldState → Trace
  pub most : ℕ

-- that of a walk, with the head at a place
abbrev pub of_walk : Scene → Place → Walk → Remainder
of_walk scene head walk = record { trace = λ world. placed head (left walk world scene); most = values_ahead walk }

-- One event, or none, at a machine and with what is left: as the trace says in the machine's world, and nothing but a look is done there.
pub record WentOn (room : Bool) (old : MachineView) (before : Remainder) (step : Step) (new : MachineView) (after : Remainder) : Type 0 where
  pub goes : (world : WorldState) → old.world ≡ Some world → Went old.looked (before.trace world) step new.looked (after.trace world)
  pub cause : CountsIf (has_failed step) old.faults new.faults
  pub as_room : AsRoom room step
  pub falls : Falls step before.most after.most
  pub looks : OnlyLooks old new

-- The same of some looks and turns, counted down from the old budget to the new one, and then this step.
pub record StepsOn (old : MachineView) (old_budget : ℕ) (before : Remainder) (step : Step) (new : MachineView) (new_budget : ℕ) (after : Remainder) : Type 0 where
  pub goes : (world : WorldState) → old.world ≡ Some world
      → Advances old.looked old_budget (before.trace world) step new.looked new_budget (after.trace world)
  pub cause : CountsIf (has_failed step) old.faults new.faults
  pub as_room : AsRoom (has_room new_budget) step
  pub within : new_budget ≤ old_budget
  pub falls : new_budget ≡ old_budget → Falls step before.most after.most
  pub looks : OnlyLooks old new
