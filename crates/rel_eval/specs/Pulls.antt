-- What is used up of a trace, by positions: the events from one place to another.
use Rattle.std.specs.Prelude.{◌≡◌, List, []}
use Rattle.std.specs.declared.option.Option.{Option}
use Rattle.bf_machine.specs.Told.{Grows}
use Rattle.bf_world.specs.declared.key.Key.{Key}
use Rattle.rel_value.specs.Plain.{Plain}
use Rattle.rel_value.specs.Views.{shown}
use Rattle.rel_trace.specs.Steps.{LooksAt}
use Rattle.rel_trace.specs.Trace.{Stop, Error, Event, Give, Trace, Ends, After}
use Rattle.rel_nodes.specs.Steps.{prepend, keys, gives}
use Rattle.rel_eval.specs.declared.cursor.Pulled.{Pulled}
use Rattle.rel_eval.specs.declared.cursor.Pulled.TheVariants as pulled

-- from one place of a trace to a later one, with no value between them, and these are the keys of the looks between them
pub record Skips (t : Trace) (looks : List Key) (later : Trace) : Type 0 where
  pub events : List Event
  pub quiet : gives events ≡ []
  pub whole : t ≡ prepend events later
  pub looked : looks ≡ keys events

-- What a pull did: the trace that was left, the keys of the looks that were made, and the trace that is left now. A value is the next
-- one; an end or error is that of the trace, and stays; a failed look is the next event. Where memory ran out, what was looked up is
-- that of some stretch before the next value.
abbrev pub Pulls : Trace → Pulled → List Key → Trace → Type 0
Pulls t (pulled.Value v) looks rest = Skips t looks (After (Give (shown v)) rest)
Pulls t pulled.End looks rest = Skips t looks (Ends Stop) × (rest ≡ Ends Stop)
Pulls t (pulled.Error kind place) looks rest = Skips t looks (Ends (Error kind place)) × (rest ≡ Ends (Error kind place))
Pulls t (pulled.Failed place) looks rest = Skips t looks rest × LooksAt place rest
Pulls t pulled.Memory looks rest = (u : Trace) × Skips t looks u
Pulls t pulled.Closed looks rest = looks ≡ []

-- the answer is this value
abbrev pub GivesValue : Plain → Pulled → Type 0
GivesValue plain (pulled.Value v) = shown v ≡ plain
GivesValue plain other = ⊥

-- the answers are the same
abbrev pub AreAlike : Pulled → Pulled → Type 0
AreAlike (pulled.Value v) copy = GivesValue (shown v) copy
AreAlike other copy = copy ≡ other

-- The keys that a machine tells grow by those of the looks that were made.
abbrev pub Draws : Option (List Key) → Trace → Pulled → Option (List Key) → Trace → Type 0
Draws old t result new rest = (looks : List Key) × Grows old new looks × Pulls t result looks rest
