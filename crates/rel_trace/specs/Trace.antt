-- Traces: events and an end, and how they are joined.
use Rattle.std.specs.Prelude.{Bool, false, not}
use Rattle.rel_lexer.specs.declared.place.Place.{Place}
use Rattle.rel_value.specs.Outcomes.{Outcome, gives, fails, no_row}
use Rattle.rel_value.specs.Plain.{Plain, boolean}
use Rattle.bf_world.specs.declared.key.Key.{Key}
use Rattle.rel_trace.specs.declared.kind.RelKind.{RelKind}
use Rattle.rel_trace.specs.Kinds.{fault_kind}

-- how a trace ends
pub data End : Type 0 where
  Stop : End
  Error : (kind : RelKind) (place : Place) → End

-- a look at the machine, a turn, or a value that is given
pub data Event : Type 0 where
  Look : (place : Place) (key : Key) → Event
  Turn : (place : Place) → Event
  Give : (value : Plain) → Event

pub data Trace : Type 0 where
  Ends : (end : End) → Trace
  After : (event : Event) (rest : Trace) → Trace

-- nothing
abbrev pub none : Trace
none = Ends Stop

-- one value
abbrev pub one : Plain → Trace
one v = After (Give v) none

-- the events of the first and then the second, unless the first ends in an error
abbrev pub follow : Trace → Trace → Trace
follow (Ends Stop) u = u
follow (Ends (Error k p)) u = Ends (Error k p)
follow (After e t) u = After e (follow t u)

-- each value replaced by a trace of its own; the first of these that ends in an error ends all
abbrev pub each : Trace → (Plain → Trace) → Trace
each (Ends e) f = Ends e
each (After (Look p k) t) f = After (Look p k) (each t f)
each (After (Turn p) t) f = After (Turn p) (each t f)
each (After (Give v) t) f = follow (f v) (each t f)

-- a turn first
abbrev pub turned : Place → Trace → Trace
turned p t = After (Turn p) t

-- what a row gives, or its fault as an error at a place; where there is no row nothing is given
abbrev pub result_at : Place → Outcome → Trace
result_at p (gives v) = one v
result_at p (fails why) = Ends (Error (fault_kind why) p)
result_at p no_row = none

-- it is True
abbrev pub is_true : Plain → Bool
is_true (boolean b) = b
is_true _ = false

-- it is False
abbrev pub is_false : Plain → Bool
is_false (boolean b) = not b
is_false _ = false
