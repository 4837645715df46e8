-- Traces: events in their order, and an end.
use Rattle.std.specs.Prelude.{ℕ, nat_le, if◌then◌else◌, List, [], ◌∷◌, length}
use Rattle.bf_world.specs.declared.key.Key.{Key}
use Rattle.rel_value.specs.Plain.{Plain, words}

-- a look at the machine, a turn, or a value that is given
pub data Event : Type 0 where
  Look : (key : Key) → Event
  Turn : Event
  Give : (value : Plain) → Event

-- a trace stops, or ends at a text that is too long
pub data End : Type 0 where
  Stop : End
  TooLong : End

pub data Trace : Type 0 where
  Ends : (end : End) → Trace
  After : (event : Event) (rest : Trace) → Trace

-- no event
abbrev pub none : Trace
none = Ends Stop

-- one value
abbrev pub one : Plain → Trace
one v = After (Give v) none

-- the events of the first and then the second, unless the first ends at a text that is too long
abbrev pub follow : Trace → Trace → Trace
follow (Ends Stop) u = u
follow (Ends TooLong) u = Ends TooLong
follow (After e t) u = After e (follow t u)

-- what a place in a row gives: no value, one, or a text that is too long
pub data Item : Type 0 where
  Absent : Item
  Present : (value : Plain) → Item
  Unfit : Item

-- a text of at most 1,048,576 bytes; a longer one is too long
abbrev pub text_item : List ℕ → Item
text_item text = if nat_le (length text) 1048576 then Present (words text) else Unfit

-- the item, and then the rest
abbrev pub before : Item → Trace → Trace
before Absent t = t
before (Present v) t = After (Give v) t
before Unfit t = Ends TooLong

-- the item alone
abbrev pub once : Item → Trace
once i = before i none

-- a turn before each item
abbrev pub turns : List Item → Trace
turns [] = none
turns (i ∷ is) = After Turn (before i (turns is))
