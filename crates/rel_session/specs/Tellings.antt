-- What is told of a trace: its values and its error, all of it or page by page. A look may fail, which ends the telling there.
use Rattle.std.specs.Prelude.{◌≡◌, ◌⊎◌, ℕ, zero, suc, ◌<◌, ◌≤◌, ℤ, List, [], ◌∷◌, ◌++◌, length, Option, None, Some}
use Rattle.rel_lexer.specs.declared.place.Place.{Place}
use Rattle.bf_world.specs.declared.key.Key.{Key}
use Rattle.rel_value.specs.Texts.{text_of}
use Rattle.rel_trace.specs.declared.kind.RelKind.TheVariants.{TextTooLong}
use Rattle.rel_trace.specs.Trace.{Stop, Error, Look, Turn, Give, Trace, Ends, After}
use Rattle.rel_session.specs.Printed.{said_value, said_error, said_fault, said_more}

-- what was told: its bytes, the keys looked up, how many looks failed, and what the question has still to give where it is paused
pub record Telling : Type 0 where
  pub bytes : List ℕ
  pub looks : List Key
  pub faults : ℕ
  pub rest : Option Trace

-- these bytes, and the question is over
abbrev pub ended : List ℕ → Telling
ended bytes = record { bytes = bytes; looks = []; faults = 0; rest = None }

-- the look at this place failed
abbrev pub faulted : Place → Telling
faulted place = record { bytes = said_fault place; looks = []; faults = 1; rest = None }

-- the question is paused with this still to give
abbrev pub paused : Trace → Telling
paused rest = record { bytes = said_more; looks = []; faults = 0; rest = Some rest }

-- some bytes and looks first
abbrev pub onto : List ℕ → List Key → Telling → Telling
onto bytes keys u = record u { bytes = bytes ++ u.bytes; looks = keys ++ u.looks }

-- A room says how many values may be told before a page's last one; none is without a bound.

-- After a value this is told: of what is left in the room that is left; or the question pauses, where it was the page's last value.
abbrev pub GoesOn : Option ℕ → Trace → (Option ℕ → Telling → Type 0) → Telling → Type 0
GoesOn None rest tells told = tells None told
GoesOn (Some zero) rest tells told = told ≡ paused rest
GoesOn (Some (suc n)) rest tells told = tells (Some n) told

-- This is told of a trace by a question with its span there, in an offset, and with this room.
unfoldable pub Tells : ℤ → Place → Option ℕ → Trace → Telling → Type 0
Tells offset span room (Ends Stop) told = told ≡ ended []
Tells offset span room (Ends (Error kind place)) told = told ≡ ended (said_error kind place)
Tells offset span room (After (Look place key) t) told =
    (told ≡ faulted place) ⊎ ((u : Telling) × Tells offset span room t u × (told ≡ onto [] (key ∷ []) u))
Tells offset span room (After (Turn place) t) told = Tells offset span room t told
Tells offset span room (After (Give v) t) told =
    ((1048576 < length (text_of offset v)) × (told ≡ ended (said_error TextTooLong span)))
    ⊎ ((length (text_of offset v) ≤ 1048576)
    × ((u : Telling) × GoesOn room t (λ left. Tells offset span left t) u × (told ≡ onto (said_value (text_of offset v)) [] u)))

-- the room of a page of this many values; 0 is without a bound
abbrev pub room_of : ℕ → Option ℕ
room_of zero = None
room_of (suc n) = Some n

-- This is told of some trace, of which P holds.
abbrev pub TellsSome : ℤ → Place → Option ℕ → (Trace → Type 0) → Telling → Type 0
TellsSome offset span room P told = (t : Trace) × P t × Tells offset span room t told
