-- One step of what gives a trace.
use Rattle.std.specs.Prelude.{◌≡◌, ℕ, ◌<◌, List, [], ◌∷◌, ◌++◌, Bool, true, false}
use Rattle.rel_lexer.specs.declared.place.Place.{Place}
use Rattle.bf_world.specs.declared.key.Key.{Key}
use Rattle.rel_trace.specs.declared.step.Step.{Step}
use Rattle.rel_trace.specs.declared.step.Step.TheVariants.{Quiet, Looked, Turned, Given, Over, Erred, Full, Failed, Memory}
use Rattle.rel_trace.specs.Trace.{Stop, Error, Look, Turn, Give, Trace, Ends, After}

-- the trace begins with a look at this place
abbrev pub LooksAt : Place → Trace → Type 0
LooksAt p t = (key : Key) × (u : Trace) × (t ≡ After (Look p key) u)

-- what was looked up and what was left before the step, and the same after it
abbrev pub Goes : List Key → Trace → Step → List Key → Trace → Type 0
Goes l t Quiet l' t' = (t ≡ t') × (l' ≡ l)
Goes l t (Looked p) l' t' = (key : Key) × (t ≡ After (Look p key) t') × (l' ≡ l ++ key ∷ [])
Goes l t (Turned p) l' t' = (t ≡ After (Turn p) t') × (l' ≡ l)
Goes l t (Given v) l' t' = (t ≡ After (Give v) t') × (l' ≡ l)
Goes l t Over l' t' = (t ≡ Ends Stop) × (l' ≡ l)
Goes l t (Erred k p) l' t' = (t ≡ Ends (Error k p)) × (l' ≡ l)
Goes l t (Full p) l' t' = LooksAt p t × (t ≡ t') × (l' ≡ l)
Goes l t (Failed p) l' t' = LooksAt p t × (t ≡ t') × (l' ≡ l)
Goes l t Memory l' t' = l' ≡ l

-- a look failed
abbrev pub has_failed : Step → Bool
has_failed (Failed p) = true
has_failed _ = false

-- a look is made, or fails, only where there is room for one more event, and only there it isn't told that there is none
abbrev pub AsRoom : Bool → Step → Type 0
AsRoom room (Looked p) = room ≡ true
AsRoom room (Full p) = room ≡ false
AsRoom room (Failed p) = room ≡ true
AsRoom room _ = Unit {0}

-- one value, the end, an error or want of memory
abbrev pub IsTold : Step → Type 0
IsTold Quiet = ⊥
IsTold (Looked p) = ⊥
IsTold (Turned p) = ⊥
IsTold (Full p) = ⊥
IsTold (Failed p) = ⊥
IsTold _ = Unit {0}

-- a step without a look or a turn brings the next look, turn or end nearer
abbrev pub Falls : Step → ℕ → ℕ → Type 0
Falls Quiet old new = new < old
Falls (Given v) old new = new < old
Falls _ old new = Unit {0}
