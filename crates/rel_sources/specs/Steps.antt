-- One event of what gives a trace, and one step of a walk.
use Rattle.std.specs.Prelude.{◌≡◌, ℕ, ◌<◌, Bool, true, false, List, [], ◌∷◌, ⊤}
use Rattle.std.specs.declared.option.Option.{Option}
use Rattle.bf_world.specs.declared.key.Key.{Key}
use Rattle.bf_machine.specs.Told.{Grows}
use Rattle.rel_value.specs.Operands.{IsSound}
use Rattle.rel_value.specs.Views.{shown}
use Rattle.rel_sources.specs.declared.event.WalkEvent.{WalkEvent}
use Rattle.rel_sources.specs.declared.event.WalkEvent.TheVariants as event
use Rattle.rel_sources.specs.declared.event.WalkStep.{WalkStep}
use Rattle.rel_sources.specs.declared.event.WalkStep.TheVariants as step
use Rattle.rel_sources.specs.Traces.{Trace, Ends, After, Stop, TooLong, Look, Turn, Give}

-- An event that is no look takes the trace that was left to the one that is left now. At its end it stays.
abbrev pub Moves : Trace → WalkEvent → Trace → Type 0
Moves t event.Turned t' = t ≡ After Turn t'
Moves t (event.Given v) t' = t ≡ After (Give (shown v)) t'
Moves t event.Over t' = (t ≡ Ends Stop) × (t' ≡ Ends Stop)
Moves t event.TextTooLong t' = (t ≡ Ends TooLong) × (t' ≡ Ends TooLong)
Moves t event.Memory t' = ⊤
Moves t _ t' = ⊥

-- The next event is a look.
abbrev pub IsBeforeLook : Trace → Type 0
IsBeforeLook t = (key : Key) × (u : Trace) × (t ≡ After (Look key) u)

-- An event takes the keys that were looked up and the trace that was left to those of now. Where a look failed, or there was no
-- room for one, all stays.
abbrev pub Goes : Option (List Key) → Trace → WalkEvent → Option (List Key) → Trace → Type 0
Goes l t event.Looked l' t' = (key : Key) × (t ≡ After (Look key) t') × Grows l l' (key ∷ [])
Goes l t event.Full l' t' = IsBeforeLook t × (t' ≡ t) × (l' ≡ l)
Goes l t event.Failed l' t' = IsBeforeLook t × (t' ≡ t) × (l' ≡ l)
Goes l t e l' t' = Moves t e t' × (l' ≡ l)

-- a look failed
abbrev pub has_failed : WalkEvent → Bool
has_failed event.Failed = true
has_failed _ = false

-- A look is made, or fails, only where there is room for it, and lacks room only where there is none.
abbrev pub AsRoom : Bool → WalkEvent → Type 0
AsRoom room event.Looked = room ≡ true
AsRoom room event.Failed = room ≡ true
AsRoom room event.Full = room ≡ false
AsRoom room _ = ⊤

-- A value brings nearer the next look or turn.
abbrev pub Falls : WalkEvent → ℕ → ℕ → Type 0
Falls (event.Given v) old new = new < old
Falls _ old new = ⊤

-- A value that is given is sound.
abbrev pub GivesSound : WalkEvent → Type 0
GivesSound (event.Given v) = IsSound (shown v)
GivesSound _ = ⊤

-- the looks of these keys, and then the rest
abbrev pub after_looks : List Key → Trace → Trace
after_looks [] t = t
after_looks (key ∷ keys) t = After (Look key) (after_looks keys t)

-- What a step does behind its looks. At a failed look the trace stands before it.
abbrev pub StepMoves : Trace → WalkStep → Trace → Type 0
StepMoves t step.Turn t' = t ≡ After Turn t'
StepMoves t (step.Give v) t' = t ≡ After (Give (shown v)) t'
StepMoves t step.End t' = (t ≡ Ends Stop) × (t' ≡ Ends Stop)
StepMoves t step.TextTooLong t' = (t ≡ Ends TooLong) × (t' ≡ Ends TooLong)
StepMoves t step.Failed t' = IsBeforeLook t × (t' ≡ t)
StepMoves t step.Memory t' = ⊤

-- A step makes the looks that come first, and adds their keys.
abbrev pub Steps : Option (List Key) → Trace → WalkStep → Option (List Key) → Trace → Type 0
Steps l t s l' t' = (keys : List Key) × (u : Trace) × (t ≡ after_looks keys u) × Grows l l' keys × StepMoves u s t'

abbrev pub step_has_failed : WalkStep → Bool
step_has_failed step.Failed = true
step_has_failed _ = false

abbrev pub StepGivesSound : WalkStep → Type 0
StepGivesSound (step.Give v) = IsSound (shown v)
StepGivesSound _ = ⊤

-- The event is one of a step's, which makes its looks itself.
abbrev pub IsStep : WalkEvent → Type 0
IsStep event.Looked = ⊥
IsStep event.Full = ⊥
IsStep _ = ⊤

-- The step is that of the event.
abbrev pub AsStep : WalkEvent → WalkStep → Type 0
AsStep event.Turned s = s ≡ step.Turn
AsStep (event.Given v) s = s ≡ step.Give v
AsStep event.Over s = s ≡ step.End
AsStep event.TextTooLong s = s ≡ step.TextTooLong
AsStep event.Failed s = s ≡ step.Failed
AsStep event.Memory s = s ≡ step.Memory
AsStep _ s = ⊥
