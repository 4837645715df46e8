-- From what the parts of a walk do to what the walk does.
use Rattle.std.proofs.Common.{◌≡◌, ℕ, Bool, true, List, [], ◌∷◌, Some, None, refl, sym, ap, subst, ◌∙◌}
use Rattle.std.specs.declared.option.Option.{Option}
use Rattle.std.proofs.lemmas.List.{append-nil}
use Rattle.bf_world.specs.declared.key.Key.{Key}
use Rattle.bf_world.specs.Worlds.{WorldState}
use Rattle.desk_base.specs.Counts.{CountsIf}
use Rattle.bf_machine.specs.Told.{Grows}
use Rattle.rel_inspect.specs.declared.descent.Ahead.{Ahead}
use Rattle.rel_inspect.specs.declared.descent.Ahead.TheVariants as ahead
use Rattle.rel_inspect.specs.declared.descent.Descent.{Descent}
use Rattle.rel_sources.specs.declared.event.WalkEvent.{WalkEvent}
use Rattle.rel_sources.specs.declared.event.WalkEvent.TheVariants as event
use Rattle.rel_sources.specs.declared.event.WalkStep.{WalkStep}
use Rattle.rel_sources.specs.declared.scene.Scene.{Scene}
use Rattle.rel_inspect.specs.declared.walk.State.{State}
use Rattle.rel_inspect.specs.declared.walk.State.TheVariants as state
use Rattle.rel_sources.specs.Traces.{Trace}
use Rattle.rel_sources.specs.Steps.{Moves, Goes, IsBeforeLook, has_failed, AsRoom, Steps, StepMoves, step_has_failed, GivesSound, StepGivesSound, IsStep, AsStep}
use Rattle.rel_inspect.specs.Descents.{ahead_left, key_of}
use Rattle.rel_inspect.specs.Left.{state_left, asked}

-- an event that is no look leaves the keys
pub moves-goes : (l : Option (List Key)) (t t' : Trace) (e : WalkEvent) → Moves t e t' → Goes l t e l t'
moves-goes l t t' event.Looked m = absurd m
moves-goes l t t' event.Turned m = (m, refl)
moves-goes l t t' (event.Given v) m = (m, refl)
moves-goes l t t' event.Over m = (m, refl)
moves-goes l t t' event.TextTooLong m = (m, refl)
moves-goes l t t' event.Full m = absurd m
moves-goes l t t' event.Failed m = absurd m
moves-goes l t t' event.Memory m = (m, refl)

-- and needs no cause
pub moves-cause : (n : ℕ) (t t' : Trace) (e : WalkEvent) → Moves t e t' → CountsIf (has_failed e) n n
moves-cause n t t' event.Looked m = absurd m
moves-cause n t t' event.Turned m = refl
moves-cause n t t' (event.Given v) m = refl
moves-cause n t t' event.Over m = refl
moves-cause n t t' event.TextTooLong m = refl
moves-cause n t t' event.Full m = absurd m
moves-cause n t t' event.Failed m = absurd m
moves-cause n t t' event.Memory m = refl

-- and no room
pub moves-room : (room : Bool) (t t' : Trace) (e : WalkEvent) → Moves t e t' → AsRoom room e
moves-room room t t' event.Looked m = absurd m
moves-room room t t' event.Turned m = tt
moves-room room t t' (event.Given v) m = tt
moves-room room t t' event.Over m = tt
moves-room room t t' event.TextTooLong m = tt
moves-room room t t' event.Full m = absurd m
moves-room room t t' event.Failed m = absurd m
moves-room room t t' event.Memory m = tt

-- and is one of a step's
pub moves-step : (t t' : Trace) (e : WalkEvent) → Moves t e t' → IsStep e
moves-step t t' event.Looked m = absurd m
moves-step t t' event.Turned m = tt
moves-step t t' (event.Given v) m = tt
moves-step t t' event.Over m = tt
moves-step t t' event.TextTooLong m = tt
moves-step t t' event.Full m = absurd m
moves-step t t' event.Failed m = absurd m
moves-step t t' event.Memory m = tt

ahead-look : (w : WorldState) (d : Descent) (a : Ahead) (k : Key) → key_of a ≡ Some k → IsBeforeLook (ahead_left w d a)
ahead-look w d ahead.Turn k e = cc
ahead-look w d (ahead.File path) k e = cc
ahead-look w d (ahead.Look key) k e = (key, _, refl)

-- a walk that asks stands before a look
pub asked-look : (st : State) (w : WorldState) (s : Scene) (k : Key) → asked st ≡ Some k → IsBeforeLook (state_left st w s)
asked-look (state.LooksAt key facet) w s k e = (key, _, refl)
asked-look (state.Lists key listing) w s k e = (key, _, refl)
asked-look (state.Once o) w s k e = cc
asked-look (state.Turns t) w s k e = cc
asked-look (state.Descends d) w s k e = ahead-look w d d.ahead k e

-- a told list that grows by nothing stays
pub grows-none : {T : Type 0} (l l' : Option (List T)) → Grows l l' [] → l' ≡ l
grows-none None l' h = h
grows-none (Some xs) None h = absurd h
grows-none (Some xs) (Some ys) h = ap Some (h ∙ append-nil xs)

grows-same : {T : Type 0} (l : Option (List T)) → Grows l l []
grows-same None = refl
grows-same (Some xs) = sym (append-nil xs)

grows-from : {T : Type 0} (l l' : Option (List T)) → l' ≡ l → Grows l l' []
grows-from l l' e = subst (λ k. Grows l k []) (sym e) (grows-same l)

-- an event that is no look, as a step
moves-as : (t t' : Trace) (e : WalkEvent) (s : WalkStep) → Moves t e t' → AsStep e s → StepMoves t s t'
moves-as t t' event.Looked s m same = absurd m
moves-as t t' event.Turned s m same = subst (λ (x : WalkStep). StepMoves t x t') (sym same) m
moves-as t t' (event.Given v) s m same = subst (λ (x : WalkStep). StepMoves t x t') (sym same) m
moves-as t t' event.Over s m same = subst (λ (x : WalkStep). StepMoves t x t') (sym same) m
moves-as t t' event.TextTooLong s m same = subst (λ (x : WalkStep). StepMoves t x t') (sym same) m
moves-as t t' event.Full s m same = absurd m
moves-as t t' event.Failed s m same = absurd m
moves-as t t' event.Memory s m same = subst (λ (x : WalkStep). StepMoves t x t') (sym same) m

-- a look, and then an event that is none
pub look-then : (l l' : Option (List Key)) (t u t' : Trace) (e : WalkEvent) (s : WalkStep) → Goes l t event.Looked l' u → Moves u e t' → AsStep e s → Steps l t s l' t'
look-then l l' t u t' e s look m same = (look.0 ∷ [], u, look.1, look.2, moves-as u t' e s m same)

plain-step : (l l' : Option (List Key)) (t t' : Trace) (e : WalkEvent) (s : WalkStep) → Moves t e t' × (l' ≡ l) → AsStep e s → Steps l t s l' t'
plain-step l l' t t' e s h same = ([], t, refl, grows-from l l' h.1, moves-as t t' e s h.0 same)

-- an event of a step by itself
pub event-then : (l l' : Option (List Key)) (t t' : Trace) (e : WalkEvent) (s : WalkStep) → Goes l t e l' t' → IsStep e → AsStep e s → Steps l t s l' t'
event-then l l' t t' event.Looked s h is same = absurd is
event-then l l' t t' event.Turned s h is same = plain-step l l' t t' event.Turned s h same
event-then l l' t t' (event.Given v) s h is same = plain-step l l' t t' (event.Given v) s h same
event-then l l' t t' event.Over s h is same = plain-step l l' t t' event.Over s h same
event-then l l' t t' event.TextTooLong s h is same = plain-step l l' t t' event.TextTooLong s h same
event-then l l' t t' event.Full s h is same = absurd is
event-then l l' t t' event.Failed s h is same = ([], t, refl, grows-from l l' h.2, subst (λ (x : WalkStep). StepMoves t x t') (sym same) (h.0, h.1))
event-then l l' t t' event.Memory s h is same = plain-step l l' t t' event.Memory s h same

pub cause-as : (a b : ℕ) (e : WalkEvent) (s : WalkStep) → CountsIf (has_failed e) a b → IsStep e → AsStep e s → CountsIf (step_has_failed s) a b
cause-as a b event.Looked s h is same = absurd is
cause-as a b event.Turned s h is same = subst (λ (x : WalkStep). CountsIf (step_has_failed x) a b) (sym same) h
cause-as a b (event.Given v) s h is same = subst (λ (x : WalkStep). CountsIf (step_has_failed x) a b) (sym same) h
cause-as a b event.Over s h is same = subst (λ (x : WalkStep). CountsIf (step_has_failed x) a b) (sym same) h
cause-as a b event.TextTooLong s h is same = subst (λ (x : WalkStep). CountsIf (step_has_failed x) a b) (sym same) h
cause-as a b event.Full s h is same = absurd is
cause-as a b event.Failed s h is same = subst (λ (x : WalkStep). CountsIf (step_has_failed x) a b) (sym same) h
cause-as a b event.Memory s h is same = subst (λ (x : WalkStep). CountsIf (step_has_failed x) a b) (sym same) h

pub sound-as : (e : WalkEvent) (s : WalkStep) → GivesSound e → IsStep e → AsStep e s → StepGivesSound s
sound-as event.Looked s h is same = absurd is
sound-as event.Turned s h is same = subst StepGivesSound (sym same) tt
sound-as (event.Given v) s h is same = subst StepGivesSound (sym same) h
sound-as event.Over s h is same = subst StepGivesSound (sym same) tt
sound-as event.TextTooLong s h is same = subst StepGivesSound (sym same) tt
sound-as event.Full s h is same = absurd is
sound-as event.Failed s h is same = subst StepGivesSound (sym same) tt
sound-as event.Memory s h is same = subst StepGivesSound (sym same) tt

-- and is no look
pub moves-quiet : (t t' : Trace) (e : WalkEvent) → Moves t e t' → e ≡ event.Looked → ⊥
moves-quiet t t' e m same = subst (λ (x : WalkEvent). Moves t x t') same m

-- An event that is no look, where there was room for one, is one of a step's.
pub with-room : (e : WalkEvent) → AsRoom true e → (e ≡ event.Looked → ⊥) → IsStep e
with-room event.Looked room other = other refl
with-room event.Turned room other = tt
with-room (event.Given v) room other = tt
with-room event.Over room other = tt
with-room event.TextTooLong room other = tt
with-room event.Full room other = cc
with-room event.Failed room other = tt
with-room event.Memory room other = tt

-- a look and then an event that is none need no cause
pub cause-then : (a b : ℕ) (t t' : Trace) (e : WalkEvent) (s : WalkStep) → b ≡ a → Moves t e t' → AsStep e s → CountsIf (step_has_failed s) a b
cause-then a b t t' e s same m of_event =
    cause-as a b e s (subst (λ (n : ℕ). CountsIf (has_failed e) a n) (sym same) (moves-cause a t t' e m)) (moves-step t t' e m) of_event
