-- What pure parts tell, put together.
use Rattle.std.proofs.Common.{◌≡◌, ◌∙◌, ℤ, List, refl, sym, ap, subst}
use Rattle.bf_world.specs.declared.key.Key.{Key}
use Rattle.bf_world.specs.Worlds.{WorldState}
use Rattle.rel_lexer.specs.declared.place.Place.{Place}
use Rattle.rel_sources.specs.declared.scene.Scene.{Scene}
use Rattle.rel_value.specs.Plain.{Plain}
use Rattle.rel_trace.specs.declared.apply.Apply.{Apply}
use Rattle.rel_trace.specs.declared.apply.Apply.TheVariants as apply
use Rattle.rel_trace.specs.declared.one.One.TheVariants as one
use Rattle.rel_trace.specs.declared.step.Step.{Step}
use Rattle.rel_trace.specs.declared.step.Step.TheVariants as step
use Rattle.rel_trace.specs.Draws.{single}
use Rattle.rel_trace.specs.Ones.{applied, apply_kind, one_left, one_whole}
use Rattle.rel_trace.specs.Scopes.{Around, with_left}
use Rattle.rel_trace.specs.Steps.{Goes, IsTold}
use Rattle.rel_trace.specs.Trace.{Trace, none, one as only, each}
use Rattle.rel_trace.specs.Twos.{left_kind}
use Rattle.rel_nodes.specs.Core.{Core, two_core, core}
use Rattle.rel_nodes.proofs.Compositions.{follow_none}

-- what is left of a sign or a cast is all that it makes
pub apply_whole : (x : Apply) (a : Around) (offset : ℤ) (t : Trace) → one_left (one.Apply x) a offset t ≡ one_whole (apply_kind x) a offset t
apply_whole (apply.Negate p) a offset t = refl
apply_whole (apply.Not p) a offset t = refl
apply_whole (apply.Cast to p) a offset t = refl
apply_whole (apply.Sign g p) a offset t = refl
apply_whole (apply.Tuple j p) a offset t = refl

-- a second part after the one value of the first
pub joined_given : (w : WorldState) (s : Scene) (c d : Core) (a : Around) (v : Plain) → core w s c a ≡ only v → core w s (two_core left_kind c d) a ≡ core w s d (with_left a v)
joined_given w s c d a v e = ap (λ (t : Trace). each t (λ x. core w s d (with_left a x))) e ∙ follow_none (core w s d (with_left a v))

-- a first part that gives no value is all
pub joined_other : (x : Step) (l : List Key) (t : Trace) (f : Plain → Trace) → IsTold x → ((v : Plain) → x ≡ step.Given v → ⊥) → Goes l t x l none → Goes l (each t f) x l none
joined_other (step.Given v) l t f h not go = absurd (not v refl)
joined_other step.Over l t f h not go = (ap (λ (u : Trace). each u f) go.0, go.1)
joined_other (step.Erred k p) l t f h not go = (ap (λ (u : Trace). each u f) go.0, go.1)
joined_other step.Memory l t f h not go = go
joined_other _ l t f h not go = absurd h

-- the one value that is told, an error and want of memory are the single part's too
pub single_other : (x : Step) (l : List Key) (t : Trace) (p : Place) → IsTold x → (x ≡ step.Over → ⊥) → Goes l t x l none → Goes l (single p t) x l none
single_other (step.Given v) l t p h not go = (ap (single p) go.0, go.1)
single_other step.Over l t p h not go = absurd (not refl)
single_other (step.Erred k q) l t p h not go = (ap (single p) go.0, go.1)
single_other step.Memory l t p h not go = go
single_other _ l t p h not go = absurd h

-- a sign or a cast of the one value of its part is what it makes of that
pub applied_one : (x : Apply) (a : Around) (offset : ℤ) (v : Plain) (t : Trace) → t ≡ only v → one_whole (apply_kind x) a offset t ≡ applied x offset a.left v
applied_one x a offset v t e = sym (apply_whole x a offset t) ∙ ap (λ (u : Trace). each u (applied x offset a.left)) e ∙ follow_none (applied x offset a.left v)

-- and so what is told of it is told of the whole
pub applied_given : (x : Apply) (a : Around) (offset : ℤ) (v : Plain) (r : Step) (l : List Key) (t : Trace) → t ≡ only v → Goes l (applied x offset a.left v) r l none → Goes l (one_whole (apply_kind x) a offset t) r l none
applied_given x a offset v r l t e h = subst (λ (u : Trace). Goes l u r l none) (sym (applied_one x a offset v t e)) h

-- a part that gives no value is all that a sign or a cast makes of it
pub applied_other : (x : Apply) (a : Around) (offset : ℤ) (r : Step) (l : List Key) (t : Trace) → IsTold r → ((v : Plain) → r ≡ step.Given v → ⊥) → Goes l t r l none → Goes l (one_whole (apply_kind x) a offset t) r l none
applied_other x a offset r l t h not go =
    subst (λ (u : Trace). Goes l u r l none) (apply_whole x a offset t) (joined_other r l t (applied x offset a.left) h not go)
