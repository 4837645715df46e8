-- What follows a row's result, and how a step of a part goes through it.
use Rattle.std.proofs.Common.{◌≡◌, false, List, refl, sym, ap, subst, ◌∙◌}
use Rattle.rel_lexer.specs.declared.place.Place.{Place}
use Rattle.bf_world.specs.declared.key.Key.{Key}
use Rattle.rel_value.specs.Plain.{Plain}
use Rattle.rel_value.specs.Outcomes.{Outcome, gives, fails, no_row}
use Rattle.rel_trace.specs.declared.step.Step.{Step}
use Rattle.rel_trace.specs.declared.step.Step.TheVariants.{Given}
use Rattle.rel_trace.specs.Trace.{Give, Trace, After, follow, each, result_at}
use Rattle.rel_trace.specs.Steps.{Goes, has_failed}

pub result-follow : (p : Place) (o : Outcome) (t u : Trace) → follow (follow (result_at p o) t) u ≡ follow (result_at p o) (follow t u)
result-follow p (gives v) t u = refl
result-follow p (fails why) t u = refl
result-follow p no_row t u = refl

-- what a step says that gives an outcome's value, or its fault
abbrev pub Results : Place → Outcome → Step → Type 0
Results p o r = (l : List Key) (t : Trace) → Goes l (follow (result_at p o) t) r l t

-- a value of a part becomes what a row gives for it
pub applied-goes : (p : Place) (g : Plain → Outcome) (v : Plain) (l l' : List Key) (t t' : Trace) (r : Step) →
    Results p (g v) r → Goes l t (Given v) l' t' → Goes l (each t (λ y. result_at p (g y))) r l' (each t' (λ y. result_at p (g y)))
applied-goes p g v l l' t t' r h k =
    let f : Plain → Trace = λ y. result_at p (g y) in
    subst (λ (x : Trace). Goes l (each x f) r l' (each t' f)) (sym k.0)
    (subst (λ (m : List Key). Goes l (each (After (Give v) t') f) r m (each t' f)) (sym k.1) (h l (each t' f)))

-- what is made of a value is no look that failed
pub given-failed : (x : Step) (v : Plain) (r : Step) → x ≡ Given v → has_failed r ≡ false → has_failed r ≡ has_failed x
given-failed x v r e h = h ∙ sym (ap has_failed e)
