-- How a step that gives a value goes through an aggregate.
use Rattle.std.proofs.Common.{◌≡◌, Bool, false, List, Option, Some, sym, subst}
use Rattle.rel_lexer.specs.declared.place.Place.{Place}
use Rattle.bf_world.specs.declared.key.Key.{Key}
use Rattle.rel_value.specs.Plain.{Plain}
use Rattle.rel_trace.specs.declared.fold.Fold.{Fold}
use Rattle.rel_trace.specs.declared.step.Step.{Step}
use Rattle.rel_trace.specs.declared.step.Step.TheVariants.{Given}
use Rattle.rel_trace.specs.Trace.{Give, Trace, After}
use Rattle.rel_trace.specs.Folds.{more, folded, onward}
use Rattle.rel_trace.specs.Ones.{unless}
use Rattle.rel_trace.specs.Steps.{Goes}

-- what is said of the value that comes, said of the step that gives it
pub folding-goes : (fold : Fold) (place : Place) (held taken : Option Plain) (done : Bool) (separator : Option Plain) (v : Plain) (step r : Step) (u : Trace) (l l' : List Key) (t t' : Trace) →
    done ≡ false → taken ≡ held → step ≡ Given v →
    Goes l (onward fold place (more fold separator taken v) (λ h. folded fold separator place (Some h) t')) r l u →
    Goes l t step l' t' → Goes l (unless done (folded fold separator place held t)) r l' u
folding-goes fold place held taken done separator v step r u l l' t t' d w e after h =
    let k : Goes l t (Given v) l' t' = subst (λ (s : Step). Goes l t s l' t') e h in
    subst (λ (b : Bool). Goes l (unless b (folded fold separator place held t)) r l' u) (sym d)
    (subst (λ (o : Option Plain). Goes l (folded fold separator place o t) r l' u) w
    (subst (λ (x : Trace). Goes l (folded fold separator place taken x) r l' u) (sym k.0)
    (subst (λ (m : List Key). Goes l (folded fold separator place taken (After (Give v) t')) r m u) (sym k.1) after)))
