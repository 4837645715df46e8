-- Traces that are joined: in which order they are put together makes no difference.
use Rattle.std.proofs.Common.{◌≡◌, Bool, true, false, if◌then◌else◌, refl, sym, ap, ◌∙◌}
use Rattle.rel_lexer.specs.declared.place.Place.{Place}
use Rattle.rel_value.specs.Plain.{Plain}
use Rattle.rel_trace.specs.declared.kind.RelKind.{RelKind}
use Rattle.rel_trace.specs.Kinds.{is_caught}
use Rattle.rel_trace.specs.Trace.{Stop, Error, Look, Turn, Give, Trace, Ends, After, none, follow, each}
use Rattle.rel_trace.specs.Joins.{barred}

pub follow_assoc : (t u v : Trace) → follow (follow t u) v ≡ follow t (follow u v)
follow_assoc (Ends Stop) u v = refl
follow_assoc (Ends (Error k p)) u v = refl
follow_assoc (After e t) u v = ap (After e) (follow_assoc t u v)

pub follow_none : (t : Trace) → follow t none ≡ t
follow_none (Ends Stop) = refl
follow_none (Ends (Error k p)) = refl
follow_none (After e t) = ap (After e) (follow_none t)

pub each_follow : (t u : Trace) (f : Plain → Trace) → each (follow t u) f ≡ follow (each t f) (each u f)
each_follow (Ends Stop) u f = refl
each_follow (Ends (Error k p)) u f = refl
each_follow (After (Look p k) t) u f = ap (After (Look p k)) (each_follow t u f)
each_follow (After (Turn p) t) u f = ap (After (Turn p)) (each_follow t u f)
each_follow (After (Give v) t) u f = ap (follow (f v)) (each_follow t u f) ∙ sym (follow_assoc (f v) (each t f) (each u f))

pub each_each : (t : Trace) (f g : Plain → Trace) → each (each t f) g ≡ each t (λ v. each (f v) g)
each_each (Ends e) f g = refl
each_each (After (Look p k) t) f g = ap (After (Look p k)) (each_each t f g)
each_each (After (Turn p) t) f g = ap (After (Turn p)) (each_each t f g)
each_each (After (Give v) t) f g = each_follow (f v) (each t f) g ∙ ap (follow (each (f v) g)) (each_each t f g)

bar_error : (b : Bool) (k : RelKind) (p : Place) (u v : Trace) → is_caught k ≡ b → barred (barred (Ends (Error k p)) u) v ≡ barred (Ends (Error k p)) (barred u v)
bar_error true k p u v e =
    ap (λ (c : Bool). barred (if c then u else Ends (Error k p)) v) e
    ∙ sym (ap (λ (c : Bool). if c then barred u v else Ends (Error k p)) e)
bar_error false k p u v e =
    ap (λ (c : Bool). barred (if c then u else Ends (Error k p)) v) e
    ∙ ap (λ (c : Bool). if c then v else Ends (Error k p)) e
    ∙ sym (ap (λ (c : Bool). if c then barred u v else Ends (Error k p)) e)

pub barred_assoc : (t u v : Trace) → barred (barred t u) v ≡ barred t (barred u v)
barred_assoc (Ends Stop) u v = refl
barred_assoc (Ends (Error k p)) u v = bar_error (is_caught k) k p u v refl
barred_assoc (After e t) u v = ap (After e) (barred_assoc t u v)
