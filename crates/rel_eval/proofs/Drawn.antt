-- What a cursor draws: on from where it stands, or again what it was drawn to.
use Rattle.std.proofs.Common.{ℕ, zero, suc, ◌≡◌, ◌≢◌, ◌+◌, List, [], ◌∷◌, ◌++◌, length, arith, refl, sym, ap, subst, ◌∙◌}
use Rattle.std.proofs.lemmas.List.{append-nil}
use Rattle.std.specs.declared.option.Option.{Option}
use Rattle.bf_world.specs.declared.key.Key.{Key}
use Rattle.rel_lexer.specs.declared.place.Place.{Place}
use Rattle.rel_trace.specs.declared.kind.RelKind.{RelKind}
use Rattle.rel_trace.specs.declared.step.Step.{Step}
use Rattle.rel_trace.specs.Steps.{Goes, LooksAt}
use Rattle.rel_trace.specs.Trace.{Stop, Error, Event, Look, Turn, Give, Trace, Ends, After}
use Rattle.rel_nodes.specs.Steps.{Advances, prepend, keys, gives}
use Rattle.rel_eval.specs.declared.cursor.Pulled.{Pulled}
use Rattle.rel_eval.specs.declared.cursor.Pulled.TheVariants as pulled
use Rattle.rel_eval.specs.declared.cursor.State.{State}
use Rattle.rel_eval.specs.declared.cursor.State.TheVariants.{Open, Over, Erred}
use Rattle.rel_eval.specs.Cuts.{cut}
use Rattle.rel_eval.specs.Cursors.{state_rest, after_pull, AsState}
use Rattle.rel_eval.specs.Pulls.{Draws, Pulls, Skips}
use Rattle.rel_eval.specs.Stops.{IsNotClosed, Meets}
use Rattle.rel_nodes.proofs.Stretches.{grows_none}
use Rattle.rel_eval.proofs.Skips.{same_skips}

-- looks and turns that were made are within the limit
cut_over : (es : List Event) (m n : ℕ) (u : Trace) → gives es ≡ [] → m ≡ length es + n → cut m (prepend es u) ≡ prepend es (cut n u)
cut_over [] m n u q e = ap (λ x. cut x u) (omega (arith, e))
cut_over (Look p k ∷ es) zero n u q e = absurd (omega (arith, e))
cut_over (Look p k ∷ es) (suc m) n u q e = ap (After (Look p k)) (cut_over es m n u q (omega (arith, e)))
cut_over (Turn p ∷ es) zero n u q e = absurd (omega (arith, e))
cut_over (Turn p ∷ es) (suc m) n u q e = ap (After (Turn p)) (cut_over es m n u q (omega (arith, e)))
cut_over (Give v ∷ es) m n u q e = absurd (let h : v ∷ gives es ≡ [] = q in cc)

-- up to where the node stopped
advance_skips : (a b : Option (List Key)) (n n' : ℕ) (t u : Trace) (s : Step) (h : Advances a n t s b n' u) → h.more ≡ [] → Skips (cut n t) (keys h.events ++ h.more) (cut n' h.next)
advance_skips a b n n' t u s h e =
    record {
      events = h.events;
      quiet = h.quiet;
      whole = ap (cut n) h.whole ∙ cut_over h.events n n' h.next h.quiet h.counted;
      looked = ap (λ x. keys h.events ++ x) e ∙ append-nil (keys h.events);
    }

-- a stretch, and the answer behind it, with the state that is left
meets_pulls : (t m u : Trace) (looks : List Key) (r : Pulled) → Skips t looks m → Meets m r u → Pulls t r looks (state_rest (after_pull r) u)
meets_pulls t m u looks (pulled.Value x) s h = subst (λ (y : Trace). Skips t looks y) h s
meets_pulls t m u looks pulled.End s h = (subst (λ (y : Trace). Skips t looks y) h s, refl)
meets_pulls t m u looks (pulled.Error k p) s h = (subst (λ (y : Trace). Skips t looks y) h s, refl)
meets_pulls t m u looks (pulled.Failed p) s h = (subst (λ (y : Trace). Skips t looks y) h.1 s, subst (λ (y : Trace). LooksAt p y) h.1 h.0)
meets_pulls t m u looks pulled.Memory s h = (m, s)
meets_pulls t m u looks pulled.Closed s h = absurd h

-- an open cursor's node advances, and stops
pub open_draws : (a b : Option (List Key)) (n n' : ℕ) (t u : Trace) (s : Step) (r : Pulled) (state state' : State) → state ≡ Open → state' ≡ after_pull r → Advances a n t s b n' u →
    ((v w : Trace) (looks : List Key) → Goes [] v s looks w → (looks ≡ []) × Meets (cut n' v) r (cut n' w)) → Draws a (state_rest state (cut n t)) r b (state_rest state' (cut n' u))
open_draws a b n n' t u s r state state' e e' h stops =
    let stop = stops h.next u h.more (h.goes []) in
    subst (λ (x : State). Draws a (state_rest x (cut n t)) r b (state_rest state' (cut n' u))) (sym e)
    (subst (λ (x : State). Draws a (cut n t) r b (state_rest x (cut n' u))) (sym e')
    (keys h.events ++ h.more, h.grows, meets_pulls (cut n t) (cut n' h.next) (cut n' u) (keys h.events ++ h.more) r (advance_skips a b n n' t u s h stop.0) stop.1))

not_closed : (r : Pulled) → IsNotClosed r → r ≢ pulled.Closed
not_closed r h e = let P : Pulled → Type 0 = λ x. IsNotClosed x in subst P e h

pub as_open : (s : State) (r : Pulled) → s ≡ Open → IsNotClosed r → AsState s r
as_open s r e h = subst (λ (x : State). AsState x r) (sym e) (not_closed r h)

-- the end stays
pub over_draws : (a : Option (List Key)) (s : State) (t : Trace) → s ≡ Over → Draws a (state_rest s t) pulled.End a (state_rest s t)
over_draws a s t e = subst (λ (x : State). Draws a (state_rest x t) pulled.End a (state_rest x t)) (sym e) ([], grows_none a, (same_skips (Ends Stop) (Ends Stop) [] refl refl, refl))

-- so does the error
pub erred_draws : (a : Option (List Key)) (s : State) (t : Trace) (k : RelKind) (p : Place) → s ≡ Erred k p → Draws a (state_rest s t) (pulled.Error k p) a (state_rest s t)
erred_draws a s t k p e = subst (λ (x : State). Draws a (state_rest x t) (pulled.Error k p) a (state_rest x t)) (sym e) ([], grows_none a, (same_skips (Ends (Error k p)) (Ends (Error k p)) [] refl refl, refl))

pub shut_draws : (a : Option (List Key)) (t u : Trace) → Draws a t pulled.Closed a u
shut_draws a t u = ([], grows_none a, refl)
