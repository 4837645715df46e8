-- Pulls, one after another, use up a trace.
use Rattle.std.proofs.Common.{◌≡◌, ◌++◌, List, [], ◌∷◌, inl, inr, refl, sym, ap, subst, ◌∙◌}
use Rattle.std.proofs.lemmas.List.{append-nil}
use Rattle.std.specs.declared.option.Option.{Option}
use Rattle.bf_machine.specs.Told.{Grows}
use Rattle.bf_world.specs.declared.key.Key.{Key}
use Rattle.rel_lexer.specs.declared.place.Place.{Place}
use Rattle.rel_value.specs.Views.{shown}
use Rattle.rel_value.specs.declared.value.Value.{Value}
use Rattle.rel_trace.specs.declared.kind.RelKind.{RelKind}
use Rattle.rel_eval.specs.declared.cursor.Pulled.TheVariants as pulled
use Rattle.rel_eval.specs.declared.taker.Ended.TheVariants as ended
use Rattle.rel_value.specs.Plain.{Plain}
use Rattle.rel_trace.specs.Trace.{Stop, Error, Event, Give, Trace, Ends, After}
use Rattle.rel_nodes.specs.Steps.{prepend, keys, gives}
use Rattle.rel_eval.specs.declared.taker.Take.{Take}
use Rattle.rel_eval.specs.declared.taker.Take.TheVariants as take
use Rattle.rel_eval.specs.Answers.{Answers, Takes, Took, Uses, UsesToLast}
use Rattle.rel_eval.specs.Pulls.{Draws, Skips}
use Rattle.rel_nodes.proofs.Stretches.{prepend_append, keys_append, gives_append, grows_none, grows_grows}
use Rattle.rel_eval.proofs.Skips.{same_skips}

-- one value more
pub took_more : {T : Type 0} (takes : Takes T) (old t new : T) (vs : List Plain) (v : Plain) → Took takes old vs t → takes t v take.More new → Took takes old (vs ++ v ∷ []) new
took_more {T} takes old t new [] v h m = (new, subst (λ (x : T). takes x v take.More new) h m, refl)
took_more {T} takes old t new (x ∷ xs) v h m = (h.0, h.1, took_more takes h.0 t new xs v h.2 m)

-- nothing used
pub uses_none : {T : Type 0} (takes : Takes T) (t : Trace) (old : T) → Uses takes t old [] t old
uses_none takes t old = record { events = []; whole = refl; looked = refl; handed = refl }

no_gives : (es fs : List Event) → gives fs ≡ [] → gives (es ++ fs) ≡ gives es
no_gives es fs e = gives_append es fs ∙ ap (λ x. gives es ++ x) e ∙ append-nil (gives es)

-- a stretch without a value hands nothing over
pub uses_skips : {T : Type 0} (takes : Takes T) (t u v : Trace) (old new : T) (m n : List Key) → Uses takes t old m u new → Skips u n v → Uses takes t old (m ++ n) v new
uses_skips takes t u v old new m n a s =
    record {
      events = a.events ++ s.events;
      whole = a.whole ∙ ap (prepend a.events) s.whole ∙ sym (prepend_append a.events s.events v);
      looked = ap (λ x. x ++ n) a.looked ∙ ap (λ x. keys a.events ++ x) s.looked ∙ sym (keys_append a.events s.events);
      handed = subst (λ (x : List Plain). Took takes old x new) (sym (no_gives a.events s.events s.quiet)) a.handed;
    }

-- with the value behind it, after which the taker asks for more
pub uses_value : {T : Type 0} (takes : Takes T) (t u v : Trace) (old mid new : T) (m n : List Key) (x : Plain) → Uses takes t old m u mid → Skips u n (After (Give x) v) → takes mid x take.More new → Uses takes t old (m ++ n) v new
uses_value takes t u v old mid new m n x a s h =
    let b = uses_skips takes t u (After (Give x) v) old mid m n a s in
    record {
      events = b.events ++ Give x ∷ [];
      whole = b.whole ∙ sym (prepend_append b.events (Give x ∷ []) v);
      looked = b.looked ∙ sym (append-nil (keys b.events)) ∙ sym (keys_append b.events (Give x ∷ []));
      handed = subst (λ (y : List Plain). Took takes old y new) (sym (gives_append b.events (Give x ∷ []))) (took_more takes old mid new (gives b.events) x b.handed h);
    }

-- with the value behind it, after which the taker answers so
pub uses_last : {T : Type 0} (takes : Takes T) (t u v : Trace) (old mid new : T) (m n : List Key) (x : Plain) (answer : Take) → Uses takes t old m u mid → Skips u n (After (Give x) v) → takes mid x answer new → UsesToLast takes t old answer (m ++ n) new
uses_last takes t u v old mid new m n x answer a s h =
    let b = uses_skips takes t u (After (Give x) v) old mid m n a s in
    record { events = b.events; last = x; later = v; whole = b.whole; looked = b.looked; handed = (mid, b.handed, h) }

-- what was used up so far, with the looks that a machine tells
abbrev pub SoFar : {T : Type 0} → Takes T → Option (List Key) → Trace → T → Option (List Key) → Trace → T → Type 0
SoFar takes a t old b u new = (looks : List Key) × Grows a b looks × Uses takes t old looks u new

pub so_none : {T : Type 0} (takes : Takes T) (a : Option (List Key)) (t u : Trace) (old : T) → u ≡ t → SoFar takes a t old a u old
so_none takes a t u old e = ([], grows_none a, record { events = []; whole = sym e; looked = refl; handed = refl })

pub so_value : {T : Type 0} (takes : Takes T) (a b c : Option (List Key)) (t u v : Trace) (old mid new : T) (x : Value) → SoFar takes a t old b u mid → Draws b u (pulled.Value x) c v → takes mid (shown x) take.More new → SoFar takes a t old c v new
so_value takes a b c t u v old mid new x s d h = (s.0 ++ d.0, grows_grows a b c s.0 d.0 s.1 d.1, uses_value takes t u v old mid new s.0 d.0 (shown x) s.2 d.2 h)

pub so_enough : {T : Type 0} (takes : Takes T) (a b c : Option (List Key)) (t u v : Trace) (old mid new : T) (x : Value) → SoFar takes a t old b u mid → Draws b u (pulled.Value x) c v → takes mid (shown x) take.Enough new → Answers takes a t old ended.Enough c new
so_enough takes a b c t u v old mid new x s d h = (s.0 ++ d.0, grows_grows a b c s.0 d.0 s.1 d.1, uses_last takes t u v old mid new s.0 d.0 (shown x) take.Enough s.2 d.2 h)

pub so_unable : {T : Type 0} (takes : Takes T) (a b c : Option (List Key)) (t u v : Trace) (old mid new : T) (x : Value) → SoFar takes a t old b u mid → Draws b u (pulled.Value x) c v → takes mid (shown x) take.Memory new → Answers takes a t old ended.Memory c new
so_unable takes a b c t u v old mid new x s d h = (s.0 ++ d.0, grows_grows a b c s.0 d.0 s.1 d.1, inr (uses_last takes t u v old mid new s.0 d.0 (shown x) take.Memory s.2 d.2 h))

pub so_end : {T : Type 0} (takes : Takes T) (a b c : Option (List Key)) (t u v : Trace) (old mid : T) → SoFar takes a t old b u mid → Draws b u pulled.End c v → Answers takes a t old ended.Stop c mid
so_end takes a b c t u v old mid s d = (s.0 ++ d.0, grows_grows a b c s.0 d.0 s.1 d.1, uses_skips takes t u (Ends Stop) old mid s.0 d.0 s.2 d.2.0)

pub so_error : {T : Type 0} (takes : Takes T) (a b c : Option (List Key)) (t u v : Trace) (old mid : T) (k : RelKind) (p : Place) → SoFar takes a t old b u mid → Draws b u (pulled.Error k p) c v → Answers takes a t old (ended.Error k p) c mid
so_error takes a b c t u v old mid k p s d = (s.0 ++ d.0, grows_grows a b c s.0 d.0 s.1 d.1, uses_skips takes t u (Ends (Error k p)) old mid s.0 d.0 s.2 d.2.0)

pub so_failed : {T : Type 0} (takes : Takes T) (a b c : Option (List Key)) (t u v : Trace) (old mid : T) (p : Place) → SoFar takes a t old b u mid → Draws b u (pulled.Failed p) c v → Answers takes a t old (ended.Failed p) c mid
so_failed takes a b c t u v old mid p s d = (s.0 ++ d.0, grows_grows a b c s.0 d.0 s.1 d.1, (v, uses_skips takes t u v old mid s.0 d.0 s.2 d.2.0, d.2.1))

pub so_memory : {T : Type 0} (takes : Takes T) (a b c : Option (List Key)) (t u v : Trace) (old mid : T) → SoFar takes a t old b u mid → Draws b u pulled.Memory c v → Answers takes a t old ended.Memory c mid
so_memory takes a b c t u v old mid s d = (s.0 ++ d.0, grows_grows a b c s.0 d.0 s.1 d.1, inl (d.2.0, uses_skips takes t u d.2.0 old mid s.0 d.0 s.2 d.2.1))

pub so_closed : {T : Type 0} (takes : Takes T) (a b c : Option (List Key)) (t u v : Trace) (old mid : T) → SoFar takes a t old b u mid → Draws b u pulled.Closed c v → Answers takes a t old ended.Memory c mid
so_closed takes a b c t u v old mid s d = (s.0 ++ d.0, grows_grows a b c s.0 d.0 s.1 d.1, inl (u, uses_skips takes t u u old mid s.0 d.0 s.2 (same_skips u u d.0 refl d.2)))

pub so_unopened : {T : Type 0} (takes : Takes T) (a : Option (List Key)) (t : Trace) (old : T) → Answers takes a t old ended.Memory a old
so_unopened takes a t old = ([], grows_none a, inl (t, uses_none takes t old))
