-- How a step of a part becomes a step of the form around it.
use Rattle.std.proofs.Common.{inl, inr, ◌≡◌, ◌≤◌, ◌<◌, ◌+◌, ◌*◌, ◌⊎◌, ℕ, List, [], ◌∷◌, ◌++◌, arith, ap, sym, refl, subst, ◌∙◌}
use Rattle.std.specs.Prelude.{length}
use Rattle.std.proofs.lemmas.List.{append-nil, append_assoc, length-append}
use Rattle.std.proofs.Math.Nat.{eq-or-lt_of_le}
use Rattle.std.specs.declared.option.Option.{Option}
use Rattle.bf_machine.specs.Told.{Grows}
use Rattle.bf_world.specs.declared.key.Key.{Key}
use Rattle.rel_lexer.specs.declared.place.Place.{Place}
use Rattle.rel_trace.specs.declared.step.Step.{Step}
use Rattle.rel_trace.specs.declared.step.Step.TheVariants as step
use Rattle.rel_trace.specs.Trace.{Event, Look, Turn, Trace, After}
use Rattle.rel_trace.specs.Steps.{Falls, Goes}
use Rattle.rel_nodes.proofs.Stretches.{prepend_append, keys_append, gives_append, grows_none, grows_grows}
use Rattle.rel_nodes.specs.Steps.{Advances, PassedOver, Went, gives, keys, prepend}

-- without a look
pub went_same : (l l' : Option (List Key)) (t t' : Trace) (r : Step) → l' ≡ l → ((m : List Key) → Goes m t r m t') → Went l t r l' t'
went_same l l' t t' r e h =
    subst (λ (k : Option (List Key)). Went l t r k t') (sym e)
    ([], grows_none l, λ m. subst (λ (x : List Key). Goes m t r x t') (sym (append-nil m)) (h m))

-- one step
pub went_once : (old new : Option (List Key)) (n : ℕ) (t t' : Trace) (r : Step) → Went old t r new t' → Advances old n t r new n t'
went_once old new n t t' r h = record { events = []; quiet = refl; counted = omega arith; next = t; whole = refl; more = h.0; grows = h.1; goes = h.2 }

-- nothing yet
pub advance_none : (l : Option (List Key)) (n : ℕ) (t : Trace) → Advances l n t step.Quiet l n t
advance_none l n t = went_once l l n t t step.Quiet ([], grows_none l, λ m. (refl, append-nil m))

-- the looks of two stretches, and then those of a step
all_keys : (es fs : List Event) (more : List Key) → keys es ++ (keys fs ++ more) ≡ keys (es ++ fs) ++ more
all_keys es fs more = sym (append_assoc (keys es) (keys fs) more) ∙ ap (λ x. x ++ more) (sym (keys_append es fs))

-- after looks and turns that were made
pub advance_then : (a b c : Option (List Key)) (n m k : ℕ) (t u v : Trace) (r : Step) → Advances a n t step.Quiet b m u → Advances b m u r c k v → Advances a n t r c k v
advance_then a b c n m k t u v r h g =
    let still : h.next ≡ u = (h.goes []).0 in
    let none : h.more ≡ [] = (h.goes []).1 in
    record {
      events = h.events ++ g.events;
      quiet = gives_append h.events g.events ∙ ap (λ x. x ++ gives g.events) h.quiet ∙ g.quiet;
      counted = omega (arith, h.counted, g.counted, length-append h.events g.events);
      next = g.next;
      whole = h.whole ∙ ap (prepend h.events) (still ∙ g.whole) ∙ sym (prepend_append h.events g.events g.next);
      more = g.more;
      grows = subst (λ (x : List Key). Grows a c x) (all_keys h.events g.events g.more) (grows_grows a b c (keys h.events) (keys g.events ++ g.more) (subst (λ (x : List Key). Grows a b x) (ap (λ x. keys h.events ++ x) none ∙ append-nil (keys h.events)) h.grows) g.grows);
      goes = g.goes;
    }

-- a stretch and one more look or turn
one_more : (a b : Option (List Key)) (n m k : ℕ) (t u : Trace) (es : List Event) (e : Event) → gives es ≡ [] → gives (e ∷ []) ≡ [] → n ≡ length es + m → k + 1 ≡ m → t ≡ prepend es (After e u) → Grows a b (keys es ++ keys (e ∷ [])) → Advances a n t step.Quiet b k u
one_more a b n m k t u es e quiet none counted one whole grows =
    record {
      events = es ++ (e ∷ []);
      quiet = gives_append es (e ∷ []) ∙ ap (λ x. x ++ gives (e ∷ [])) quiet ∙ none;
      counted = omega (arith, counted, one, length-append es (e ∷ []));
      next = u;
      whole = whole ∙ sym (prepend_append es (e ∷ []) u);
      more = [];
      grows = subst (λ (x : List Key). Grows a b x) (sym (keys_append es (e ∷ [])) ∙ sym (append-nil (keys (es ++ (e ∷ []))))) grows;
      goes = λ l. (refl, append-nil l);
    }

-- a look that is counted
pub advance_look : (a b : Option (List Key)) (n m k : ℕ) (t u : Trace) (p : Place) → k + 1 ≡ m → Advances a n t (step.Looked p) b m u → Advances a n t step.Quiet b k u
advance_look a b n m k t u p one h =
    let key = (h.goes []).0 in
    one_more a b n m k t u h.events (Look p key) h.quiet refl h.counted one (h.whole ∙ ap (prepend h.events) (h.goes []).1)
    (subst (λ (x : List Key). Grows a b (keys h.events ++ x)) (h.goes []).2 h.grows)

-- a turn that is counted
pub advance_turn : (a b : Option (List Key)) (n m k : ℕ) (t u : Trace) (p : Place) → k + 1 ≡ m → Advances a n t (step.Turned p) b m u → Advances a n t step.Quiet b k u
advance_turn a b n m k t u p one h =
    one_more a b n m k t u h.events (Turn p) h.quiet refl h.counted one (h.whole ∙ ap (prepend h.events) (h.goes []).0)
    (subst (λ (x : List Key). Grows a b (keys h.events ++ x)) (h.goes []).1 h.grows)

-- a step that is passed over
pub advance_over : (a b : Option (List Key)) (n m k : ℕ) (t u : Trace) (r : Step) → PassedOver m r k → Advances a n t r b m u → Advances a n t step.Quiet b k u
advance_over a b n m k t u step.Quiet e h = subst (λ (x : ℕ). Advances a n t step.Quiet b x u) (sym e) h
advance_over a b n m k t u (step.Looked p) e h = advance_look a b n m k t u p (sym e) h
advance_over a b n m k t u (step.Turned p) e h = advance_turn a b n m k t u p (sym e) h
advance_over a b n m k t u _ e h = absurd e

-- none is made more
pub over_within : (r : Step) (m k : ℕ) → PassedOver m r k → k ≤ m
over_within step.Quiet m k e = omega (arith, e)
over_within (step.Looked p) m k e = omega (arith, e)
over_within (step.Turned p) m k e = omega (arith, e)
over_within _ m k e = absurd e

-- where none was made it was a quiet one
pub over_falls : (r : Step) (n m k q q' : ℕ) → m ≤ n → PassedOver m r k → (m ≡ n → Falls r q q') → k ≡ n → q' < q
over_falls step.Quiet n m k q q' h e f z = f (omega (arith, e, z))
over_falls (step.Looked p) n m k q q' h e f z = absurd (omega (arith, h, e, z))
over_falls (step.Turned p) n m k q q' h e f z = absurd (omega (arith, h, e, z))
over_falls _ n m k q q' h e f z = absurd e

mul_mono : (a b c : ℕ) → a ≤ b → a * c ≤ b * c
mul_mono a b c h = grind arith

less_by_one : (n m most q r : ℕ) → m < n → r ≤ most → m * (most + 1) + r < n * (most + 1) + q
less_by_one n m most q r h k = omega (arith, k, mul_mono (m + 1) n (most + 1) (omega (arith, h)))

same_or_less : (n m most q r : ℕ) → (m ≡ n → r < q) → r ≤ most → (m ≡ n) ⊎ (m < n) → m * (most + 1) + r < n * (most + 1) + q
same_or_less n m most q r f k (inl e) = omega (arith, f e, ap (λ x. x * (most + 1)) e)
same_or_less n m most q r f k (inr l) = less_by_one n m most q r l k

-- a look or a turn outweighs all that is quiet
pub nearer : (n m most q r : ℕ) → m ≤ n → (m ≡ n → r < q) → r ≤ most → m * (most + 1) + r < n * (most + 1) + q
nearer n m most q r h f k = same_or_less n m most q r f k (eq-or-lt_of_le h)

-- from further away
pub falls_then : (r : Step) (a b c : ℕ) → b ≤ a → Falls r b c → Falls r a c
falls_then step.Quiet a b c h k = omega (arith, h, k)
falls_then (step.Given v) a b c h k = omega (arith, h, k)
falls_then _ a b c h k = tt

-- to what is nearer still
pub falls_to : (r : Step) (a b c : ℕ) → c ≤ b → Falls r a b → Falls r a c
falls_to step.Quiet a b c h k = omega (arith, h, k)
falls_to (step.Given v) a b c h k = omega (arith, h, k)
falls_to _ a b c h k = tt
