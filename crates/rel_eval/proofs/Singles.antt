-- A trace that is drawn for its one value.
use Rattle.std.proofs.Common.{◌≡◌, true, false, List, [], ◌∷◌, ◌++◌, refl, ap, subst, ◌∙◌}
use Rattle.std.proofs.lemmas.List.{append-nil}
use Rattle.std.specs.declared.option.Option.{Option}
use Rattle.std.specs.declared.option.Option.TheVariants.{Some, None}
use Rattle.bf_world.specs.declared.key.Key.{Key}
use Rattle.rel_lexer.specs.declared.place.Place.{Place}
use Rattle.rel_value.specs.Plain.{Plain, boolean, words}
use Rattle.rel_value.specs.Views.{shown}
use Rattle.rel_value.specs.declared.value.Value.{Value}
use Rattle.rel_trace.specs.declared.kind.RelKind.{RelKind}
use Rattle.rel_trace.specs.declared.kind.RelKind.TheVariants.{Nonexistent, NonUnique}
use Rattle.rel_trace.specs.Draws.{single, single_from}
use Rattle.rel_trace.specs.Steps.{LooksAt}
use Rattle.rel_trace.specs.Trace.{Stop, Error, Event, Look, Turn, Give, Trace, Ends, After, none, one, follow, each}
use Rattle.rel_nodes.specs.Steps.{prepend, gives}
use Rattle.rel_eval.specs.declared.one_value.OneValue.{OneValue}
use Rattle.rel_eval.specs.declared.one_value.OneValue.TheVariants as drawn
use Rattle.rel_eval.specs.declared.cursor.Pulled.TheVariants as pulled
use Rattle.rel_eval.specs.declared.told.Truth.{Truth}
use Rattle.rel_eval.specs.declared.told.Truth.TheVariants as truth
use Rattle.rel_eval.specs.declared.told.OneText.{OneText}
use Rattle.rel_eval.specs.declared.told.OneText.TheVariants as one_text
use Rattle.rel_eval.specs.Ones.{Ones, TellsOne}
use Rattle.rel_eval.specs.Pulls.{Draws, Skips}
use Rattle.rel_eval.specs.Singles.{Judges, TellsTruth, TellsText, Words}
use Rattle.rel_nodes.proofs.Stretches.{grows_grows, grows_none}
use Rattle.rel_eval.proofs.Skips.{same_skips, skips_skips}

single_over : (p : Place) (held : Option Plain) (es : List Event) (u : Trace) → gives es ≡ [] → single_from p held (prepend es u) ≡ prepend es (single_from p held u)
single_over p held [] u h = refl
single_over p None (Look q k ∷ es) u h = ap (After (Look q k)) (single_over p None es u h)
single_over p (Some v) (Look q k ∷ es) u h = ap (After (Look q k)) (single_over p (Some v) es u h)
single_over p None (Turn q ∷ es) u h = ap (After (Turn q)) (single_over p None es u h)
single_over p (Some v) (Turn q ∷ es) u h = ap (After (Turn q)) (single_over p (Some v) es u h)
single_over p held (Give v ∷ es) u h = absurd (let e : v ∷ gives es ≡ [] = h in cc)

-- the singular rule goes over what has no value
single_skips : (p : Place) (held : Option Plain) (t u : Trace) (looks : List Key) → Skips t looks u → Skips (single_from p held t) looks (single_from p held u)
single_skips p held t u looks s = record { events = s.events; quiet = s.quiet; whole = ap (single_from p held) s.whole ∙ single_over p held s.events u s.quiet; looked = s.looked }

each_over : (f : Plain → Trace) (es : List Event) (u : Trace) → gives es ≡ [] → each (prepend es u) f ≡ prepend es (each u f)
each_over f [] u h = refl
each_over f (Look q k ∷ es) u h = ap (After (Look q k)) (each_over f es u h)
each_over f (Turn q ∷ es) u h = ap (After (Turn q)) (each_over f es u h)
each_over f (Give v ∷ es) u h = absurd (let e : v ∷ gives es ≡ [] = h in cc)

each_skips : (f : Plain → Trace) (t u : Trace) (looks : List Key) → Skips t looks u → Skips (each t f) looks (each u f)
each_skips f t u looks s = record { events = s.events; quiet = s.quiet; whole = ap (λ x. each x f) s.whole ∙ each_over f s.events u s.quiet; looked = s.looked }

follow_none : (t : Trace) → follow t none ≡ t
follow_none (Ends Stop) = refl
follow_none (Ends (Error k p)) = refl
follow_none (After e t) = ap (After e) (follow_none t)

looks_each : (f : Plain → Trace) (u : Trace) (p : Place) → LooksAt p u → LooksAt p (each u f)
looks_each f u p l = (l.0, each l.1 f, ap (λ x. each x f) l.2)

looks_single : (q : Place) (held : Option Plain) (u : Trace) (p : Place) → LooksAt p u → LooksAt p (single_from q held u)
looks_single q None u p l = (l.0, single_from q None l.1, ap (single_from q None) l.2)
looks_single q (Some v) u p l = (l.0, single_from q (Some v) l.1, ap (single_from q (Some v)) l.2)

-- the one value, and then what is made of it
each_one : (f : Plain → Trace) (t : Trace) (looks : List Key) (v : Plain) → Skips t looks (one v) → Skips (each t f) looks (f v)
each_one f t looks v s = subst (λ (x : Trace). Skips (each t f) looks x) (follow_none (f v)) (each_skips f t (one v) looks s)

joined : (t u v : Trace) (looks : List Key) → Skips t looks u → Skips u [] v → Skips t looks v
joined t u v looks a b = subst (λ (m : List Key). Skips t m v) (append-nil looks) (skips_skips t u v looks [] a b)

pub truth_of_value : (f : Plain → Trace) (t : Trace) (looks : List Key) (v : Plain) (r : Truth) → Skips t looks (one v) → TellsTruth (f v) r [] → TellsTruth (each t f) r looks
truth_of_value f t looks v truth.True s h = joined (each t f) (f v) (one (boolean true)) looks (each_one f t looks v s) h
truth_of_value f t looks v truth.False s h = joined (each t f) (f v) (one (boolean false)) looks (each_one f t looks v s) h
truth_of_value f t looks v (truth.Error k p) s h = joined (each t f) (f v) (Ends (Error k p)) looks (each_one f t looks v s) h
truth_of_value f t looks v (truth.Failed p) s h = (h.0, joined (each t f) (f v) h.0 looks (each_one f t looks v s) h.1, h.2)
truth_of_value f t looks v truth.Memory s h = (h.0, joined (each t f) (f v) h.0 looks (each_one f t looks v s) h.1)

pub truth_of_error : (f : Plain → Trace) (t : Trace) (looks : List Key) (k : RelKind) (p : Place) → TellsOne t (drawn.Error k p) looks → TellsTruth (each t f) (truth.Error k p) looks
truth_of_error f t looks k p s = each_skips f t (Ends (Error k p)) looks s

pub truth_of_failed : (f : Plain → Trace) (t : Trace) (looks : List Key) (p : Place) → TellsOne t (drawn.Failed p) looks → TellsTruth (each t f) (truth.Failed p) looks
truth_of_failed f t looks p s = (each s.0 f, each_skips f t s.0 looks s.1, looks_each f s.0 p s.2)

pub truth_of_memory : (f : Plain → Trace) (t : Trace) (looks : List Key) → TellsOne t drawn.Memory looks → TellsTruth (each t f) truth.Memory looks
truth_of_memory f t looks s = (each s.0 f, each_skips f t s.0 looks s.1)

pub text_of_value : (f : Plain → Trace) (t : Trace) (looks : List Key) (v : Plain) (r : OneText) → Skips t looks (one v) → TellsText (f v) r [] → TellsText (each t f) r looks
text_of_value f t looks v (one_text.Text w) s h = joined (each t f) (f v) (one (words w)) looks (each_one f t looks v s) h
text_of_value f t looks v (one_text.Error k p) s h = joined (each t f) (f v) (Ends (Error k p)) looks (each_one f t looks v s) h
text_of_value f t looks v (one_text.Failed p) s h = (h.0, joined (each t f) (f v) h.0 looks (each_one f t looks v s) h.1, h.2)
text_of_value f t looks v one_text.Memory s h = (h.0, joined (each t f) (f v) h.0 looks (each_one f t looks v s) h.1)

pub text_of_error : (f : Plain → Trace) (t : Trace) (looks : List Key) (k : RelKind) (p : Place) → TellsOne t (drawn.Error k p) looks → TellsText (each t f) (one_text.Error k p) looks
text_of_error f t looks k p s = each_skips f t (Ends (Error k p)) looks s

pub text_of_failed : (f : Plain → Trace) (t : Trace) (looks : List Key) (p : Place) → TellsOne t (drawn.Failed p) looks → TellsText (each t f) (one_text.Failed p) looks
text_of_failed f t looks p s = (each s.0 f, each_skips f t s.0 looks s.1, looks_each f s.0 p s.2)

pub text_of_memory : (f : Plain → Trace) (t : Trace) (looks : List Key) → TellsOne t drawn.Memory looks → TellsText (each t f) one_text.Memory looks
text_of_memory f t looks s = (each s.0 f, each_skips f t s.0 looks s.1)

-- a pull that ends without a value
pub ones_end : (a b : Option (List Key)) (p : Place) (t u : Trace) → Draws a t pulled.End b u → Ones a (single p t) (drawn.Error Nonexistent p) b
ones_end a b p t u d = (d.0, d.1, single_skips p None t (Ends Stop) d.0 d.2.0)

pub ones_only : (a b : Option (List Key)) (p : Place) (v : Value) (t u : Trace) → Draws a t pulled.End b u → Ones a (single_from p (Some (shown v)) t) (drawn.Value v) b
ones_only a b p v t u d = (d.0, d.1, single_skips p (Some (shown v)) t (Ends Stop) d.0 d.2.0)

pub ones_second : (a b : Option (List Key)) (p : Place) (v : Plain) (x : Value) (t u : Trace) → Draws a t (pulled.Value x) b u → Ones a (single_from p (Some v) t) (drawn.Error NonUnique p) b
ones_second a b p v x t u d = (d.0, d.1, single_skips p (Some v) t (After (Give (shown x)) u) d.0 d.2)

single_errs : (p q : Place) (held : Option Plain) (k : RelKind) → single_from p held (Ends (Error k q)) ≡ Ends (Error k q)
single_errs p q None k = refl
single_errs p q (Some v) k = refl

pub ones_error : (a b : Option (List Key)) (p q : Place) (held : Option Plain) (k : RelKind) (t u : Trace) → Draws a t (pulled.Error k q) b u → Ones a (single_from p held t) (drawn.Error k q) b
ones_error a b p q held k t u d = (d.0, d.1, subst (λ (x : Trace). Skips (single_from p held t) d.0 x) (single_errs p q held k) (single_skips p held t (Ends (Error k q)) d.0 d.2.0))

pub ones_failed : (a b : Option (List Key)) (p q : Place) (held : Option Plain) (t u : Trace) → Draws a t (pulled.Failed q) b u → Ones a (single_from p held t) (drawn.Failed q) b
ones_failed a b p q held t u d = (d.0, d.1, (single_from p held u, single_skips p held t u d.0 d.2.0, looks_single p held u q d.2.1))

pub ones_memory : (a b : Option (List Key)) (p : Place) (held : Option Plain) (t u : Trace) → Draws a t pulled.Memory b u → Ones a (single_from p held t) drawn.Memory b
ones_memory a b p held t u d = (d.0, d.1, (single_from p held d.2.0, single_skips p held t d.2.0 d.0 d.2.1))

pub ones_closed : (a b : Option (List Key)) (p : Place) (held : Option Plain) (t u : Trace) → Draws a t pulled.Closed b u → Ones a (single_from p held t) drawn.Memory b
ones_closed a b p held t u d = (d.0, d.1, (single_from p held t, same_skips (single_from p held t) (single_from p held t) d.0 refl d.2))

tells_after : (t u : Trace) (m n : List Key) (r : OneValue) → Skips t m u → TellsOne u r n → TellsOne t r (m ++ n)
tells_after t u m n (drawn.Value v) a h = skips_skips t u (one (shown v)) m n a h
tells_after t u m n (drawn.Error k p) a h = skips_skips t u (Ends (Error k p)) m n a h
tells_after t u m n (drawn.Failed p) a h = (h.0, skips_skips t u h.0 m n a h.1, h.2)
tells_after t u m n drawn.Memory a h = (h.0, skips_skips t u h.0 m n a h.1)

-- a first value, and then what is drawn behind it
pub ones_after : (a b c : Option (List Key)) (p : Place) (x : Value) (t u : Trace) (r : OneValue) → Draws a t (pulled.Value x) b u → Ones b (single_from p (Some (shown x)) u) r c → Ones a (single p t) r c
ones_after a b c p x t u r d h =
    (d.0 ++ h.0, grows_grows a b c d.0 h.0 d.1 h.1, tells_after (single p t) (single_from p (Some (shown x)) u) d.0 h.0 r (single_skips p None t (After (Give (shown x)) u) d.0 d.2) h.2)

-- the same at another name of the span and of the trace
pub ones_at : (a b : Option (List Key)) (p q : Place) (t u : Trace) (r : OneValue) → p ≡ q → t ≡ u → Ones a (single p t) r b → Ones a (single q u) r b
ones_at a b p q t u r e f h =
    subst (λ (x : Trace). Ones a (single q x) r b) f (subst (λ (x : Place). Ones a (single x t) r b) e h)

pub ones_unopened : (a : Option (List Key)) (t : Trace) → Ones a t drawn.Memory a
ones_unopened a t = ([], grows_none a, (t, same_skips t t [] refl refl))

-- where the truth is told at another name of the span
pub judges_at : (a b : Option (List Key)) (f f' : Plain → Trace) (t : Trace) (r : Truth) (one : OneValue) → f ≡ f' → Ones a t one b → ((t : Trace) (looks : List Key) → TellsOne t one looks → TellsTruth (each t f) r looks) → Judges a (each t f') r b
judges_at a b f f' t r one e d h = subst (λ (x : Plain → Trace). Judges a (each t x) r b) e (d.0, d.1, h t d.0 d.2)

pub words_at : (a b : Option (List Key)) (f f' : Plain → Trace) (t : Trace) (r : OneText) (one : OneValue) → f ≡ f' → Ones a t one b → ((t : Trace) (looks : List Key) → TellsOne t one looks → TellsText (each t f) r looks) → Words a (each t f') r b
words_at a b f f' t r one e d h = subst (λ (x : Plain → Trace). Words a (each t x) r b) e (d.0, d.1, h t d.0 d.2)
