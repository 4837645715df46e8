-- A form passes on the looks and turns of the part that goes on.
use Rattle.std.proofs.Common.{◌≡◌, ℕ, ℤ, Bool, true, false, List, [], ◌∷◌, ◌++◌, ap, refl, ◌∙◌}
use Rattle.std.specs.declared.option.Option.{Option}
use Rattle.std.specs.declared.option.Option.TheVariants.{Some, None}
use Rattle.bf_world.specs.declared.key.Key.{Key}
use Rattle.rel_lexer.specs.declared.place.Place.{Place}
use Rattle.rel_value.specs.Plain.{Plain}
use Rattle.rel_trace.specs.declared.choice.Choice.TheVariants.{Test, Yes, No}
use Rattle.rel_trace.specs.declared.draw.Draw.TheVariants.{Single, Exists}
use Rattle.rel_trace.specs.declared.handing.Hand.{Hand}
use Rattle.rel_trace.specs.declared.one.One.{One}
use Rattle.rel_trace.specs.declared.one.One.TheVariants as one
use Rattle.rel_trace.specs.declared.sequence.Order.{Order}
use Rattle.rel_trace.specs.declared.sequence.Order.TheVariants.{Then, Bar, Logical}
use Rattle.rel_trace.specs.declared.step.Step.{Step}
use Rattle.rel_trace.specs.declared.two.Two.{Two}
use Rattle.rel_trace.specs.declared.two.Two.TheVariants as two
use Rattle.rel_trace.specs.Choices.{choice_left}
use Rattle.rel_trace.specs.Draws.{any, sifted, single_from}
use Rattle.rel_trace.specs.Folds.{folded}
use Rattle.rel_trace.specs.Ones.{is_done, one_left, unless}
use Rattle.rel_trace.specs.Scopes.{Around, with_it}
use Rattle.rel_trace.specs.Steps.{Goes}
use Rattle.rel_trace.specs.Trace.{Event, Look, Turn, Give, Trace, After, each, follow}
use Rattle.rel_trace.specs.Twos.{handed, holds, rest_of_held, rest_of_tested, on_second, ordered, second_around, two_left, with_held, with_tested}
use Rattle.rel_nodes.specs.Steps.{Advances, gives, prepend}

-- what is made of a trace begins with a look or a turn that the trace begins with
abbrev pub Passes : (Trace → Trace) → Type 0
Passes make = ((p : Place) (k : Key) (t : Trace) → make (After (Look p k) t) ≡ After (Look p k) (make t)) × ((p : Place) (t : Trace) → make (After (Turn p) t) ≡ After (Turn p) (make t))

no_value : (v : Plain) (vs : List Plain) → v ∷ vs ≡ [] → ⊥
no_value v vs h = cc

passes_all : (make : Trace → Trace) → Passes make → (es : List Event) → gives es ≡ [] → (t : Trace) → make (prepend es t) ≡ prepend es (make t)
passes_all make h [] q t = refl
passes_all make h (Look p k ∷ es) q t = h.0 p k (prepend es t) ∙ ap (After (Look p k)) (passes_all make h es q t)
passes_all make h (Turn p ∷ es) q t = h.1 p (prepend es t) ∙ ap (After (Turn p)) (passes_all make h es q t)
passes_all make h (Give v ∷ es) q t = absurd (no_value v (gives es) q)

-- as the step of a part becomes one of the form
pub advance_on : (old new : Option (List Key)) (n n' : ℕ) (t t' u u' : Trace) (x r : Step) (make : Trace → Trace) → u ≡ make t → Passes make →
    ((v : Trace) (l l' : List Key) → Goes l v x l' t' → Goes l (make v) r l' u') → Advances old n t x new n' t' → Advances old n u r new n' u'
advance_on old new n n' t t' u u' x r make e passes after h =
    record {
      events = h.events;
      quiet = h.quiet;
      counted = h.counted;
      next = make h.next;
      whole = e ∙ ap make h.whole ∙ passes_all make passes h.events h.quiet h.next;
      more = h.more;
      grows = h.grows;
      goes = λ l. after h.next l (l ++ h.more) (h.goes l);
    }

true_false : true ≡ false → ⊥
true_false h = cc

pub false_true : false ≡ true → ⊥
false_true h = cc

unless_passes : (b : Bool) (make : Trace → Trace) → b ≡ false → Passes make → Passes (λ t. unless b (make t))
unless_passes true make h p = absurd (true_false h)
unless_passes false make h p = p

single_passes : (p : Place) (held : Option Plain) → Passes (single_from p held)
single_passes p None = (λ q k t. refl, λ q t. refl)
single_passes p (Some v) = (λ q k t. refl, λ q t. refl)

-- a form with one part, unless it is done
pub one_passes : (state : One) (a : Around) (offset : ℤ) → is_done state ≡ false → Passes (one_left state a offset)
one_passes (one.Draw (Single p held done)) a offset h = unless_passes done (single_from p held) h (single_passes p held)
one_passes (one.Draw (Exists done)) a offset h = unless_passes done any h (λ q k t. refl, λ q t. refl)
one_passes (one.Fold f) a offset h = unless_passes f.done (folded f.fold a.argument f.place f.held) h (λ q k t. refl, λ q t. refl)
one_passes (one.Apply x) a offset h = (λ q k t. refl, λ q t. refl)

-- a form with two parts, while the first goes on
ordered_first : (on : Bool) (o : Order) (b f : Around → Trace) (a : Around) → on ≡ false → Passes (λ t. ordered on o t b f a)
ordered_first true o b f a h = absurd (true_false h)
ordered_first false Then b f a h = (λ q k t. refl, λ q t. refl)
ordered_first false Bar b f a h = (λ q k t. refl, λ q t. refl)
ordered_first false (Logical l) b f a h = (λ q k t. refl, λ q t. refl)

held_first : (held : Option Plain) (k : Hand) (b : Around → Trace) (g : Plain → Trace) (a : Around) → holds held ≡ false → Passes (λ t. follow (rest_of_held k held b a) (each t g))
held_first None k b g a h = (λ q x t. refl, λ q t. refl)
held_first (Some v) k b g a h = absurd (true_false h)

tested_first : (held : Option Plain) (seen : Bool) (b : Around → Trace) (g : Plain → Trace) (a : Around) → holds held ≡ false → Passes (λ t. follow (rest_of_tested held seen b a) (each t g))
tested_first None seen b g a h = (λ q k t. refl, λ q t. refl)
tested_first (Some v) seen b g a h = absurd (true_false h)

pub first_passes : (state : Two) (b f : Around → Trace) (a : Around) → on_second state ≡ false → Passes (λ t. two_left state t b f a)
first_passes (two.Sequence s) b f a h = ordered_first s.on_second s.order b f a h
first_passes (two.Handing s) b f a h = held_first s.held s.hand b (handed s.hand f a) a h
first_passes (two.Filter s) b f a h = tested_first s.held s.seen b (sifted s.head (λ v. f (with_it a v))) a h

-- while the second goes on, the form has of it what it has left in its own scope
ordered_left : (on : Bool) (o : Order) (t : Trace) (b f : Around → Trace) (a : Around) → on ≡ true → ordered on o t b f a ≡ ordered on o t (λ e. b a) f a
ordered_left true o t b f a h = refl
ordered_left false o t b f a h = absurd (false_true h)

held_left : (held : Option Plain) (k : Hand) (b : Around → Trace) (a : Around) → holds held ≡ true → rest_of_held k held b a ≡ rest_of_held k held (λ e. b (with_held k held a)) a
held_left None k b a h = absurd (false_true h)
held_left (Some v) k b a h = refl

tested_left : (held : Option Plain) (seen : Bool) (b : Around → Trace) (a : Around) → holds held ≡ true → rest_of_tested held seen b a ≡ rest_of_tested held seen (λ e. b (with_tested held a)) a
tested_left None seen b a h = absurd (false_true h)
tested_left (Some v) seen b a h = refl

pub second_left : (state : Two) (t : Trace) (b f : Around → Trace) (a : Around) → on_second state ≡ true → two_left state t b f a ≡ two_left state t (λ e. b (second_around state a)) f a
second_left (two.Sequence s) t b f a h = ordered_left s.on_second s.order t b f a h
second_left (two.Handing s) t b f a h = ap (λ x. follow x (each t (handed s.hand f a))) (held_left s.held s.hand b a h)
second_left (two.Filter s) t b f a h = ap (λ x. follow x (each t (sifted s.head (λ v. f (with_it a v))))) (tested_left s.held s.seen b a h)

ordered_second : (on : Bool) (o : Order) (t : Trace) (f : Around → Trace) (a : Around) → on ≡ true → Passes (λ v. ordered on o t (λ e. v) f a)
ordered_second false o t f a h = absurd (false_true h)
ordered_second true Then t f a h = (λ q k u. refl, λ q u. refl)
ordered_second true Bar t f a h = (λ q k u. refl, λ q u. refl)
ordered_second true (Logical l) t f a h = (λ q k u. refl, λ q u. refl)

held_second : (held : Option Plain) (k : Hand) (after : Trace) (a : Around) → holds held ≡ true → Passes (λ v. follow (rest_of_held k held (λ e. v) a) after)
held_second None k after a h = absurd (false_true h)
held_second (Some v) k after a h = (λ q x u. refl, λ q u. refl)

tested_second : (held : Option Plain) (seen : Bool) (after : Trace) (a : Around) → holds held ≡ true → Passes (λ v. follow (rest_of_tested held seen (λ e. v) a) after)
tested_second None seen after a h = absurd (false_true h)
tested_second (Some v) seen after a h = (λ q k u. refl, λ q u. refl)

pub second_passes : (state : Two) (t : Trace) (f : Around → Trace) (a : Around) → on_second state ≡ true → Passes (λ v. two_left state t (λ e. v) f a)
second_passes (two.Sequence s) t f a h = ordered_second s.on_second s.order t f a h
second_passes (two.Handing s) t f a h = held_second s.held s.hand (each t (handed s.hand f a)) a h
second_passes (two.Filter s) t f a h = tested_second s.held s.seen (each t (sifted s.head (λ v. f (with_it a v)))) a h

-- an `if`, while its test goes on, and while a branch does
pub test_passes : (b c f g : Around → Trace) (a : Around) → Passes (λ t. choice_left Test t b c f g a)
test_passes b c f g a = (λ q k t. refl, λ q t. refl)

pub yes_passes : (t : Trace) (c f g : Around → Trace) (a : Around) → Passes (λ v. choice_left Yes t (λ e. v) c f g a)
yes_passes t c f g a = (λ q k u. refl, λ q u. refl)

pub no_passes : (t : Trace) (b f g : Around → Trace) (a : Around) → Passes (λ v. choice_left No t b (λ e. v) f g a)
no_passes t b f g a = (λ q k u. refl, λ q u. refl)
