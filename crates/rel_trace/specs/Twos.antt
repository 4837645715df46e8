-- What the state of a form with two parts makes of the traces of its parts.
use Rattle.std.specs.Prelude.{ℕ, ◌+◌, ◌*◌, Bool, true, false, not, Option, Some, None}
use Rattle.rel_lexer.specs.declared.place.Place.{Place}
use Rattle.rel_value.specs.Plain.{Plain}
use Rattle.rel_trace.specs.declared.logic.Logic.{Logic}
use Rattle.rel_trace.specs.declared.sequence.Sequence.{Sequence}
use Rattle.rel_trace.specs.declared.sequence.Order.{Order}
use Rattle.rel_trace.specs.declared.sequence.Order.TheVariants.{Then, Bar, Logical}
use Rattle.rel_trace.specs.declared.handing.Handing.{Handing}
use Rattle.rel_trace.specs.declared.handing.Hand.{Hand}
use Rattle.rel_trace.specs.declared.handing.Hand.TheVariants.{Each, Argument, Left, Turned}
use Rattle.rel_trace.specs.declared.filter.Filter.{Filter}
use Rattle.rel_trace.specs.declared.two.Two.{Two}
use Rattle.rel_trace.specs.declared.two.Two.TheVariants as form
use Rattle.rel_trace.specs.Trace.{Trace, follow, each, none, turned}
use Rattle.rel_trace.specs.Draws.{kept, sifted}
use Rattle.rel_trace.specs.Joins.{decided, barred}
use Rattle.rel_trace.specs.Scopes.{Around, with_argument, with_it, with_left}

-- the forms with two parts
pub data TwoKind : Type 0 where
  then_kind : TwoKind
  bar_kind : TwoKind
  logic_kind : (logic : Logic) → TwoKind
  each_kind : (head : Place) → TwoKind
  sift_kind : (head : Place) → TwoKind
  argument_kind : TwoKind
  left_kind : TwoKind
  turned_kind : (span : Place) → TwoKind

-- what a form makes of the trace of its first part and of what its second part is in any scope
abbrev pub two_whole : TwoKind → Trace → (Around → Trace) → Around → Trace
two_whole then_kind a f s = follow a (f s)
two_whole bar_kind a f s = barred a (f s)
two_whole (logic_kind l) a f s = each a (decided l (f s))
two_whole (each_kind h) a f s = each a (λ v. turned h (f (with_it s v)))
two_whole (sift_kind h) a f s = each a (sifted h (λ v. f (with_it s v)))
two_whole argument_kind a f s = each a (λ v. f (with_argument s v))
two_whole left_kind a f s = each a (λ v. f (with_left s v))
two_whole (turned_kind p) a f s = each a (λ v. turned p (f (with_left s v)))

-- Below, `a` is what the first part has left, `b` what the second has left in any scope, and `f` what the second is from its
-- beginning.

abbrev pub order_kind : Order → TwoKind
order_kind Then = then_kind
order_kind Bar = bar_kind
order_kind (Logical l) = logic_kind l

abbrev pub sequence_kind : Sequence → TwoKind
sequence_kind q = order_kind q.order

-- what is left with the second part: of `and` and `or`, then the first part's further values
abbrev pub with_second : Order → Trace → Trace → Trace → Trace
with_second (Logical l) a b f = follow b (each a (decided l f))
with_second _ a b f = b

abbrev pub ordered : Bool → Order → Trace → (Around → Trace) → (Around → Trace) → Around → Trace
ordered false o a b f s = two_whole (order_kind o) a f s
ordered true o a b f s = with_second o a (b s) (f s)

abbrev pub sequence_rest : Sequence → Trace → (Around → Trace) → (Around → Trace) → Around → Trace
sequence_rest q a b f s = ordered q.on_second q.order a b f s

abbrev pub sequence_on : Sequence → Bool
sequence_on q = q.on_second

abbrev pub hand_kind : Hand → TwoKind
hand_kind (Each h) = each_kind h
hand_kind Argument = argument_kind
hand_kind Left = left_kind
hand_kind (Turned p) = turned_kind p

abbrev pub handing_kind : Handing → TwoKind
handing_kind h = hand_kind h.hand

-- the scope of the second part, where a value is handed down
abbrev pub with_handed : Hand → Plain → Around → Around
with_handed (Each h) v s = with_it s v
with_handed Argument v s = with_argument s v
with_handed Left v s = with_left s v
with_handed (Turned p) v s = with_left s v

-- the second part, and before it a turn, where it takes one
abbrev pub led : Hand → Trace → Trace
led (Each h) t = turned h t
led Argument t = t
led Left t = t
led (Turned p) t = turned p t

-- what is made of one value of the first part
abbrev pub handed : Hand → (Around → Trace) → Around → Plain → Trace
handed k f s v = led k (f (with_handed k v s))

-- what the second part has left of a value that was handed down
abbrev pub rest_of_held : Hand → Option Plain → (Around → Trace) → Around → Trace
rest_of_held k None b s = none
rest_of_held k (Some v) b s = b (with_handed k v s)

abbrev pub handing_rest : Handing → Trace → (Around → Trace) → (Around → Trace) → Around → Trace
handing_rest h a b f s = follow (rest_of_held h.hand h.held b s) (each a (handed h.hand f s))

abbrev pub holds : Option Plain → Bool
holds None = false
holds (Some v) = true

abbrev pub handing_on : Handing → Bool
handing_on h = holds h.held

abbrev pub with_held : Hand → Option Plain → Around → Around
with_held k None s = s
with_held k (Some v) s = with_handed k v s

-- what is handed down to the second part
abbrev pub handed_down : Handing → Around → Around
handed_down h s = with_held h.hand h.held s

abbrev pub filter_kind : Filter → TwoKind
filter_kind g = sift_kind g.head

-- what is left of a value that is tested
abbrev pub rest_of_tested : Option Plain → Bool → (Around → Trace) → Around → Trace
rest_of_tested None seen b s = none
rest_of_tested (Some v) seen b s = kept v seen (b (with_it s v))

abbrev pub filter_rest : Filter → Trace → (Around → Trace) → (Around → Trace) → Around → Trace
filter_rest g a b f s = follow (rest_of_tested g.held g.seen b s) (each a (sifted g.head (λ v. f (with_it s v))))

abbrev pub filter_on : Filter → Bool
filter_on g = holds g.held

abbrev pub with_tested : Option Plain → Around → Around
with_tested None s = s
with_tested (Some v) s = with_it s v

abbrev pub two_kind : Two → TwoKind
two_kind (form.Sequence q) = sequence_kind q
two_kind (form.Handing h) = handing_kind h
two_kind (form.Filter g) = filter_kind g

-- what is left of a form
abbrev pub two_left : Two → Trace → (Around → Trace) → (Around → Trace) → Around → Trace
two_left (form.Sequence q) a b f s = sequence_rest q a b f s
two_left (form.Handing h) a b f s = handing_rest h a b f s
two_left (form.Filter g) a b f s = filter_rest g a b f s

-- the next step is one of the second part
abbrev pub on_second : Two → Bool
on_second (form.Sequence q) = sequence_on q
on_second (form.Handing h) = handing_on h
on_second (form.Filter g) = filter_on g

-- Nothing is left where the first part has nothing left. Not so of a sequence, which goes on to its second part, nor where the second
-- part has begun.
abbrev pub ends_with_first : Two → Bool
ends_with_first (form.Sequence q) = false
ends_with_first (form.Handing h) = not (handing_on h)
ends_with_first (form.Filter g) = not (filter_on g)

-- it goes on with its second part until that is over: a filter decides only then
abbrev pub waits_for_end : TwoKind → Bool
waits_for_end then_kind = true
waits_for_end bar_kind = true
waits_for_end (logic_kind l) = true
waits_for_end (sift_kind h) = true
waits_for_end _ = false

-- the scope of the second part
abbrev pub second_around : Two → Around → Around
second_around (form.Handing h) s = handed_down h s
second_around (form.Filter g) s = with_tested g.held s
second_around (form.Sequence q) s = s

-- the second part begins anew, or goes on
abbrev pub begun : Bool → (Around → Trace) → (Around → Trace) → Around → Trace
begun true b f = f
begun false b f = b

abbrev pub half_quiet : Bool → ℕ → ℕ → ℕ
half_quiet true q r = q + (r + 1)
half_quiet false q r = q

abbrev pub then_quiet : Bool → ℕ → ℕ → ℕ → ℕ
then_quiet true q r c = r
then_quiet false q r c = q + (c + 1)

abbrev pub ordered_quiet : Order → Bool → ℕ → ℕ → ℕ → ℕ
ordered_quiet Then on q r c = then_quiet on q r c
ordered_quiet Bar on q r c = then_quiet on q r c
ordered_quiet (Logical l) on q r c = half_quiet on (q * (c + 2)) r

-- how many quiet steps are left, where the first part has q, and the second r, and at most c from its beginning
abbrev pub sequence_quiet : Sequence → ℕ → ℕ → ℕ → ℕ
sequence_quiet s q r c = ordered_quiet s.order s.on_second q r c

-- those of the first part, each value of which makes a second part that begins without a turn
abbrev pub first_quiet : Hand → ℕ → ℕ → ℕ
first_quiet (Each h) q c = q
first_quiet Argument q c = q * (c + 2)
first_quiet Left q c = q * (c + 2)
first_quiet (Turned p) q c = q

abbrev pub handing_quiet : Handing → ℕ → ℕ → ℕ → ℕ
handing_quiet h q r c = half_quiet (holds h.held) (first_quiet h.hand q c) r

abbrev pub filter_quiet : Filter → ℕ → ℕ → ℕ → ℕ
filter_quiet g q r c = half_quiet (holds g.held) q r

abbrev pub two_quiet : Two → ℕ → ℕ → ℕ → ℕ
two_quiet (form.Sequence s) q r c = sequence_quiet s q r c
two_quiet (form.Handing h) q r c = handing_quiet h q r c
two_quiet (form.Filter g) q r c = filter_quiet g q r c

abbrev pub begun_quiet : Bool → ℕ → ℕ → ℕ
begun_quiet true r c = c
begun_quiet false r c = r
