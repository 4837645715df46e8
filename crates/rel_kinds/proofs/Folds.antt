-- What the aggregates give.
use Rattle.std.proofs.Common.{◌≡◌, pos, Bool, true, false, [], Option, Some, None, refl, ap, ◌∙◌}
use Rattle.std.specs.Prelude.{if◌then◌else◌}
use Rattle.rel_lexer.specs.declared.place.Place.{Place}
use Rattle.rel_lexer.specs.declared.operator.BinarySign.{BinarySign}
use Rattle.rel_lexer.specs.declared.operator.BinarySign.TheVariants as sign
use Rattle.rel_value.specs.Kinds.{binary_kind}
use Rattle.rel_value.specs.Outcomes.{Outcome, gives, fails, no_row}
use Rattle.rel_value.specs.Plain.{Plain, boolean, integer, words, part, PlainKind, booleans, integers, texts, text_parts, intervals, kind_of}
use Rattle.rel_value.specs.Signs.{op}
use Rattle.rel_trace.specs.declared.fold.Fold.{Fold}
use Rattle.rel_trace.specs.declared.fold.Fold.TheVariants.{Number, IntegerSum, IntervalSum, Maximum, Minimum, Conjunction, Disjunction, Concatenation, Separated}
use Rattle.rel_trace.specs.Trace.{Stop, Error, Look, Turn, Give, Trace, Ends, After, one, is_true}
use Rattle.rel_trace.specs.Folds.{in_full, held_first, signed, later_if, beyond, and_joined, joined_by, more, is_settled, ending, onward, folded}
use Rattle.rel_nodes.specs.Meaning.{aggregated}
use Rattle.rel_kinds.specs.Giving.{GivesKind}
use Rattle.rel_kinds.proofs.Outcomes.{op-kind, GivesAtMost, at_most, join-kind, at_most-result}
use Rattle.rel_kinds.proofs.Basics.{false_true, later-kind}

-- what is held has this kind, if something is
abbrev pub Holds : PlainKind → Option Plain → Type 0
Holds h None = Unit {0}
Holds h (Some v) = kind_of v ≡ h

-- a fold that holds values of one kind, takes values of another and gives values of a third
abbrev pub Holding : Fold → Option Plain → PlainKind → PlainKind → Type 0
Holding f separator a h = (held : Option Plain) (v : Plain) → Holds h held → kind_of v ≡ a → GivesAtMost h (more f separator held v)

abbrev pub Settles : Fold → PlainKind → PlainKind → Type 0
Settles f h k = (x : Plain) → kind_of x ≡ h → is_settled f x ≡ true → kind_of x ≡ k

abbrev pub EndsAs : Fold → PlainKind → PlainKind → Type 0
EndsAs f h k = (held : Option Plain) → Holds h held → GivesAtMost k (ending f held)

settled-kind : (k : PlainKind) (b : Bool) (x : Plain) (t : Trace) → (b ≡ true → kind_of x ≡ k) → GivesKind k t → GivesKind k (if b then one x else t)
settled-kind k true x t h g = (h refl, tt)
settled-kind k false x t h g = g

onward-kind : (f : Fold) (p : Place) (h k : PlainKind) (o : Outcome) (rest : Plain → Trace) → Settles f h k → GivesAtMost h o → ((x : Plain) → kind_of x ≡ h → GivesKind k (rest x)) → GivesKind k (onward f p o rest)
onward-kind f p h k (gives x) rest settles e g = settled-kind k (is_settled f x) x (rest x) (settles x e) (g x e)
onward-kind f p h k (fails why) rest settles e g = tt
onward-kind f p h k no_row rest settles e g = tt

folded-kind : (f : Fold) (separator : Option Plain) (p : Place) (a h k : PlainKind) → Holding f separator a h → Settles f h k → EndsAs f h k → (held : Option Plain) (t : Trace) → Holds h held → GivesKind a t → GivesKind k (folded f separator p held t)
folded-kind f separator p a h k steps settles ends held (Ends Stop) e g = at_most-result k p (ending f held) (ends held e)
folded-kind f separator p a h k steps settles ends held (Ends (Error x q)) e g = tt
folded-kind f separator p a h k steps settles ends held (After (Look q y) t) e g = folded-kind f separator p a h k steps settles ends held t e g
folded-kind f separator p a h k steps settles ends held (After (Turn q) t) e g = folded-kind f separator p a h k steps settles ends held t e g
folded-kind f separator p a h k steps settles ends held (After (Give v) t) e g =
    onward-kind f p h k (more f separator held v) (λ x. folded f separator p (Some x) t) settles (steps held v e g.0)
    (λ x ex. folded-kind f separator p a h k steps settles ends (Some x) t ex g.1)

-- ---- each fold

-- the kind of a value in full
abbrev pub full_kind : PlainKind → PlainKind
full_kind text_parts = texts
full_kind k = k

full-kind : (v : Plain) → kind_of (in_full v) ≡ full_kind (kind_of v)
full-kind (part w from to) = refl
full-kind _ = refl

signed-kind : (s : BinarySign) (a h : PlainKind) (held : Option Plain) (v : Plain) → binary_kind s h a ≡ Some h → (held ≡ None → kind_of v ≡ h) → Holds h held → kind_of v ≡ a → GivesAtMost h (signed s held v)
signed-kind s a h None v row alone e g = alone refl
signed-kind s a h (Some x) v row alone e g = at_most h (op s x v) (op-kind s x v h a h e g row)

held-full : (f : Fold) (h k : PlainKind) → full_kind h ≡ k → (x : Plain) → kind_of x ≡ h → GivesAtMost k (ending f (Some x))
held-full f h k e x ex = full-kind x ∙ ap full_kind ex ∙ e

pub number-kind : (a : PlainKind) (separator : Option Plain) (p : Place) (t : Trace) → GivesKind a t → GivesKind integers (aggregated Number p separator t)
number-kind a separator p t g =
    folded-kind Number separator p a integers integers
    (λ held v e ev. signed-kind sign.Plus integers integers held (integer (pos 1)) refl (λ x. refl) e refl)
    (λ x e b. absurd (false_true b)) ends (Some (integer (pos 0))) t refl g
  where
    ends : EndsAs Number integers integers
    ends None e = tt
    ends (Some x) e = held-full Number integers integers refl x e

pub integer_sum-kind : (separator : Option Plain) (p : Place) (t : Trace) → GivesKind integers t → GivesKind integers (aggregated IntegerSum p separator t)
integer_sum-kind separator p t g =
    folded-kind IntegerSum separator p integers integers integers
    (λ held v e ev. signed-kind sign.Plus integers integers held v refl (λ x. ev) e ev)
    (λ x e b. absurd (false_true b)) ends (Some (integer (pos 0))) t refl g
  where
    ends : EndsAs IntegerSum integers integers
    ends None e = tt
    ends (Some x) e = held-full IntegerSum integers integers refl x e

pub interval_sum-kind : (separator : Option Plain) (p : Place) (t : Trace) → GivesKind intervals t → GivesKind intervals (aggregated IntervalSum p separator t)
interval_sum-kind separator p t g =
    folded-kind IntervalSum separator p intervals intervals intervals
    (λ held v e ev. signed-kind sign.Plus intervals intervals held v refl (λ x. ev) e ev)
    (λ x e b. absurd (false_true b)) ends (held_first IntervalSum) t refl g
  where
    ends : EndsAs IntervalSum intervals intervals
    ends None e = tt
    ends (Some x) e = held-full IntervalSum intervals intervals refl x e

pub conjunction-kind : (separator : Option Plain) (p : Place) (t : Trace) → GivesKind booleans t → GivesKind booleans (aggregated Conjunction p separator t)
conjunction-kind separator p t g =
    folded-kind Conjunction separator p booleans booleans booleans
    (λ held v e ev. signed-kind sign.And booleans booleans held v refl (λ x. ev) e ev)
    (λ x e b. e) ends (Some (boolean true)) t refl g
  where
    ends : EndsAs Conjunction booleans booleans
    ends None e = tt
    ends (Some x) e = held-full Conjunction booleans booleans refl x e

pub disjunction-kind : (separator : Option Plain) (p : Place) (t : Trace) → GivesKind booleans t → GivesKind booleans (aggregated Disjunction p separator t)
disjunction-kind separator p t g =
    folded-kind Disjunction separator p booleans booleans booleans
    (λ held v e ev. signed-kind sign.Or booleans booleans held v refl (λ x. ev) e ev)
    (λ x e b. e) ends (Some (boolean false)) t refl g
  where
    ends : EndsAs Disjunction booleans booleans
    ends None e = tt
    ends (Some x) e = held-full Disjunction booleans booleans refl x e

later_if-kind : (h : PlainKind) (x v : Plain) (o : Outcome) → kind_of x ≡ h → kind_of v ≡ h → GivesAtMost h (later_if x v o)
later_if-kind h x v (gives b) e g = later-kind h x v (is_true b) e g
later_if-kind h x v (fails why) e g = tt
later_if-kind h x v no_row e g = tt

beyond-kind : (s : BinarySign) (h : PlainKind) (held : Option Plain) (v : Plain) → Holds h held → kind_of v ≡ h → GivesAtMost h (beyond s held v)
beyond-kind s h None v e g = g
beyond-kind s h (Some x) v e g = later_if-kind h x v (op s x v) e g

pub maximum-kind : (a : PlainKind) (separator : Option Plain) (p : Place) (t : Trace) → GivesKind a t → GivesKind (full_kind a) (aggregated Maximum p separator t)
maximum-kind a separator p t g =
    folded-kind Maximum separator p a a (full_kind a) (beyond-kind sign.Less a) (λ x e b. absurd (false_true b)) (ends a) None t tt g
  where
    ends : (a : PlainKind) → EndsAs Maximum a (full_kind a)
    ends a None e = tt
    ends a (Some x) e = held-full Maximum a (full_kind a) refl x e

pub minimum-kind : (a : PlainKind) (separator : Option Plain) (p : Place) (t : Trace) → GivesKind a t → GivesKind (full_kind a) (aggregated Minimum p separator t)
minimum-kind a separator p t g =
    folded-kind Minimum separator p a a (full_kind a) (beyond-kind sign.Greater a) (λ x e b. absurd (false_true b)) (ends a) None t tt g
  where
    ends : (a : PlainKind) → EndsAs Minimum a (full_kind a)
    ends a None e = tt
    ends a (Some x) e = held-full Minimum a (full_kind a) refl x e

and_joined-kind : (o : Outcome) (v : Plain) → GivesAtMost texts (and_joined o v)
and_joined-kind (gives x) v = join-kind x v
and_joined-kind (fails why) v = tt
and_joined-kind no_row v = tt

joined_by-kind : (separator held : Option Plain) (v : Plain) → GivesAtMost texts (joined_by separator held v)
joined_by-kind separator None v = join-kind (words []) v
joined_by-kind None (Some x) v = join-kind x v
joined_by-kind (Some s) (Some x) v = and_joined-kind (op sign.Join x s) v

pub concatenation-kind : (a : PlainKind) (separator : Option Plain) (p : Place) (t : Trace) → GivesKind a t → GivesKind texts (aggregated Concatenation p separator t)
concatenation-kind a separator p t g =
    folded-kind Concatenation separator p a texts texts (λ held v e ev. joined_by-kind None held v) (λ x e b. absurd (false_true b)) ends None t tt g
  where
    ends : EndsAs Concatenation texts texts
    ends None e = refl
    ends (Some x) e = held-full Concatenation texts texts refl x e

pub separated-kind : (a : PlainKind) (separator : Option Plain) (p : Place) (t : Trace) → GivesKind a t → GivesKind texts (aggregated Separated p separator t)
separated-kind a separator p t g =
    folded-kind Separated separator p a texts texts (λ held v e ev. joined_by-kind separator held v) (λ x e b. absurd (false_true b)) ends None t tt g
  where
    ends : EndsAs Separated texts texts
    ends None e = refl
    ends (Some x) e = held-full Separated texts texts refl x e
