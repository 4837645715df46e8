-- What each way of joining traces keeps.
use Rattle.std.proofs.Common.{◌≡◌, Bool, true, false, Some, refl, sym, ap, subst}
use Rattle.std.specs.Prelude.{if◌then◌else◌}
use Rattle.rel_lexer.specs.declared.place.Place.{Place}
use Rattle.rel_value.specs.Plain.{Plain, boolean, PlainKind, booleans, kind_of}
use Rattle.rel_trace.specs.declared.kind.RelKind.{RelKind}
use Rattle.rel_trace.specs.Kinds.{is_nonexistent, is_caught}
use Rattle.rel_trace.specs.Trace.{Stop, Error, Look, Turn, Give, Trace, Ends, After, none, one, follow, each, is_true}
use Rattle.rel_trace.specs.Draws.{any, single_from, single, kept}
use Rattle.rel_trace.specs.Joins.{barred}
use Rattle.rel_kinds.specs.Giving.{GivesKind, GivesOne}

-- ---- one of two

pub either-kind : (k : PlainKind) (b : Bool) (t u : Trace) → GivesKind k t → GivesKind k u → GivesKind k (if b then t else u)
either-kind k true t u h g = h
either-kind k false t u h g = g

pub either-one : (b : Bool) (t u : Trace) → GivesOne t → GivesOne u → GivesOne (if b then t else u)
either-one true t u h g = h
either-one false t u h g = g

-- ---- one after the other

pub follow-kind : (k : PlainKind) (t u : Trace) → GivesKind k t → GivesKind k u → GivesKind k (follow t u)
follow-kind k (Ends Stop) u h g = g
follow-kind k (Ends (Error e p)) u h g = tt
follow-kind k (After (Look p y) t) u h g = follow-kind k t u h g
follow-kind k (After (Turn p) t) u h g = follow-kind k t u h g
follow-kind k (After (Give v) t) u h g = (h.0, follow-kind k t u h.1 g)

follow-one : (t : Trace) → GivesOne t → GivesOne (follow t none)
follow-one (Ends Stop) h = h
follow-one (Ends (Error e p)) h = tt
follow-one (After (Look p y) t) h = follow-one t h
follow-one (After (Turn p) t) h = follow-one t h
follow-one (After (Give v) t) h = ap (λ u. follow u none) h

-- ---- each value replaced

-- where the kind of what is replaced is known
pub each-kind : (a k : PlainKind) (t : Trace) (f : Plain → Trace) → GivesKind a t → ((v : Plain) → kind_of v ≡ a → GivesKind k (f v)) → GivesKind k (each t f)
each-kind a k (Ends e) f h g = tt
each-kind a k (After (Look p y) t) f h g = each-kind a k t f h g
each-kind a k (After (Turn p) t) f h g = each-kind a k t f h g
each-kind a k (After (Give v) t) f h g = follow-kind k (f v) (each t f) (g v h.0) (each-kind a k t f h.1 g)

-- and where it makes no difference
pub each-all : (k : PlainKind) (t : Trace) (f : Plain → Trace) → ((v : Plain) → GivesKind k (f v)) → GivesKind k (each t f)
each-all k (Ends e) f g = tt
each-all k (After (Look p y) t) f g = each-all k t f g
each-all k (After (Turn p) t) f g = each-all k t f g
each-all k (After (Give v) t) f g = follow-kind k (f v) (each t f) (g v) (each-all k t f g)

pub each-one : (a : PlainKind) (t : Trace) (f : Plain → Trace) → GivesKind a t → GivesOne t → ((v : Plain) → kind_of v ≡ a → GivesOne (f v)) → GivesOne (each t f)
each-one a (Ends Stop) f h o g = o
each-one a (Ends (Error e p)) f h o g = tt
each-one a (After (Look p y) t) f h o g = each-one a t f h o g
each-one a (After (Turn p) t) f h o g = each-one a t f h o g
each-one a (After (Give v) t) f h o g = subst (λ u. GivesOne (follow (f v) (each u f))) (sym o) (follow-one (f v) (g v h.0))

-- ---- exists

false-kind : (b : Bool) (e : RelKind) (p : Place) → GivesKind booleans (if b then one (boolean false) else Ends (Error e p))
false-kind true e p = (refl, tt)
false-kind false e p = tt

false-one : (b : Bool) (e : RelKind) (p : Place) → GivesOne (if b then one (boolean false) else Ends (Error e p))
false-one true e p = refl
false-one false e p = tt

pub any-kind : (t : Trace) → GivesKind booleans (any t)
any-kind (Ends Stop) = (refl, tt)
any-kind (Ends (Error e p)) = false-kind (is_nonexistent e) e p
any-kind (After (Look p y) t) = any-kind t
any-kind (After (Turn p) t) = any-kind t
any-kind (After (Give v) t) = (refl, tt)

pub any-one : (t : Trace) → GivesOne (any t)
any-one (Ends Stop) = refl
any-one (Ends (Error e p)) = false-one (is_nonexistent e) e p
any-one (After (Look p y) t) = any-one t
any-one (After (Turn p) t) = any-one t
any-one (After (Give v) t) = refl

-- ---- the singular rule

held-kind : (k : PlainKind) (p : Place) (v : Plain) (t : Trace) → kind_of v ≡ k → GivesKind k (single_from p (Some v) t)
held-kind k p v (Ends Stop) e = (e, tt)
held-kind k p v (Ends (Error x q)) e = tt
held-kind k p v (After (Look q y) t) e = held-kind k p v t e
held-kind k p v (After (Turn q) t) e = held-kind k p v t e
held-kind k p v (After (Give x) t) e = tt

pub single-kind : (k : PlainKind) (p : Place) (t : Trace) → GivesKind k t → GivesKind k (single p t)
single-kind k p (Ends Stop) h = tt
single-kind k p (Ends (Error x q)) h = tt
single-kind k p (After (Look q y) t) h = single-kind k p t h
single-kind k p (After (Turn q) t) h = single-kind k p t h
single-kind k p (After (Give v) t) h = held-kind k p v t h.0

held-one : (p : Place) (v : Plain) (t : Trace) → GivesOne (single_from p (Some v) t)
held-one p v (Ends Stop) = refl
held-one p v (Ends (Error x q)) = tt
held-one p v (After (Look q y) t) = held-one p v t
held-one p v (After (Turn q) t) = held-one p v t
held-one p v (After (Give x) t) = tt

pub single-one : (p : Place) (t : Trace) → GivesOne (single p t)
single-one p (Ends Stop) = tt
single-one p (Ends (Error x q)) = tt
single-one p (After (Look q y) t) = single-one p t
single-one p (After (Turn q) t) = single-one p t
single-one p (After (Give v) t) = held-one p v t

-- ---- filters

seen-kind : (k : PlainKind) (v : Plain) (seen : Bool) → kind_of v ≡ k → GivesKind k (if seen then one v else none)
seen-kind k v true e = (e, tt)
seen-kind k v false e = tt

dropped-kind : (k : PlainKind) (b : Bool) (x : RelKind) (p : Place) → GivesKind k (if b then none else Ends (Error x p))
dropped-kind k true x p = tt
dropped-kind k false x p = tt

-- a filter gives the value that it keeps and no other
pub kept-kind : (k : PlainKind) (v : Plain) (seen : Bool) (t : Trace) → kind_of v ≡ k → GivesKind k (kept v seen t)
kept-kind k v seen (Ends Stop) e = seen-kind k v seen e
kept-kind k v seen (Ends (Error x p)) e = dropped-kind k (is_nonexistent x) x p
kept-kind k v seen (After (Look p y) t) e = kept-kind k v seen t e
kept-kind k v seen (After (Turn p) t) e = kept-kind k v seen t e
kept-kind k v seen (After (Give x) t) e = kept-kind k v (is_true x) t e

-- ---- `|`

caught-kind : (k : PlainKind) (b : Bool) (x : RelKind) (p : Place) (u : Trace) → GivesKind k u → GivesKind k (if b then u else Ends (Error x p))
caught-kind k true x p u g = g
caught-kind k false x p u g = tt

caught-one : (b : Bool) (x : RelKind) (p : Place) (u : Trace) → GivesOne u → GivesOne (if b then u else Ends (Error x p))
caught-one true x p u g = g
caught-one false x p u g = tt

pub barred-kind : (k : PlainKind) (t u : Trace) → GivesKind k t → GivesKind k u → GivesKind k (barred t u)
barred-kind k (Ends Stop) u h g = tt
barred-kind k (Ends (Error x p)) u h g = caught-kind k (is_caught x) x p u g
barred-kind k (After (Look p y) t) u h g = barred-kind k t u h g
barred-kind k (After (Turn p) t) u h g = barred-kind k t u h g
barred-kind k (After (Give v) t) u h g = (h.0, barred-kind k t u h.1 g)

pub barred-one : (t u : Trace) → GivesOne t → GivesOne u → GivesOne (barred t u)
barred-one (Ends Stop) u h g = h
barred-one (Ends (Error x p)) u h g = caught-one (is_caught x) x p u g
barred-one (After (Look p y) t) u h g = barred-one t u h g
barred-one (After (Turn p) t) u h g = barred-one t u h g
barred-one (After (Give v) t) u h g = ap (λ (s : Trace). barred s u) h
