-- What is made of a trace by drawing from it: whether it gives a value, the one value that it gives, and whether a filter keeps a value.
use Rattle.std.specs.Prelude.{Bool, true, false, if◌then◌else◌, Option, Some, None}
use Rattle.rel_lexer.specs.declared.place.Place.{Place}
use Rattle.rel_value.specs.Plain.{Plain, boolean}
use Rattle.rel_trace.specs.declared.kind.RelKind.TheVariants.{Nonexistent, NonUnique}
use Rattle.rel_trace.specs.Kinds.{is_nonexistent}
use Rattle.rel_trace.specs.Trace.{Stop, Error, Look, Turn, Give, Trace, Ends, After, none, one, turned, is_true}

-- `exists`: True at the first value; without one the end and Nonexistent are False, and another error stays
abbrev pub any : Trace → Trace
any (Ends Stop) = one (boolean false)
any (Ends (Error k p)) = if is_nonexistent k then one (boolean false) else Ends (Error k p)
any (After (Look p k) t) = After (Look p k) (any t)
any (After (Turn p) t) = After (Turn p) (any t)
any (After (Give v) t) = one (boolean true)

-- the one value, where one is held already or none is: none at all is Nonexistent and a second one NonUnique, at the place
abbrev pub single_from : Place → Option Plain → Trace → Trace
single_from p None (Ends Stop) = Ends (Error Nonexistent p)
single_from p (Some v) (Ends Stop) = one v
single_from p held (Ends (Error k q)) = Ends (Error k q)
single_from p held (After (Look q k) t) = After (Look q k) (single_from p held t)
single_from p held (After (Turn q) t) = After (Turn q) (single_from p held t)
single_from p None (After (Give v) t) = single_from p (Some v) t
single_from p (Some v) (After (Give x) t) = Ends (Error NonUnique p)

-- the singular rule
abbrev pub single : Place → Trace → Trace
single p t = single_from p None t

-- a value, if its filter gave True last; a filter that ends in Nonexistent drops it, and another error ends all
abbrev pub kept : Plain → Bool → Trace → Trace
kept v seen (Ends Stop) = if seen then one v else none
kept v seen (Ends (Error k p)) = if is_nonexistent k then none else Ends (Error k p)
kept v seen (After (Look p k) t) = After (Look p k) (kept v seen t)
kept v seen (After (Turn p) t) = After (Turn p) (kept v seen t)
kept v seen (After (Give x) t) = kept v (is_true x) t

-- a turn, and then the value if its filter keeps it
abbrev pub sifted : Place → (Plain → Trace) → Plain → Trace
sifted p f v = turned p (kept v false (f v))
