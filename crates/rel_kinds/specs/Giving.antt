-- What a trace gives: values of one kind, exactly one value.
use Rattle.std.specs.Prelude.{◌≡◌, Option, Some, None}
use Rattle.rel_value.specs.Plain.{Plain, PlainKind, kind_of}
use Rattle.rel_trace.specs.Trace.{Stop, Error, Look, Turn, Give, Trace, Ends, After, none}

-- each value that is given has this kind
abbrev pub GivesKind : PlainKind → Trace → Type 0
GivesKind k (Ends e) = Unit {0}
GivesKind k (After (Look p key) t) = GivesKind k t
GivesKind k (After (Turn p) t) = GivesKind k t
GivesKind k (After (Give v) t) = (kind_of v ≡ k) × GivesKind k t

-- after any looks and turns one value and then the end, or an error and no value
abbrev pub GivesOne : Trace → Type 0
GivesOne (Ends Stop) = ⊥
GivesOne (Ends (Error k p)) = Unit {0}
GivesOne (After (Look p key) t) = GivesOne t
GivesOne (After (Turn p) t) = GivesOne t
GivesOne (After (Give v) t) = t ≡ none

-- a value of this kind is there; where no kind is said, nothing is known
abbrev pub IsThere : Option PlainKind → Option Plain → Type 0
IsThere None v = Unit {0}
IsThere (Some k) (Some v) = kind_of v ≡ k
IsThere (Some k) None = ⊥
