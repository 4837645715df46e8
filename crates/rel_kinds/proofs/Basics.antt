-- Truths, options and kinds of tuples.
use Rattle.std.proofs.Common.{◌≡◌, Bool, true, false, ◌&&◌, Some, None, refl, ap}
use Rattle.std.specs.Prelude.{if◌then◌else◌}
use Rattle.rel_value.specs.Plain.{Plain, PlainKind, tuples, PlainKinds, no_kinds, kind_of}

pub some_same : {A : Type 0} (a b : A) → Some a ≡ Some b → a ≡ b
some_same a b h = cc

pub none_some : {A : Type 0} (a : A) → None ≡ Some a → ⊥
none_some a h = cc

pub false_true : false ≡ true → ⊥
false_true h = cc

pub both : (a b : Bool) → (a && b) ≡ true → (a ≡ true) × (b ≡ true)
both true b h = (refl, h)
both false b h = absurd (false_true h)

-- the kinds of a tuple's parts
abbrev pub part_kinds : PlainKind → PlainKinds
part_kinds (tuples ks) = ks
part_kinds _ = no_kinds

abbrev pub is_tuple : PlainKind → Bool
is_tuple (tuples ks) = true
is_tuple _ = false

pub same_tuples : (is js : PlainKinds) → tuples is ≡ tuples js → is ≡ js
same_tuples is js h = ap part_kinds h

-- the later of two values of one kind, or the earlier
pub later-kind : (k : PlainKind) (x v : Plain) (b : Bool) → kind_of x ≡ k → kind_of v ≡ k → kind_of (if b then v else x) ≡ k
later-kind k x v true e g = g
later-kind k x v false e g = e
