-- Values of a kind that is asked for can be read.
use Rattle.std.proofs.Common.{◌≡◌, Bool, true, false, ◌&&◌, List, [], ◌∷◌, map, Option, Some, refl, sym, subst, ◌∙◌}
use Rattle.std.specs.Prelude.{if◌then◌else◌, IsSome}
use Rattle.rel_value.specs.Plain.{Plain, integer, words, part, file, folder, setting, process, a_package, system, tuple, integers, kind_of, kinds_of}
use Rattle.rel_types.specs.Rows.{Asked, two_integers, admits, given_kind, given_list, is_integer, kind_list}
use Rattle.rel_types.specs.Properties.{property_rows}
use Rattle.rel_inspect.specs.Offered.{text_in, integer_in, file_in, folder_in, path_in, name_in, version_in, value_in, date_in, preceding_in, following_in, part_list, bounds_of, bounds_of_list, bounds_in}
use Rattle.rel_kinds.proofs.Asked.{object_at, argument_at, no_tuple}
use Rattle.rel_kinds.proofs.Properties.{parts-kinds}
use Rattle.rel_kinds.proofs.Basics.{false_true}

-- each value of a kind that is asked for can be read
abbrev pub Reads : {A : Type 0} → Asked → (Option Plain → Option A) → Type 0
Reads asked read = (v : Plain) → admits asked (given_kind (kind_of v)) ≡ true → IsSome (read (Some v))

pub text-reads : Reads (argument_at 20 property_rows) text_in
unfolding property_rows
text-reads (words t) h = refl
text-reads (part w from to) h = refl
text-reads (tuple ps) h = absurd (no_tuple (argument_at 20 property_rows) (kind_list (kinds_of ps)) refl refl h)
text-reads _ h = absurd (false_true h)

pub integer-reads : Reads (argument_at 19 property_rows) integer_in
unfolding property_rows
integer-reads (integer z) h = refl
integer-reads (tuple ps) h = absurd (no_tuple (argument_at 19 property_rows) (kind_list (kinds_of ps)) refl refl h)
integer-reads _ h = absurd (false_true h)

pub file-reads : Reads (object_at 16 property_rows) file_in
unfolding property_rows
file-reads (file p) h = refl
file-reads (tuple ps) h = absurd (no_tuple (object_at 16 property_rows) (kind_list (kinds_of ps)) refl refl h)
file-reads _ h = absurd (false_true h)

pub folder-reads : Reads (object_at 11 property_rows) folder_in
unfolding property_rows
folder-reads (folder p) h = refl
folder-reads (tuple ps) h = absurd (no_tuple (object_at 11 property_rows) (kind_list (kinds_of ps)) refl refl h)
folder-reads _ h = absurd (false_true h)

pub path-reads : Reads (object_at 15 property_rows) path_in
unfolding property_rows
path-reads (file p) h = refl
path-reads (folder p) h = refl
path-reads (tuple ps) h = absurd (no_tuple (object_at 15 property_rows) (kind_list (kinds_of ps)) refl refl h)
path-reads _ h = absurd (false_true h)

pub name-reads : Reads (object_at 14 property_rows) name_in
unfolding property_rows
name-reads (file p) h = refl
name-reads (folder p) h = refl
name-reads (setting n v d) h = refl
name-reads (process n) h = refl
name-reads (a_package n v) h = refl
name-reads (system n v) h = refl
name-reads (tuple ps) h = absurd (no_tuple (object_at 14 property_rows) (kind_list (kinds_of ps)) refl refl h)
name-reads _ h = absurd (false_true h)

pub version-reads : Reads (object_at 27 property_rows) version_in
unfolding property_rows
version-reads (a_package n v) h = refl
version-reads (system n v) h = refl
version-reads (tuple ps) h = absurd (no_tuple (object_at 27 property_rows) (kind_list (kinds_of ps)) refl refl h)
version-reads _ h = absurd (false_true h)

pub value-reads : Reads (object_at 31 property_rows) value_in
unfolding property_rows
value-reads (setting n v d) h = refl
value-reads (tuple ps) h = absurd (no_tuple (object_at 31 property_rows) (kind_list (kinds_of ps)) refl refl h)
value-reads _ h = absurd (false_true h)

pub date-reads : Reads (object_at 31 property_rows) date_in
unfolding property_rows
date-reads (setting n v d) h = refl
date-reads (tuple ps) h = absurd (no_tuple (object_at 31 property_rows) (kind_list (kinds_of ps)) refl refl h)
date-reads _ h = absurd (false_true h)

pub preceding-reads : Reads (object_at 37 property_rows) preceding_in
unfolding property_rows
preceding-reads (part w from to) h = refl
preceding-reads (tuple ps) h = absurd (no_tuple (object_at 37 property_rows) (kind_list (kinds_of ps)) refl refl h)
preceding-reads _ h = absurd (false_true h)

pub following-reads : Reads (object_at 37 property_rows) following_in
unfolding property_rows
following-reads (part w from to) h = refl
following-reads (tuple ps) h = absurd (no_tuple (object_at 37 property_rows) (kind_list (kinds_of ps)) refl refl h)
following-reads _ h = absurd (false_true h)

-- ---- tuples of two integers

both-integers : {A : Type 0} (f : A → Bool) (a b : Bool) (x y : A) → f y ≡ false → f (if a && b then x else y) ≡ true → (a ≡ true) × (b ≡ true)
both-integers f true true x y e h = (refl, refl)
both-integers f true false x y e h = absurd (false_true (sym e ∙ h))
both-integers f false b x y e h = absurd (false_true (sym e ∙ h))

two-bounds : (a b : Plain) → is_integer (kind_of a) ≡ true → is_integer (kind_of b) ≡ true → IsSome (bounds_of a b)
two-bounds (integer x) (integer y) h g = refl
two-bounds (integer x) _ h g = absurd (false_true g)
two-bounds _ b h g = absurd (false_true h)

list-bounds : (vs : List Plain) → admits two_integers (given_list (map kind_of vs)) ≡ true → IsSome (bounds_of_list vs)
list-bounds [] h = absurd (false_true h)
list-bounds (a ∷ []) h = absurd (false_true h)
list-bounds (a ∷ b ∷ []) h = let p = both-integers (admits two_integers) (is_integer (kind_of a)) (is_integer (kind_of b)) (given_list (integers ∷ integers ∷ [])) (given_list []) refl h in two-bounds a b p.0 p.1
list-bounds (a ∷ b ∷ c ∷ vs) h = absurd (false_true h)

pub bounds-reads : Reads two_integers bounds_in
bounds-reads (tuple ps) h = list-bounds (part_list ps) (subst (λ ks. admits two_integers (given_list ks) ≡ true) (parts-kinds ps) h)
bounds-reads _ h = absurd (false_true h)
