-- What the rows ask for, by the numbers of the rows: what admits a kind.
use Rattle.std.proofs.Common.{◌≡◌, ℕ, zero, suc, Bool, true, false, ◌&&◌, List, [], ◌∷◌, All, Some, refl, sym, ◌∙◌}
use Rattle.std.specs.Prelude.{if◌then◌else◌}
use Rattle.std.proofs.lemmas.List.Elements.{All-nil, All-cons}
use Rattle.rel_lexer.specs.declared.operator.BinarySign.TheVariants as sign
use Rattle.rel_value.specs.Kinds.{binary_kind}
use Rattle.rel_value.specs.Plain.{PlainKind, booleans, integers, texts, text_parts, times, intervals, versions, tuples}
use Rattle.rel_types.specs.Rows.{Row, Asked, anything, admits, given_kind, given_list, is_integer, kind_list}
use Rattle.rel_types.specs.Aggregates.{aggregate_rows}
use Rattle.rel_kinds.proofs.Folds.{full_kind}
use Rattle.rel_kinds.proofs.Basics.{false_true}

infixr 3 ◌▹◌
-- what is asked for by the row of this number
abbrev pub object_at : ℕ → List Row → Asked
object_at n [] = anything
object_at zero (row ∷ rows) = row.object
object_at (suc n) (row ∷ rows) = object_at n rows

abbrev pub argument_at : ℕ → List Row → Asked
argument_at n [] = anything
argument_at zero (row ∷ rows) = row.argument
argument_at (suc n) (row ∷ rows) = argument_at n rows

-- each row of a list, one after another
abbrev pub Each : (Row → Type 0) → List Row → Type 0
Each P [] = Unit {0}
Each P (row ∷ rows) = P row × Each P rows

-- what is said of a row, and then of those behind it
pub ◌▹◌ : {A B : Type 0} → A → B → A × B
a ▹ b = (a, b)

pub each-all : (P Q : Row → Type 0) → ((row : Row) → P row → Q row) → (rows : List Row) → Each P rows → All Q rows
each-all P Q f [] h = All-nil Q
each-all P Q f (row ∷ rows) h = All-cons Q row rows (f row h.0) (each-all P Q f rows h.1)

neither : {A : Type 0} (f : A → Bool) (b : Bool) (x y : A) → f x ≡ false → f y ≡ false → f (if b then x else y) ≡ true → ⊥
neither f true x y e g h = false_true (sym e ∙ h)
neither f false x y e g h = false_true (sym g ∙ h)

-- a tuple stands only where tuples of two integers are asked for, or all kinds
pub no_tuple : (asked : Asked) (ks : List PlainKind) → admits asked (given_list (integers ∷ integers ∷ [])) ≡ false → admits asked (given_list []) ≡ false → admits asked (given_list ks) ≡ true → ⊥
no_tuple asked [] e g h = false_true (sym g ∙ h)
no_tuple asked (a ∷ []) e g h = false_true (sym g ∙ h)
no_tuple asked (a ∷ b ∷ []) e g h = neither (admits asked) (is_integer a && is_integer b) (given_list (integers ∷ integers ∷ [])) (given_list []) e g h
no_tuple asked (a ∷ b ∷ c ∷ ks) e g h = false_true (sym g ∙ h)

-- ---- what the aggregates ask for

pub asked-integers : (l : PlainKind) → admits (object_at 1 aggregate_rows) (given_kind l) ≡ true → l ≡ integers
unfolding aggregate_rows
asked-integers integers h = refl
asked-integers (tuples ks) h = absurd (no_tuple (object_at 1 aggregate_rows) (kind_list ks) refl refl h)
asked-integers _ h = absurd (false_true h)

pub asked-intervals : (l : PlainKind) → admits (object_at 2 aggregate_rows) (given_kind l) ≡ true → l ≡ intervals
unfolding aggregate_rows
asked-intervals intervals h = refl
asked-intervals (tuples ks) h = absurd (no_tuple (object_at 2 aggregate_rows) (kind_list ks) refl refl h)
asked-intervals _ h = absurd (false_true h)

pub asked-times : (l : PlainKind) → admits (object_at 5 aggregate_rows) (given_kind l) ≡ true → l ≡ times
unfolding aggregate_rows
asked-times times h = refl
asked-times (tuples ks) h = absurd (no_tuple (object_at 5 aggregate_rows) (kind_list ks) refl refl h)
asked-times _ h = absurd (false_true h)

pub asked-versions : (l : PlainKind) → admits (object_at 6 aggregate_rows) (given_kind l) ≡ true → l ≡ versions
unfolding aggregate_rows
asked-versions versions h = refl
asked-versions (tuples ks) h = absurd (no_tuple (object_at 6 aggregate_rows) (kind_list ks) refl refl h)
asked-versions _ h = absurd (false_true h)

pub asked-booleans : (l : PlainKind) → admits (object_at 13 aggregate_rows) (given_kind l) ≡ true → l ≡ booleans
unfolding aggregate_rows
asked-booleans booleans h = refl
asked-booleans (tuples ks) h = absurd (no_tuple (object_at 13 aggregate_rows) (kind_list ks) refl refl h)
asked-booleans _ h = absurd (false_true h)

-- a text, or a part of one: in full both are texts, both have an order, and both are joined
pub asked-texts : (l : PlainKind) → admits (object_at 7 aggregate_rows) (given_kind l) ≡ true → full_kind l ≡ texts
unfolding aggregate_rows
asked-texts texts h = refl
asked-texts text_parts h = refl
asked-texts (tuples ks) h = absurd (no_tuple (object_at 7 aggregate_rows) (kind_list ks) refl refl h)
asked-texts _ h = absurd (false_true h)

pub ordered-texts : (l : PlainKind) → admits (object_at 7 aggregate_rows) (given_kind l) ≡ true → binary_kind sign.Less l l ≡ Some booleans
unfolding aggregate_rows
ordered-texts texts h = refl
ordered-texts text_parts h = refl
ordered-texts (tuples ks) h = absurd (no_tuple (object_at 7 aggregate_rows) (kind_list ks) refl refl h)
ordered-texts _ h = absurd (false_true h)

pub joined-texts : (l : PlainKind) → admits (object_at 15 aggregate_rows) (given_kind l) ≡ true → binary_kind sign.Join texts l ≡ Some texts
unfolding aggregate_rows
joined-texts texts h = refl
joined-texts text_parts h = refl
joined-texts (tuples ks) h = absurd (no_tuple (object_at 15 aggregate_rows) (kind_list ks) refl refl h)
joined-texts _ h = absurd (false_true h)

pub joined-separators : (l : PlainKind) → admits (argument_at 15 aggregate_rows) (given_kind l) ≡ true → binary_kind sign.Join texts l ≡ Some texts
unfolding aggregate_rows
joined-separators texts h = refl
joined-separators text_parts h = refl
joined-separators (tuples ks) h = absurd (no_tuple (argument_at 15 aggregate_rows) (kind_list ks) refl refl h)
joined-separators _ h = absurd (false_true h)
