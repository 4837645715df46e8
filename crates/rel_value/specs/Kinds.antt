-- The kinds for which a sign or a cast has a row, and the kind that the row gives. A part counts as a text.
use Rattle.std.specs.Prelude.{◌≡◌, Option, Some, None}
use Rattle.rel_lexer.specs.declared.operator.BinarySign.{BinarySign}
use Rattle.rel_lexer.specs.declared.operator.BinarySign.TheVariants as sign
use Rattle.rel_value.specs.declared.cast_name.Cast.{Cast}
use Rattle.rel_value.specs.declared.cast_name.Cast.TheVariants as to
use Rattle.rel_value.specs.Plain.{PlainKind, booleans, integers, texts, text_parts, times, intervals, versions, kind_of}
use Rattle.rel_value.specs.Outcomes.{Outcome, gives, fails, no_row}

-- the kinds that signs and most casts tell apart
pub data Sort : Type 0 where
  truths : Sort
  whole_numbers : Sort
  words_or_parts : Sort
  instants : Sort
  spans : Sort
  number_lists : Sort
  others : Sort

abbrev pub sort_of : PlainKind → Sort
sort_of booleans = truths
sort_of integers = whole_numbers
sort_of texts = words_or_parts
sort_of text_parts = words_or_parts
sort_of times = instants
sort_of intervals = spans
sort_of versions = number_lists
sort_of _ = others

abbrev pub sum_kind : Sort → Sort → Option PlainKind
sum_kind whole_numbers whole_numbers = Some integers
sum_kind spans spans = Some intervals
sum_kind instants spans = Some times
sum_kind spans instants = Some times
sum_kind _ _ = None

abbrev pub difference_kind : Sort → Sort → Option PlainKind
difference_kind whole_numbers whole_numbers = Some integers
difference_kind spans spans = Some intervals
difference_kind instants spans = Some times
difference_kind instants instants = Some intervals
difference_kind _ _ = None

abbrev pub product_kind : Sort → Sort → Option PlainKind
product_kind whole_numbers whole_numbers = Some integers
product_kind spans whole_numbers = Some intervals
product_kind whole_numbers spans = Some intervals
product_kind _ _ = None

abbrev pub quotient_kind : Sort → Sort → Option PlainKind
quotient_kind whole_numbers whole_numbers = Some integers
quotient_kind spans whole_numbers = Some intervals
quotient_kind spans spans = Some integers
quotient_kind _ _ = None

abbrev pub remainder_kind : Sort → Sort → Option PlainKind
remainder_kind whole_numbers whole_numbers = Some integers
remainder_kind _ _ = None

abbrev pub joined_kind : Sort → Sort → Option PlainKind
joined_kind words_or_parts words_or_parts = Some texts
joined_kind _ _ = None

-- `<`, `<=`, `>` and `>=`
abbrev pub order_kind : Sort → Sort → Option PlainKind
order_kind whole_numbers whole_numbers = Some booleans
order_kind words_or_parts words_or_parts = Some booleans
order_kind instants instants = Some booleans
order_kind spans spans = Some booleans
order_kind number_lists number_lists = Some booleans
order_kind number_lists words_or_parts = Some booleans
order_kind words_or_parts number_lists = Some booleans
order_kind _ _ = None

-- `=`, `!=`, `is` and `is not`
abbrev pub equality_kind : Sort → Sort → Option PlainKind
equality_kind truths truths = Some booleans
equality_kind a b = order_kind a b

abbrev pub relation_kind : Sort → Sort → Option PlainKind
relation_kind words_or_parts words_or_parts = Some booleans
relation_kind _ _ = None

abbrev pub combined_kind : Sort → Sort → Option PlainKind
combined_kind truths truths = Some booleans
combined_kind _ _ = None

abbrev pub row_kind : BinarySign → Sort → Sort → Option PlainKind
row_kind sign.Plus a b = sum_kind a b
row_kind sign.Minus a b = difference_kind a b
row_kind sign.Times a b = product_kind a b
row_kind sign.Over a b = quotient_kind a b
row_kind sign.Mod a b = remainder_kind a b
row_kind sign.Join a b = joined_kind a b
row_kind sign.Equal a b = equality_kind a b
row_kind sign.NotEqual a b = equality_kind a b
row_kind sign.Less a b = order_kind a b
row_kind sign.LessOrEqual a b = order_kind a b
row_kind sign.Greater a b = order_kind a b
row_kind sign.GreaterOrEqual a b = order_kind a b
row_kind sign.Is a b = equality_kind a b
row_kind sign.IsNot a b = equality_kind a b
row_kind sign.Contains a b = relation_kind a b
row_kind sign.IsContainedBy a b = relation_kind a b
row_kind sign.StartsWith a b = relation_kind a b
row_kind sign.EndsWith a b = relation_kind a b
row_kind sign.DoesNotContain a b = relation_kind a b
row_kind sign.IsNotContainedBy a b = relation_kind a b
row_kind sign.DoesNotStartWith a b = relation_kind a b
row_kind sign.DoesNotEndWith a b = relation_kind a b
row_kind sign.And a b = combined_kind a b
row_kind sign.Or a b = combined_kind a b
row_kind sign.Bar a b = None

-- the kind that a sign gives for two kinds, if it has a row for them
abbrev pub binary_kind : BinarySign → PlainKind → PlainKind → Option PlainKind
binary_kind s a b = row_kind s (sort_of a) (sort_of b)

abbrev pub negated_kind : Sort → Option PlainKind
negated_kind whole_numbers = Some integers
negated_kind spans = Some intervals
negated_kind _ = None

abbrev pub integer_kind : Sort → Option PlainKind
integer_kind whole_numbers = Some integers
integer_kind words_or_parts = Some integers
integer_kind _ = None

abbrev pub version_kind : Sort → Option PlainKind
version_kind number_lists = Some versions
version_kind words_or_parts = Some versions
version_kind _ = None

-- what a cast of texts alone gives
abbrev pub text_kind : PlainKind → Sort → Option PlainKind
text_kind kind words_or_parts = Some kind
text_kind kind _ = None

-- the kind that a cast gives for a kind, if it has a row for it
abbrev pub cast_kind : Cast → PlainKind → Option PlainKind
cast_kind to.Str a = Some texts
cast_kind to.Integer a = integer_kind (sort_of a)
cast_kind to.Version a = version_kind (sort_of a)
cast_kind to.Boolean a = text_kind booleans (sort_of a)
cast_kind to.Time a = text_kind times (sort_of a)
cast_kind to.Lowercase a = text_kind texts (sort_of a)
cast_kind to.Uppercase a = text_kind texts (sort_of a)
cast_kind to.Trimmed a = text_kind texts (sort_of a)

-- an outcome gives a value of the kind or a fault, if there is a kind, and is no row if there is none
abbrev pub IsOfKind : Option PlainKind → Outcome → Type 0
IsOfKind None no_row = Unit {0}
IsOfKind None outcome = ⊥
IsOfKind (Some kind) (gives v) = kind_of v ≡ kind
IsOfKind (Some kind) (fails fault) = Unit {0}
IsOfKind (Some kind) no_row = ⊥
