-- The signs: what each gives for its two operands.
use Rattle.std.specs.Prelude.{ℕ, zero, ℤ, pos, ◌+ℤ◌, ◌-ℤ◌, ◌*ℤ◌, neg_ℤ, int_div, int_rem, Bool, false, true, ◌&&◌, ◌||◌, not, nat_eq, List, [], ◌∷◌, ◌++◌, Option, Some, None}
use Rattle.std.specs.declared.cmp.Ordering.{Ordering}
use Rattle.std.specs.Ordering.{is_eq, is_ne, is_lt, is_le, is_gt, is_ge, int_cmp, nat_cmp}
use Rattle.std.specs.List.{starts_with, ends_with}
use Rattle.std.specs.Cmp.Lexicographic.{slice_cmp}
use Rattle.rel_lexer.specs.declared.operator.BinarySign.{BinarySign}
use Rattle.rel_lexer.specs.declared.operator.BinarySign.TheVariants as sign
use Rattle.rel_value.specs.declared.fault.ValueFault.TheVariants.{DivideByZero, Absent}
use Rattle.rel_value.specs.declared.compare.Comparison.{Comparison}
use Rattle.rel_value.specs.declared.compare.Comparison.TheVariants.{Ordered, Same, Malformed, Unrelated}
use Rattle.rel_value.specs.Plain.{Plain, boolean}
use Rattle.rel_value.specs.Outcomes.{Outcome, gives, fails, no_row, whole, span, moment, bounded}
use Rattle.rel_value.specs.Operands.{Stance, truth, number, bytes, instant, seconds, numbers, stance}
use Rattle.rel_value.specs.Versions.{version_of, version_cmp}

-- `+`
abbrev pub sum : Stance → Stance → Outcome
sum (number a) (number b) = whole (a +ℤ b)
sum (seconds a) (seconds b) = span (a +ℤ b)
sum (instant a) (seconds b) = moment (a +ℤ b)
sum (seconds a) (instant b) = moment (a +ℤ b)
sum _ _ = no_row

-- `-`
abbrev pub difference : Stance → Stance → Outcome
difference (number a) (number b) = whole (a -ℤ b)
difference (seconds a) (seconds b) = span (a -ℤ b)
difference (instant a) (seconds b) = moment (a -ℤ b)
difference (instant a) (instant b) = span (a -ℤ b)
difference _ _ = no_row

-- `*`
abbrev pub product : Stance → Stance → Outcome
product (number a) (number b) = whole (a *ℤ b)
product (seconds a) (number b) = span (a *ℤ b)
product (number a) (seconds b) = span (a *ℤ b)
product _ _ = no_row

-- a division by zero is a fault
abbrev pub divided : ℤ → Outcome → Outcome
divided (pos zero) quotient = fails DivideByZero
divided _ quotient = quotient

-- `/`, toward zero
abbrev pub quotient : Stance → Stance → Outcome
quotient (number a) (number b) = divided b (whole (int_div a b))
quotient (seconds a) (number b) = divided b (span (int_div a b))
quotient (seconds a) (seconds b) = divided b (whole (int_div a b))
quotient _ _ = no_row

-- `mod`, with the sign of the left
abbrev pub remainder : Stance → Stance → Outcome
remainder (number a) (number b) = divided b (whole (int_rem a b))
remainder _ _ = no_row

-- `&`
abbrev pub joined : Stance → Stance → Outcome
joined (bytes a) (bytes b) = bounded (a ++ b)
joined _ _ = no_row

-- a text beside a version is cast
abbrev pub beside : (List ℕ → Ordering) → Option (List ℕ) → Comparison
beside order None = Malformed
beside order (Some ns) = Ordered (order ns)

-- whether two truths are the same
abbrev pub same : Bool → Bool → Bool
same true b = b
same false b = not b

-- how two operands compare: texts by their bytes, versions number by number
abbrev pub compared : Stance → Stance → Comparison
compared (number a) (number b) = Ordered (int_cmp a b)
compared (bytes a) (bytes b) = Ordered (slice_cmp nat_cmp a b)
compared (instant a) (instant b) = Ordered (int_cmp a b)
compared (seconds a) (seconds b) = Ordered (int_cmp a b)
compared (numbers a) (numbers b) = Ordered (version_cmp a b)
compared (numbers a) (bytes b) = beside (λ ns. version_cmp a ns) (version_of b)
compared (bytes a) (numbers b) = beside (λ ns. version_cmp ns b) (version_of a)
compared (truth a) (truth b) = Same (same a b)
compared _ _ = Unrelated

-- the part stands somewhere in the text
abbrev pub occurs : List ℕ → List ℕ → Bool
occurs part [] = starts_with nat_eq [] part
occurs part (x ∷ xs) = starts_with nat_eq (x ∷ xs) part || occurs part xs

-- the orders of its operands for which a comparing sign holds
abbrev pub passes : BinarySign → Ordering → Bool
passes sign.Equal o = is_eq o
passes sign.NotEqual o = is_ne o
passes sign.Less o = is_lt o
passes sign.LessOrEqual o = is_le o
passes sign.Greater o = is_gt o
passes sign.GreaterOrEqual o = is_ge o
passes sign.Is o = is_eq o
passes sign.IsNot o = is_ne o
passes _ o = false

-- what a comparing sign gives for two truths, which are the same or not: they have no order
abbrev pub sameness : BinarySign → Bool → Outcome
sameness sign.Equal b = gives (boolean b)
sameness sign.NotEqual b = gives (boolean (not b))
sameness sign.Is b = gives (boolean b)
sameness sign.IsNot b = gives (boolean (not b))
sameness _ b = no_row

-- what a comparing sign gives
abbrev pub judged : BinarySign → Comparison → Outcome
judged s (Ordered o) = gives (boolean (passes s o))
judged s (Same b) = sameness s b
judged s Malformed = fails Absent
judged s Unrelated = no_row

-- whether a relation of texts holds
abbrev pub holds : BinarySign → List ℕ → List ℕ → Bool
holds sign.Contains a b = occurs b a
holds sign.IsContainedBy a b = occurs a b
holds sign.StartsWith a b = starts_with nat_eq a b
holds sign.EndsWith a b = ends_with nat_eq a b
holds sign.DoesNotContain a b = not (occurs b a)
holds sign.IsNotContainedBy a b = not (occurs a b)
holds sign.DoesNotStartWith a b = not (starts_with nat_eq a b)
holds sign.DoesNotEndWith a b = not (ends_with nat_eq a b)
holds _ a b = false

-- a relation of two texts
abbrev pub related : BinarySign → Stance → Stance → Outcome
related s (bytes a) (bytes b) = gives (boolean (holds s a b))
related s _ _ = no_row

-- `and` and `or`
abbrev pub combined : (Bool → Bool → Bool) → Stance → Stance → Outcome
combined combination (truth a) (truth b) = gives (boolean (combination a b))
combined combination _ _ = no_row

-- the row of each sign
abbrev pub row : BinarySign → Stance → Stance → Outcome
row sign.Plus a b = sum a b
row sign.Minus a b = difference a b
row sign.Times a b = product a b
row sign.Over a b = quotient a b
row sign.Mod a b = remainder a b
row sign.Join a b = joined a b
row sign.Equal a b = judged sign.Equal (compared a b)
row sign.NotEqual a b = judged sign.NotEqual (compared a b)
row sign.Less a b = judged sign.Less (compared a b)
row sign.LessOrEqual a b = judged sign.LessOrEqual (compared a b)
row sign.Greater a b = judged sign.Greater (compared a b)
row sign.GreaterOrEqual a b = judged sign.GreaterOrEqual (compared a b)
row sign.Is a b = judged sign.Is (compared a b)
row sign.IsNot a b = judged sign.IsNot (compared a b)
row sign.Contains a b = related sign.Contains a b
row sign.IsContainedBy a b = related sign.IsContainedBy a b
row sign.StartsWith a b = related sign.StartsWith a b
row sign.EndsWith a b = related sign.EndsWith a b
row sign.DoesNotContain a b = related sign.DoesNotContain a b
row sign.IsNotContainedBy a b = related sign.IsNotContainedBy a b
row sign.DoesNotStartWith a b = related sign.DoesNotStartWith a b
row sign.DoesNotEndWith a b = related sign.DoesNotEndWith a b
row sign.And a b = combined (λ x y. x && y) a b
row sign.Or a b = combined (λ x y. x || y) a b
row sign.Bar a b = no_row

-- what a sign gives for two values
abbrev pub op : BinarySign → Plain → Plain → Outcome
op s a b = row s (stance a) (stance b)

-- `-` before one operand
abbrev pub negated : Stance → Outcome
negated (number z) = whole (neg_ℤ z)
negated (seconds z) = span (neg_ℤ z)
negated _ = no_row
