-- Rows and their kinds. Other crates may cite these lemmas.
use Rattle.std.proofs.Common.{◌≡◌, ℕ, zero, suc, ℤ, pos, negsuc, ◌+ℤ◌, ◌-ℤ◌, ◌*ℤ◌, int_div, int_rem, Bool, true, false, ◌&&◌, ◌||◌, not, cond, List, ◌++◌, length, nat_le, Option, Some, None, refl, sym, subst}
use Rattle.rel_lexer.specs.declared.operator.BinarySign.{BinarySign}
use Rattle.rel_lexer.specs.declared.operator.BinarySign.TheVariants as sign
use Rattle.rel_value.specs.declared.fault.ValueFault.{ValueFault}
use Rattle.rel_value.specs.declared.fault.ValueFault.TheVariants.{OutOfRange, TextTooLong}
use Rattle.rel_value.specs.Plain.{Plain, boolean, integer, words, part, time, interval, version, PlainKind, booleans, integers, texts, times, intervals, kind_of}
use Rattle.rel_value.specs.Outcomes.{Outcome, gives, fails, no_row, whole, span, moment, fits_i64, is_moment}
use Rattle.rel_value.specs.Operands.{Stance, truth, number, bytes, instant, seconds, numbers, other, stance}
use Rattle.rel_value.specs.Versions.{version_of, version_cmp}
use Rattle.rel_value.specs.Kinds.{Sort, truths, whole_numbers, words_or_parts, instants, spans, number_lists, others, sort_of, sum_kind, difference_kind, product_kind, quotient_kind, remainder_kind, joined_kind, order_kind, equality_kind, relation_kind, combined_kind, row_kind, binary_kind, IsOfKind}
use Rattle.rel_value.specs.Signs.{sum, difference, product, quotient, remainder, joined, divided, beside, compared, same, sameness, judged, related, combined, row, op}
use Rattle.std.specs.declared.cmp.Ordering.{Ordering}

abbrev stance_sort : Stance → Sort
stance_sort (truth b) = truths
stance_sort (number z) = whole_numbers
stance_sort (bytes t) = words_or_parts
stance_sort (instant z) = instants
stance_sort (seconds z) = spans
stance_sort (numbers ns) = number_lists
stance_sort other = others

sort-stance : (a : Plain) → sort_of (kind_of a) ≡ stance_sort (stance a)
sort-stance (boolean b) = refl
sort-stance (integer z) = refl
sort-stance (words t) = refl
sort-stance (part w from to) = refl
sort-stance (time z) = refl
sort-stance (interval z) = refl
sort-stance (version ns) = refl
sort-stance _ = refl

either-kind : (kind : PlainKind) (v : Plain) (fault : ValueFault) (t : Bool) → kind_of v ≡ kind → IsOfKind (Some kind) (cond t (gives v) (fails fault))
either-kind kind v fault true h = h
either-kind kind v fault false h = tt

whole-kind : (z : ℤ) → IsOfKind (Some integers) (whole z)
whole-kind z = either-kind integers (integer z) OutOfRange (fits_i64 z) refl

span-kind : (z : ℤ) → IsOfKind (Some intervals) (span z)
span-kind z = either-kind intervals (interval z) OutOfRange (fits_i64 z) refl

moment-kind : (z : ℤ) → IsOfKind (Some times) (moment z)
moment-kind z = either-kind times (time z) OutOfRange (is_moment z) refl

divided-kind : (kind : PlainKind) (b : ℤ) (o : Outcome) → IsOfKind (Some kind) o → IsOfKind (Some kind) (divided b o)
divided-kind kind (pos zero) o h = tt
divided-kind kind (pos (suc n)) o h = h
divided-kind kind (negsuc n) o h = h

sum-kind : (x y : Stance) → IsOfKind (sum_kind (stance_sort x) (stance_sort y)) (sum x y)
sum-kind (number a) (number b) = whole-kind (a +ℤ b)
sum-kind (seconds a) (seconds b) = span-kind (a +ℤ b)
sum-kind (instant a) (seconds b) = moment-kind (a +ℤ b)
sum-kind (seconds a) (instant b) = moment-kind (a +ℤ b)
sum-kind _ _ = tt

difference-kind : (x y : Stance) → IsOfKind (difference_kind (stance_sort x) (stance_sort y)) (difference x y)
difference-kind (number a) (number b) = whole-kind (a -ℤ b)
difference-kind (seconds a) (seconds b) = span-kind (a -ℤ b)
difference-kind (instant a) (seconds b) = moment-kind (a -ℤ b)
difference-kind (instant a) (instant b) = span-kind (a -ℤ b)
difference-kind _ _ = tt

product-kind : (x y : Stance) → IsOfKind (product_kind (stance_sort x) (stance_sort y)) (product x y)
product-kind (number a) (number b) = whole-kind (a *ℤ b)
product-kind (seconds a) (number b) = span-kind (a *ℤ b)
product-kind (number a) (seconds b) = span-kind (a *ℤ b)
product-kind _ _ = tt

quotient-kind : (x y : Stance) → IsOfKind (quotient_kind (stance_sort x) (stance_sort y)) (quotient x y)
quotient-kind (number a) (number b) = divided-kind integers b (whole (int_div a b)) (whole-kind (int_div a b))
quotient-kind (seconds a) (number b) = divided-kind intervals b (span (int_div a b)) (span-kind (int_div a b))
quotient-kind (seconds a) (seconds b) = divided-kind integers b (whole (int_div a b)) (whole-kind (int_div a b))
quotient-kind _ _ = tt

remainder-kind : (x y : Stance) → IsOfKind (remainder_kind (stance_sort x) (stance_sort y)) (remainder x y)
remainder-kind (number a) (number b) = divided-kind integers b (whole (int_rem a b)) (whole-kind (int_rem a b))
remainder-kind _ _ = tt

joined-kind : (x y : Stance) → IsOfKind (joined_kind (stance_sort x) (stance_sort y)) (joined x y)
joined-kind (bytes a) (bytes b) = either-kind texts (words (a ++ b)) TextTooLong (nat_le (length (a ++ b)) 1048576) refl
joined-kind _ _ = tt

related-kind : (s : BinarySign) (x y : Stance) → IsOfKind (relation_kind (stance_sort x) (stance_sort y)) (related s x y)
related-kind s (bytes a) (bytes b) = refl
related-kind s _ _ = tt

combined-kind : (f : Bool → Bool → Bool) (x y : Stance) → IsOfKind (combined_kind (stance_sort x) (stance_sort y)) (combined f x y)
combined-kind f (truth a) (truth b) = refl
combined-kind f _ _ = tt

beside-kind : (s : BinarySign) (order : List ℕ → Ordering) (v : Option (List ℕ)) → IsOfKind (Some booleans) (judged s (beside order v))
beside-kind s order None = tt
beside-kind s order (Some ns) = refl

order-kind : (s : BinarySign) → ((b : Bool) → sameness s b ≡ no_row) → (x y : Stance) → IsOfKind (order_kind (stance_sort x) (stance_sort y)) (judged s (compared x y))
order-kind s h (number a) (number b) = refl
order-kind s h (bytes a) (bytes b) = refl
order-kind s h (instant a) (instant b) = refl
order-kind s h (seconds a) (seconds b) = refl
order-kind s h (numbers a) (numbers b) = refl
order-kind s h (numbers a) (bytes b) = beside-kind s (λ ns. version_cmp a ns) (version_of b)
order-kind s h (bytes a) (numbers b) = beside-kind s (λ ns. version_cmp ns b) (version_of a)
order-kind s h (truth a) (truth b) = let P : Outcome → Type 0 = λ o. IsOfKind None o in subst P (sym (h (same a b))) tt
order-kind s h _ _ = tt

equality-kind : (s : BinarySign) (f : Bool → Bool) → ((b : Bool) → sameness s b ≡ gives (boolean (f b))) → (x y : Stance) → IsOfKind (equality_kind (stance_sort x) (stance_sort y)) (judged s (compared x y))
equality-kind s f h (number a) (number b) = refl
equality-kind s f h (bytes a) (bytes b) = refl
equality-kind s f h (instant a) (instant b) = refl
equality-kind s f h (seconds a) (seconds b) = refl
equality-kind s f h (numbers a) (numbers b) = refl
equality-kind s f h (numbers a) (bytes b) = beside-kind s (λ ns. version_cmp a ns) (version_of b)
equality-kind s f h (bytes a) (numbers b) = beside-kind s (λ ns. version_cmp ns b) (version_of a)
equality-kind s f h (truth a) (truth b) = let P : Outcome → Type 0 = λ o. IsOfKind (Some booleans) o in subst P (sym (h (same a b))) refl
equality-kind s f h _ _ = tt

rows-kind : (s : BinarySign) (x y : Stance) → IsOfKind (row_kind s (stance_sort x) (stance_sort y)) (row s x y)
rows-kind sign.Plus x y = sum-kind x y
rows-kind sign.Minus x y = difference-kind x y
rows-kind sign.Times x y = product-kind x y
rows-kind sign.Over x y = quotient-kind x y
rows-kind sign.Mod x y = remainder-kind x y
rows-kind sign.Join x y = joined-kind x y
rows-kind sign.Equal x y = equality-kind sign.Equal (λ b. b) (λ b. refl) x y
rows-kind sign.NotEqual x y = equality-kind sign.NotEqual not (λ b. refl) x y
rows-kind sign.Is x y = equality-kind sign.Is (λ b. b) (λ b. refl) x y
rows-kind sign.IsNot x y = equality-kind sign.IsNot not (λ b. refl) x y
rows-kind sign.Less x y = order-kind sign.Less (λ b. refl) x y
rows-kind sign.LessOrEqual x y = order-kind sign.LessOrEqual (λ b. refl) x y
rows-kind sign.Greater x y = order-kind sign.Greater (λ b. refl) x y
rows-kind sign.GreaterOrEqual x y = order-kind sign.GreaterOrEqual (λ b. refl) x y
rows-kind sign.Contains x y = related-kind sign.Contains x y
rows-kind sign.IsContainedBy x y = related-kind sign.IsContainedBy x y
rows-kind sign.StartsWith x y = related-kind sign.StartsWith x y
rows-kind sign.EndsWith x y = related-kind sign.EndsWith x y
rows-kind sign.DoesNotContain x y = related-kind sign.DoesNotContain x y
rows-kind sign.IsNotContainedBy x y = related-kind sign.IsNotContainedBy x y
rows-kind sign.DoesNotStartWith x y = related-kind sign.DoesNotStartWith x y
rows-kind sign.DoesNotEndWith x y = related-kind sign.DoesNotEndWith x y
rows-kind sign.And x y = combined-kind (λ p q. p && q) x y
rows-kind sign.Or x y = combined-kind (λ p q. p || q) x y
rows-kind sign.Bar x y = tt

pub binary-kinds : (s : BinarySign) (a b : Plain) → IsOfKind (binary_kind s (kind_of a) (kind_of b)) (op s a b)
binary-kinds s a b =
    let P : Sort → Type 0 = λ x. IsOfKind (row_kind s x (sort_of (kind_of b))) (op s a b) in
    let Q : Sort → Type 0 = λ y. IsOfKind (row_kind s (stance_sort (stance a)) y) (op s a b) in
    subst P (sym (sort-stance a)) (subst Q (sym (sort-stance b)) (rows-kind s (stance a) (stance b)))
