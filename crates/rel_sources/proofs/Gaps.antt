-- The integers from one to another, one by one.
use Rattle.std.proofs.Common.{◌≡◌, true, false, cond, suc, ℤ, pos, negsuc, ◌+ℤ◌, ◌-ℤ◌, ◌≤ℤ◌, [], ◌∷◌, map, refl, sym, ap, ◌∙◌, arith}
use Rattle.std.specs.Int.{int_gap}
use Rattle.std.proofs.lemmas.Int.{ints}
use Rattle.rel_value.specs.declared.value.Value.TheVariants.{Integer, rolls-Integer}
use Rattle.rel_value.specs.declared.value.Value.TheOpen as layer
use Rattle.rel_value.specs.declared.value.Value.TheFolds.{fold-roll-Value}
use Rattle.rel_value.specs.Plain.{Plain, integer, Parts}
use Rattle.rel_value.specs.Views.{value_step, values_step, shown}
use Rattle.rel_sources.specs.declared.integers.Integers.{Integers}
use Rattle.rel_sources.specs.Traces.{Present}
use Rattle.rel_sources.specs.Rows.{integers, integers_from, integer_item}
use Rattle.rel_sources.specs.Sources.{integers_left}

-- what the value of an integer shows
pub shown-integer : (z : ℤ) → shown (Integer z) ≡ integer z
shown-integer z = ap shown (sym (rolls-Integer z)) ∙ fold-roll-Value Plain Parts value_step values_step (layer.Integer z)

-- how far the second is above the first
gap-is : (a b : ℤ) → a ≤ℤ b → pos (int_gap a b) ≡ b -ℤ a
gap-is (pos a) (pos b) h = omega (arith, ints)
gap-is (pos a) (negsuc b) h = absurd (omega (arith, ints))
gap-is (negsuc a) (pos b) h = omega (arith, ints)
gap-is (negsuc a) (negsuc b) h = omega (arith, ints)

gap-none : (a b : ℤ) → b ≤ℤ a → int_gap a b ≡ 0
gap-none (pos a) (pos b) h = omega (arith, ints)
gap-none (pos a) (negsuc b) h = refl
gap-none (negsuc a) (pos b) h = absurd (omega (arith, ints))
gap-none (negsuc a) (negsuc b) h = omega (arith, ints)

gap-more : (a b : ℤ) → a ≤ℤ b → int_gap a (b +ℤ pos 1) ≡ suc (int_gap (a +ℤ pos 1) (b +ℤ pos 1))
gap-more a b h =
    let first : pos (int_gap a (b +ℤ pos 1)) ≡ (b +ℤ pos 1) -ℤ a = gap-is a (b +ℤ pos 1) (omega (arith, ints)) in
    let second : pos (int_gap (a +ℤ pos 1) (b +ℤ pos 1)) ≡ (b +ℤ pos 1) -ℤ (a +ℤ pos 1) = gap-is (a +ℤ pos 1) (b +ℤ pos 1) (omega (arith, ints)) in
    omega (arith, ints)

pub integers-first : (a b : ℤ) → a ≤ℤ b → integers a b ≡ a ∷ integers (a +ℤ pos 1) b
integers-first a b h = ap (integers_from a) (gap-more a b h)

pub integers-none : (a b : ℤ) → (b +ℤ pos 1) ≤ℤ a → integers a b ≡ []
integers-none a b h = ap (integers_from a) (gap-none a (b +ℤ pos 1) h)

pub integers-last : (a : ℤ) → integers a a ≡ a ∷ []
integers-last a = integers-first a a (omega (arith, ints)) ∙ ap (λ l. a ∷ l) (integers-none (a +ℤ pos 1) a (omega (arith, ints)))

running : (i : Integers) → i.over ≡ false → integers_left i ≡ map integer_item (integers i.next i.last)
running i e = ap (λ b. cond b [] (map integer_item (integers i.next i.last))) e

ended : (i : Integers) → i.over ≡ true → integers_left i ≡ []
ended i e = ap (λ b. cond b [] (map integer_item (integers i.next i.last))) e

-- the last integer
pub left-last : (i j : Integers) (v : Plain) → i.over ≡ false → i.next ≡ i.last → v ≡ integer i.next → j.over ≡ true → integers_left i ≡ Present v ∷ integers_left j
left-last i j v on e is off =
    running i on
    ∙ ap (λ z. map integer_item (integers i.next z)) (sym e)
    ∙ ap (map integer_item) (integers-last i.next)
    ∙ ap (λ x. Present x ∷ []) (sym is)
    ∙ ap (λ l. Present v ∷ l) (sym (ended j off))

-- an integer before the last
pub left-more : (i j : Integers) (v : Plain) → i.over ≡ false → i.next ≤ℤ i.last → v ≡ integer i.next → j.over ≡ false → j.next ≡ i.next +ℤ pos 1 → j.last ≡ i.last → integers_left i ≡ Present v ∷ integers_left j
left-more i j v on below is still next last =
    running i on
    ∙ ap (map integer_item) (integers-first i.next i.last below)
    ∙ ap (λ x. Present x ∷ map integer_item (integers (i.next +ℤ pos 1) i.last)) (sym is)
    ∙ ap (λ z. Present v ∷ map integer_item (integers z i.last)) (sym next)
    ∙ ap (λ z. Present v ∷ map integer_item (integers j.next z)) (sym last)
    ∙ ap (λ l. Present v ∷ l) (sym (running j still))
