use Rattle.std.proofs.Common.{◌≡◌, pos, ◌+ℤ◌, ◌≤ℤ◌, to_z, of_z, w64, ap, ◌∙◌, arith}
use Rattle.std.proofs.lemmas.Int.{ints}
use Rattle.rel_value.specs.Plain.{integer}
use Rattle.rel_sources.specs.declared.integers.Integers.{Integers}
use Rattle.rel_sources.proofs.Gaps.{shown-integer, left-last, left-more}
use Rattle.rel_sources.proofs.integers.Integers.draw.Goals as goal
use Rattle.rel_sources.proofs.integers.Integers.draw.Goals.{then-number-self, else-number-self}

pub returns : goal.returns
returns c =
    let old = c.args.self.now in
    let new = c.if-number-self.self in
    let same : to_z w64 (of_z w64 old.next) ≡ old.next = omega (arith, ints) in
    let given = shown-integer (to_z w64 (of_z w64 old.next)) ∙ ap integer same in
    elim c.if-number-self.branch [
      | then-number-self w ↦
          let last : old.next ≡ old.last = omega (arith, ints) in
          left-last old new _ c.if-self.false last given (ap (λ (s : Integers). s.over) w.self-is)
      | else-number-self w ↦
          let below : old.next ≤ℤ old.last = omega (arith, ints) in
          let next : new.next ≡ old.next +ℤ pos 1 = omega (arith, ints, ap (λ (s : Integers). s.next) w.self-is) in
          left-more old new _ c.if-self.false below given (ap (λ (s : Integers). s.over) w.self-is ∙ c.if-self.false) next (ap (λ (s : Integers). s.last) w.self-is)
    ]
