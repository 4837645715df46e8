use Rattle.std.proofs.Common.{◌≡◌, ◌+◌, ◌<◌, List, [], ◌∷◌, length, take, sym, ap, ◌∙◌, arith, length-append, rules}
use Rattle.std.proofs.lemmas.List.{length-take-le}
use Rattle.group_text.specs.declared.property.Property.{Property}
use Rattle.group_core.specs.Books.{new_ones}
use Rattle.group_core.proofs.AddLemmas.{fewer_new, new_more, old_more}
use Rattle.group_core.proofs.adding.count_new.Goals as goal
use Rattle.group_core.proofs.adding.count_new.Goals.{then-is_new, else-is_new}

pub loop-property-preserved : goal.loop-property-preserved
loop-property-preserved c =
    let kept : List Property = c.args.kept.now in
    let ps : List Property = c.args.properties.now in
    let i = c.loop-property.property-index in
    let p : Property = c.property-item.result in
    let inside : i < length ps = search (arith, c.loop-property-test.true) in
    elim c.if-is_new.branch [
      | then-is_new w ↦
          w.count-is ∙ ap (λ n. n + 1) c.loop-property.invariant ∙ sym (length-append (new_ones kept (take i ps)) (p ∷ [])) ∙ ap (length {A = Property}) (sym (new_more kept ps i p inside c.property-item.is (sym c.is_new.ensures ∙ w.if-is_new.true)))
      | else-is_new w ↦ w.count-is ∙ c.loop-property.invariant ∙ ap (length {A = Property}) (sym (old_more kept ps i p inside c.property-item.is (sym c.is_new.ensures ∙ w.if-is_new.false)))
    ]

pub overflow_add-count : goal.overflow_add-count
overflow_add-count c =
    let ps : List Property = c.args.properties.now in
    let i = c.loop-property.property-index in
    let inside : i < length ps = search (arith, c.loop-property-test.true) in
    let few = fewer_new c.args.kept.now (take i ps) in
    let front : length (take i ps) ≡ i = length-take-le i ps (omega (arith, inside)) in
    let count : c.loop-property.count < length ps = omega (arith, few, front, inside, c.loop-property.invariant) in
    search (rules, count)
