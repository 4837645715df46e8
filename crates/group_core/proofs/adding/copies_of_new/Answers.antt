use Rattle.std.proofs.Common.{◌<◌, List, [], ◌∷◌, ◌++◌, Vec, Global, length, sym, ap, ◌∙◌, arith}
use Rattle.group_text.specs.declared.property.Property.{Property}
use Rattle.group_core.proofs.AddLemmas.{new_more, old_more}
use Rattle.group_core.proofs.adding.copies_of_new.Goals as goal
use Rattle.group_core.proofs.adding.copies_of_new.Goals.{then-is_new+in_ok-copy+in_ok-push, else-is_new}

pub loop-property-preserved : goal.loop-property-preserved
loop-property-preserved c =
    let kept : List Property = c.args.kept.now in
    let ps : List Property = c.args.properties.now in
    let i = c.loop-property.property-index in
    let p : Property = c.property-item.result in
    let inside : i < length ps = search (arith, c.loop-property-test.true) in
    elim c.if-is_new.branch [
      | then-is_new+in_ok-copy+in_ok-push w ↦
          ap (λ (v : Vec Property Global). v.items) w.new-is ∙ w.in_ok-push.ensures.items ∙ (λ t. c.loop-property.invariant t ++ w.in_ok-copy.ensures t ∷ [])
          ∙ sym (new_more kept ps i p inside c.property-item.is (sym c.is_new.ensures ∙ w.if-is_new.true))
      | else-is_new w ↦ ap (λ (v : Vec Property Global). v.items) w.new-is ∙ c.loop-property.invariant ∙ sym (old_more kept ps i p inside c.property-item.is (sym c.is_new.ensures ∙ w.if-is_new.false))
    ]
