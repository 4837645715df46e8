use Rattle.std.proofs.Common.{◌<◌, ◌≤◌, List, All, length, subst, arith}
use Rattle.std.proofs.lemmas.Bool.{iff_false}
use Rattle.std.proofs.lemmas.List.{take_all}
use Rattle.std.proofs.lemmas.List.Elements.{All-nil}
use Rattle.group_text.specs.declared.property.Property.{Property}
use Rattle.group_core.specs.Books.{IsTaken}
use Rattle.group_core.proofs.AddLemmas.{first_at, free_more}
use Rattle.group_core.proofs.adding.first_taken.Goals as goal

pub loop-property-init : goal.loop-property-init
loop-property-init c = All-nil (λ (p : Property). IsTaken c.args.kept.now p → ⊥)

pub loop-property-preserved : goal.loop-property-preserved
loop-property-preserved c =
    let within : c.loop-property.property-index < length c.args.properties.now = search (arith, c.loop-property-test.true) in
    free_more c.args.kept.now c.args.properties.now c.loop-property.property-index c.property-item.result within c.property-item.is c.loop-property.invariant (iff_false c.is_taken.ensures c.if-is_taken.false)

pub returns-then-is_taken : goal.returns-then-is_taken
returns-then-is_taken c =
    let within : c.loop-property.property-index < length c.args.properties.now = search (arith, c.loop-property-test.true) in
    first_at c.args.kept.now c.args.properties.now c.loop-property.property-index c.property-item.result within c.property-item.is c.loop-property.invariant (c.is_taken.ensures.0 c.if-is_taken.true)

pub returns : goal.returns
returns c =
    let past : length c.args.properties.now ≤ c.loop-property.property-index = search (arith, c.loop-property-test.false) in
    let A : List Property → Type 0 = All (λ p. IsTaken c.args.kept.now p → ⊥) in
    subst A (take_all c.loop-property.property-index c.args.properties.now past) c.loop-property.invariant
