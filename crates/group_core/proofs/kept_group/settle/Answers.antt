use Rattle.std.proofs.Common.{◌<◌, ◌≤◌, List, length, map, refl, sym, ap, subst, ◌∙◌, arith}
use Rattle.std.proofs.lemmas.List.{length-set, take_all}
use Rattle.group_core.specs.declared.kept_group.KeptGroup.{KeptGroup}
use Rattle.group_core.specs.Keeping.{HasRoom, settled, shown}
use Rattle.group_core.specs.Lists.{Ascends, itself}
use Rattle.group_core.proofs.GroupLists.{held_at, rest_next, settled_next}
use Rattle.group_core.proofs.kept_group.settle.Goals as goal

pub loop-group-init : goal.loop-group-init
loop-group-init c = record { long = refl; done = refl; rest = refl }

pub settle-requires-clause-members : goal.settle-requires-clause-members
settle-requires-clause-members c =
    let items : List KeptGroup = c.loop-group.groups in
    let i = c.loop-group.group-index in
    let inside : i < length items = omega (arith, c.loop-group-test.true, c.loop-group.auto.groups) in
    let P : KeptGroup → Type 0 = λ kept. Ascends itself kept.members.items in
    subst P c.group-item.is (held_at P c.args.groups.now items i c.group-item.result (omega (arith, inside, c.loop-group.invariant.long)) inside c.group-item.is c.loop-group.invariant.rest c.requires.members)

pub settle-requires-clause-room : goal.settle-requires-clause-room
settle-requires-clause-room c =
    let items : List KeptGroup = c.loop-group.groups in
    let i = c.loop-group.group-index in
    let inside : i < length items = omega (arith, c.loop-group-test.true, c.loop-group.auto.groups) in
    subst HasRoom c.group-item.is (held_at HasRoom c.args.groups.now items i c.group-item.result (omega (arith, inside, c.loop-group.invariant.long)) inside c.group-item.is c.loop-group.invariant.rest c.requires.room)

pub loop-group-preserved : goal.loop-group-preserved
loop-group-preserved c =
    let items : List KeptGroup = c.loop-group.groups in
    let i = c.loop-group.group-index in
    let old : List KeptGroup = c.args.groups.now in
    let new : KeptGroup = c.settle.new.self in
    let so = c.loop-group.invariant in
    let inside : i < length items = omega (arith, c.loop-group-test.true, c.loop-group.auto.groups) in
    let also : i < length old = omega (arith, inside, so.long) in
    record {
      long = length-set items i new ∙ so.long;
      done = settled_next c.args.rows.now old items i c.group-item.result new also inside c.group-item.is (c.settle.ensures ∙ ap (settled c.args.rows.now) (sym c.group-item.is)) so.done so.rest;
      rest = rest_next old items i new also inside so.rest;
    }

pub returns : goal.returns
returns c =
    let items : List KeptGroup = c.loop-group.groups in
    let old : List KeptGroup = c.args.groups.now in
    let i = c.loop-group.group-index in
    let past : length items ≤ i = omega (arith, c.loop-group-test.false, c.loop-group.auto.groups) in
    sym (ap (map shown) (take_all i items past)) ∙ c.loop-group.invariant.done ∙ ap (map (settled c.args.rows.now)) (take_all i old (omega (arith, past, c.loop-group.invariant.long)))
