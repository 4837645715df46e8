use Rattle.std.proofs.Common.{◌≡◌, ◌<◌, ◌≤◌, List, All, length, sym, ap, subst, ◌∙◌, arith}
use Rattle.std.proofs.lemmas.List.{take_all}
use Rattle.group_core.specs.declared.kept_group.KeptGroup.{KeptGroup}
use Rattle.group_core.proofs.DefineLemmas.{named_more, none_named}
use Rattle.group_core.proofs.Sorting.{no_name}
use Rattle.group_core.proofs.kept_group.place_of.Goals as goal

pub loop-i-preserved : goal.loop-i-preserved
loop-i-preserved c =
    let inside : c.loop-i.i < length c.args.groups.now = search (arith, c.loop-i-test.true) in
    named_more c.args.groups.now c.args.name.now c.loop-i.i c.index-groups-i.result inside c.index-groups-i.is
    (λ e. no_name c.as_str.result.now c.as_str-in-loop-i.result.now (sym c.eq.ensures ∙ c.if-eq.false) (c.as_str.ensures ∙ ap (λ (z : KeptGroup). z.group.name) (sym c.index-groups-i.is) ∙ e ∙ sym c.as_str-in-loop-i.ensures)) c.loop-i.invariant

pub returns : goal.returns
returns c =
    let groups : List KeptGroup = c.args.groups.now in
    let past : length groups ≤ c.loop-i.i = search (arith, c.loop-i-test.false) in
    let A : List KeptGroup → Type 0 = All (λ (kept : KeptGroup). kept.group.name ≡ c.args.name.now → ⊥) in
    none_named groups c.args.name.now (subst A (take_all c.loop-i.i groups past) c.loop-i.invariant)
