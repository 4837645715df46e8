use Rattle.std.proofs.Common.{◌<◌, ◌≤◌, List, All, length, refl, sym, ap, subst, ◌∙◌, arith}
use Rattle.std.proofs.lemmas.List.{take_all}
use Rattle.std.proofs.lemmas.List.Elements.{All-nil}
use Rattle.group_core.specs.declared.kept_group.KeptGroup.{KeptGroup}
use Rattle.group_core.specs.Keeping.{IsReady, shown}
use Rattle.group_core.proofs.GroupLists.{ready_next, shown_next}
use Rattle.group_core.proofs.kept_group.make_ready.Goals as goal

pub loop-group-init : goal.loop-group-init
loop-group-init c = record { same = refl; ready = All-nil (IsReady c.args.name.now c.args.rows.now c.args.newer.now) }

pub loop-group-preserved : goal.loop-group-preserved
loop-group-preserved c =
    let items : List KeptGroup = c.loop-group.groups in
    let i = c.loop-group.group-index in
    let new : KeptGroup = c.make_ready.new.self in
    let inside : i < length items = omega (arith, c.loop-group-test.true, c.loop-group.auto.groups) in
    record {
      same = shown_next c.args.groups.now items i c.group-item.result new inside c.group-item.is (c.in_ok-make_ready.ensures.same ∙ ap shown (sym c.group-item.is)) c.loop-group.invariant.same;
      ready = ready_next c.args.name.now c.args.rows.now c.args.newer.now items i new inside c.in_ok-make_ready.ensures.ready c.loop-group.invariant.ready;
    }

pub returns-in_err-make_ready-clause-same : goal.returns-in_err-make_ready-clause-same
returns-in_err-make_ready-clause-same c =
    let items : List KeptGroup = c.loop-group.groups in
    let i = c.loop-group.group-index in
    let inside : i < length items = omega (arith, c.loop-group-test.true, c.loop-group.auto.groups) in
    shown_next c.args.groups.now items i c.group-item.result c.make_ready.new.self inside c.group-item.is (c.in_err-make_ready.ensures.same ∙ ap shown (sym c.group-item.is)) c.loop-group.invariant.same

pub returns-clause-ready : goal.returns-clause-ready
returns-clause-ready c =
    let items : List KeptGroup = c.loop-group.groups in
    let i = c.loop-group.group-index in
    let past : length items ≤ i = omega (arith, c.loop-group-test.false, c.loop-group.auto.groups) in
    let A : List KeptGroup → Type 0 = All (IsReady c.args.name.now c.args.rows.now c.args.newer.now) in
    subst A (take_all i items past) c.loop-group.invariant.ready
