use Rattle.std.proofs.Common.{◌<◌, length, get_or, refl, arith}
use Rattle.bf_machine.specs.Views.{MachineView}
use Rattle.agent_attempt.specs.ActionContents.{fixlets_at}
use Rattle.agent_attempt.specs.Relevance.{Asking, SomeIs}
use Rattle.agent_attempt.proofs.Asked.{some_next, some_stop, some_end}
use Rattle.agent_attempt.proofs.relevance.some_relevant.Goals as goal

pub loop-id-init : goal.loop-id-init
loop-id-init g c = λ answer later h. h

pub loop-id-preserved : goal.loop-id-preserved
loop-id-preserved g c =
    let m = c.args.machine.now in
    let whole : Asking = SomeIs c.args.time.now (fixlets_at c.args.ids.now c.args.site.now.blocks) in
    let start : MachineView = g.M.Machine.told m in
    let below : c.loop-id.id-index < length c.args.ids.now = omega arith in
    some_next c.args.time.now c.args.ids.now c.args.site.now.blocks c.loop-id.id-index (get_or c.args.ids.now c.loop-id.id-index 0) _ _ whole start below refl c.loop-id.invariant c.in-No.ensures

pub returns-in_default : goal.returns-in_default
returns-in_default g c =
    let m = c.args.machine.now in
    let whole : Asking = SomeIs c.args.time.now (fixlets_at c.args.ids.now c.args.site.now.blocks) in
    let start : MachineView = g.M.Machine.told m in
    let below : c.loop-id.id-index < length c.args.ids.now = omega arith in
    some_stop c.args.time.now c.args.ids.now c.args.site.now.blocks c.loop-id.id-index (get_or c.args.ids.now c.loop-id.id-index 0) _ _ whole start c.one_relevant.result below refl c.loop-id.invariant c.in_default.not-No
    c.one_relevant.ensures

pub returns : goal.returns
returns g c =
    let m = c.args.machine.now in
    let whole : Asking = SomeIs c.args.time.now (fixlets_at c.args.ids.now c.args.site.now.blocks) in
    let start : MachineView = g.M.Machine.told m in
    some_end c.args.time.now c.args.ids.now c.args.site.now.blocks c.loop-id.id-index _ whole start (omega arith) c.loop-id.invariant
