use Rattle.std.proofs.Common.{◌<◌, length, arith}
use Rattle.bf_machine.specs.Views.{MachineView}
use Rattle.agent_attempt.specs.Relevance.{Asking, AllAre}
use Rattle.agent_attempt.proofs.Asked.{asks_next, asks_stop, asks_end}
use Rattle.agent_attempt.proofs.clause.ask_all.Goals as goal

pub loop-clause-init : goal.loop-clause-init
loop-clause-init g c = λ answer later h. h

pub loop-clause-preserved : goal.loop-clause-preserved
loop-clause-preserved g c =
    let m = c.args.machine.now in
    let whole : Asking = AllAre c.args.time.now c.args.clauses.now in
    let start : MachineView = g.M.Machine.told m in
    let below : c.loop-clause.clause-index < length c.args.clauses.now = omega arith in
    asks_next c.args.time.now c.args.clauses.now c.loop-clause.clause-index c.clause-item.result _ _ whole start below c.clause-item.is c.loop-clause.invariant c.in-Yes.ensures

pub returns-in_default : goal.returns-in_default
returns-in_default g c =
    let m = c.args.machine.now in
    let whole : Asking = AllAre c.args.time.now c.args.clauses.now in
    let start : MachineView = g.M.Machine.told m in
    let below : c.loop-clause.clause-index < length c.args.clauses.now = omega arith in
    asks_stop c.args.time.now c.args.clauses.now c.loop-clause.clause-index c.clause-item.result _ _ whole start c.ask.result below c.clause-item.is c.loop-clause.invariant c.in_default.not-Yes c.ask.ensures

pub returns : goal.returns
returns g c =
    let m = c.args.machine.now in
    let whole : Asking = AllAre c.args.time.now c.args.clauses.now in
    let start : MachineView = g.M.Machine.told m in
    asks_end c.args.time.now c.args.clauses.now c.loop-clause.clause-index _ whole start (omega arith) c.loop-clause.invariant
