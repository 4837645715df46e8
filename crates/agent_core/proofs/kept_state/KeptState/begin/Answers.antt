use Rattle.std.proofs.Common.{sym, inr}
use Rattle.std.specs.Option.{option_map}
use Rattle.bf_machine.specs.Views.{MachineView}
use Rattle.agent_attempt.specs.Stages.{shown_attempt}
use Rattle.agent_core.specs.declared.kept_state.KeptState.{KeptState}
use Rattle.agent_core.specs.Inside.{state_of}
use Rattle.agent_state.specs.States.{with_held}
use Rattle.agent_core.specs.Marking.{unmarked_state}
use Rattle.agent_core.specs.Devices.{devices}
use Rattle.agent_core.proofs.Starting.{begins_done, begins_not}
use Rattle.agent_core.proofs.kept_state.KeptState.begin.Goals as goal

pub go_on_and_finish-requires-clause-can : goal.go_on_and_finish-requires-clause-can
go_on_and_finish-requires-clause-can g c = record {
  sound = c.save_beginning.ensures.sound;
  free = c.save_beginning.ensures.free;
  runs = c.in-Ok.ensures.runs;
  waits = c.requires.begins.waits (g.M.Machine.told c.args.machine.now).started;
}

pub returns-in-Ok-clause-begins : goal.returns-in-Ok-clause-begins
returns-in-Ok-clause-begins g c =
    let a : KeptState = c.args.self.now in
    let e : KeptState = c.save_beginning.new.self in
    let began : MachineView = g.M.Machine.told c.args.machine.now in
    let now : MachineView = g.M.Machine.told c.go_on_and_finish.new.machine in
    let old = g.P.Pocket.told c.args.pocket.now in
    let mid = g.P.Pocket.told c.save_beginning.new.pocket in
    let new = g.P.Pocket.told c.go_on_and_finish.new.pocket in
    let saved = c.in-Ok.ensures.saves in
    inr (begins_done c.args.time.now (unmarked_state c.args.before.items a) (state_of a) (state_of e) (devices began old) (shown_attempt c.args.attempt) mid c.go_on_and_finish.result (state_of c.go_on_and_finish.new.self) (devices now new) saved.0 saved.1
    (c.go_on_and_finish.ensures.goes (state_of e) (λ j. with_held (option_map shown_attempt (sym c.save_beginning.ensures.free j)) (state_of e))))

pub returns-in-Err-clause-begins : goal.returns-in-Err-clause-begins
returns-in-Err-clause-begins g c =
    let a : KeptState = c.args.self.now in
    let began : MachineView = g.M.Machine.told c.args.machine.now in
    let old = g.P.Pocket.told c.args.pocket.now in
    let mid = g.P.Pocket.told c.save_beginning.new.pocket in
    begins_not c.args.time.now (unmarked_state c.args.before.items a) (state_of a) (state_of c.save_beginning.new.self) (devices began old) (shown_attempt c.args.attempt) mid c.in-Err.stop c.in-Err.ensures.saves
