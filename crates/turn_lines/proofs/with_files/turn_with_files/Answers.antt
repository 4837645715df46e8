use Rattle.std.proofs.Common.{FitsSigned, refl, rules, w64}
use Rattle.script_run.specs.Asking.{When}
use Rattle.agent_state.specs.States.{State}
use Rattle.agent_core.specs.Agents.{shown_state}
use Rattle.agent_core.specs.Devices.{Devices, devices}
use Rattle.turn_lines.proofs.Bounds.{came_taken, few_came, few_first, fewer_left}
use Rattle.turn_lines.proofs.Turning.{at_time, closes_last, closes_memory, closes_not_got, made_first, made_more}
use Rattle.turn_lines.proofs.with_files.turn_with_files.Goals as goal

pub files-init : goal.files-init
files-init g c =
    let moment : FitsSigned w64 c.args.time.moment = search rules in
    let offset : FitsSigned w64 c.args.time.offset = search rules in
    let at : When = record { moment = c.args.time.moment; offset = c.args.time.offset } in
    let s : State = shown_state c.args.agent.now in
    let d : Devices = devices (g.M.Machine.told c.args.machine.now) (g.P.Pocket.told c.args.pocket.now) in
    let s2 : State = shown_state c.turn-turned.new.self in
    let d2 : Devices = devices (g.M.Machine.told c.turn-turned.new.machine) (g.P.Pocket.told c.turn-turned.new.pocket) in
    let turn = at_time c.args.time.moment c.args.time.offset s d c.turn-turned.result s2 d2 moment offset c.turn-turned.ensures.turns in
    record {
      waits = c.turn-turned.ensures.waits;
      started = c.turn-turned.ensures.started;
      holds = refl;
      made = made_first _ at s d _ c.turn-turned.result s2 d2 turn c.turn-turned.ensures.cause;
      few = few_first c.wants_come_to_an_end.ensures.wanted at s d c.turn-turned.result c.turn-turned.new.self d2 _ turn;
    }

pub turn-next-requires-clause-waits : goal.turn-next-requires-clause-waits
turn-next-requires-clause-waits g c = c.fetch.ensures.waits _ c.files.invariant.waits

pub files-preserved : goal.files-preserved
files-preserved g c =
    let moment : FitsSigned w64 c.args.time.moment = search rules in
    let offset : FitsSigned w64 c.args.time.offset = search rules in
    let at : When = record { moment = c.args.time.moment; offset = c.args.time.offset } in
    let s : State = shown_state c.fetch.new.agent in
    let d : Devices = devices (g.M.Machine.told c.files.machine) (g.P.Pocket.told c.files.pocket) in
    let s2 : State = shown_state c.turn-next.new.self in
    let d2 : Devices = devices (g.M.Machine.told c.turn-next.new.machine) (g.P.Pocket.told c.turn-next.new.pocket) in
    let turn = at_time c.args.time.moment c.args.time.offset s d c.turn-next.result s2 d2 moment offset c.turn-next.ensures.turns in
    let came = came_taken _ _ _ c.files.turned c.in-Wants.id c.in-Wants.began c.in-Wants.digest _ _ _ _ c.in-Wants.is c.files.invariant.few c.in-Came.ensures.fetches in
    record {
      waits = c.turn-next.ensures.waits;
      started = search rules;
      holds = search rules;
      made = made_more _ _ _ _ _ c.files.turned c.in-Wants.id c.in-Wants.began c.in-Wants.digest _ d _ s _ c.turn-next.result _ s2 d2 c.files.invariant.made c.agents_are_sound.ensures c.in-Wants.is came turn c.turn-next.ensures.cause
          c.with_begun-turned.ensures;
      few = few_came _ c.wants_come_to_an_end.ensures.wanted c.wants_come_to_an_end.ensures.fewer _ c.files.turned c.in-Wants.id c.in-Wants.began c.in-Wants.digest c.files.agent _ _ _ c.in-Wants.is c.files.invariant.few
          c.in-Came.ensures.fetches at d c.turn-next.result _ s2 d2 turn c.with_begun-turned.ensures;
    }

pub files-smaller : goal.files-smaller
files-smaller g c = fewer_left _ _ c.files.turned c.in-Wants.id c.in-Wants.began c.in-Wants.digest _ _ _ _ c.in-Wants.is c.files.invariant.few c.in-Came.ensures.fetches

pub returns-in_default : goal.returns-in_default
returns-in_default g c = record {
  turns = closes_last _ _ _ _ _ c.files.turned _ _ _ c.files.invariant.made c.in_default.not-Wants;
  waits = c.files.invariant.waits;
  started = c.files.invariant.started;
  holds = c.files.invariant.holds;
}

pub returns-in-NotGot-clause-turns : goal.returns-in-NotGot-clause-turns
returns-in-NotGot-clause-turns g c = closes_not_got _ _ _ _ _ c.files.turned c.in-Wants.id c.in-Wants.began c.in-Wants.digest _ _ _ _ _ c.files.invariant.made c.in-Wants.is c.in-NotGot.ensures.fetches

pub returns-in-Memory-clause-turns : goal.returns-in-Memory-clause-turns
returns-in-Memory-clause-turns g c = closes_memory _ _ _ _ _ c.files.turned c.in-Wants.id c.in-Wants.began c.in-Wants.digest _ _ _ _ _ c.files.invariant.made c.in-Wants.is c.in-Memory.ensures.fetches
