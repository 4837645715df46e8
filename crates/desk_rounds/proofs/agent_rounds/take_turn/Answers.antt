use Rattle.std.proofs.Common.{FitsSigned, subst, w64}
use Rattle.std.proofs.lemmas.Int.{to_z-of_z}
use Rattle.line_forms.proofs.PlainLemmas.{moment_mag}
use Rattle.agent_core.specs.Agents.{shown_state}
use Rattle.agent_core.specs.Devices.{devices}
use Rattle.desk_rounds.specs.AgentRounds.{Makes, TurnsAt, point}
use Rattle.desk_rounds.specs.Ways.{way}
use Rattle.desk_rounds.proofs.AgentParts.{clock_failed, clock_made}
use Rattle.desk_rounds.proofs.agent_rounds.take_turn.Goals as goal

pub returns-in-Moment-clause-turns : goal.returns-in-Moment-clause-turns
returns-in-Moment-clause-turns g c =
    let old = point (shown_state c.args.agent.now) (way (g.L.Link.told c.args.link.now) c.args.second.now)
    (devices (g.M.Machine.told c.args.machine.now) (g.P.Pocket.told c.args.pocket.now)) (g.C.Clock.told c.args.clock.now) in
    let new = point (shown_state c.turn_at.new.agent) (way (g.L.Link.told c.turn_at.new.link) c.turn_at.new.second)
    (devices (g.M.Machine.told c.turn_at.new.machine) (g.P.Pocket.told c.turn_at.new.pocket)) (g.C.Clock.told c.now.new.self) in
    let moment = c.in-Moment.moment in
    let clock = g.C.Clock.told c.now.new.self in
    let is = c.in-Moment.ensures.tells.0 in
    let fits : FitsSigned w64 moment = record { sfits = moment_mag moment is } in
    let made = subst (λ m. Makes (TurnsAt c.args.rounder.now m) (record old { clock = clock }) c.args.out.now c.turn_at.result new c.turn_at.new.out)
    (to_z-of_z w64 moment fits) (c.turn_at.ensures.turns clock) in
    clock_made c.args.rounder.now moment old new clock c.turn_at.result c.args.out.now c.turn_at.new.out c.in-Moment.ensures made

pub returns-in-Failed-clause-turns : goal.returns-in-Failed-clause-turns
returns-in-Failed-clause-turns g c =
    let old = point (shown_state c.args.agent.now) (way (g.L.Link.told c.args.link.now) c.args.second.now)
    (devices (g.M.Machine.told c.args.machine.now) (g.P.Pocket.told c.args.pocket.now)) (g.C.Clock.told c.args.clock.now) in
    clock_failed c.args.rounder.now old (g.C.Clock.told c.now.new.self) c.args.out.now c.in-Failed.ensures
