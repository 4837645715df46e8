use Rattle.agent_core.specs.Agents.{shown_state}
use Rattle.agent_core.specs.Devices.{devices}
use Rattle.desk_rounds.specs.AgentRounds.{agent_point}
use Rattle.desk_runs.specs.AgentSteps.{agent_scene}
use Rattle.desk_runs.proofs.GrowingRounds.{made_more, made_paused}
use Rattle.desk_runs.proofs.rounding.make_rounds.Goals as goal

pub loop-number-preserved : goal.loop-number-preserved
loop-number-preserved g c =
    let rounder = c.args.rounder.now in
    let number = c.loop-number.number in
    let told = devices (g.M.Machine.told c.loop-number.machine) (g.P.Pocket.told c.loop-number.pocket) in
    let told_after = devices (g.M.Machine.told c.make_round.new.machine) (g.P.Pocket.told c.make_round.new.pocket) in
    let paused = g.L.Link.told c.pause_before.new.link in
    let before = agent_scene (agent_point (shown_state c.args.agent.now) (g.L.Link.told c.args.link.now) (devices (g.M.Machine.told c.args.machine.now) (g.P.Pocket.told c.args.pocket.now)) (g.C.Clock.told c.args.clock.now)) (g.W.Sink.told c.args.sink.now) in
    let begun = agent_scene (agent_point (shown_state c.loop-number.agent) paused told (g.C.Clock.told c.loop-number.clock)) (g.W.Sink.told c.loop-number.sink) in
    let after = agent_scene (agent_point (shown_state c.make_round.new.agent) (g.L.Link.told c.make_round.new.link) told_after (g.C.Clock.told c.make_round.new.clock)) (g.W.Sink.told c.make_round.new.sink) in
    let made = made_paused rounder number before (shown_state c.loop-number.agent) (g.L.Link.told c.loop-number.link) paused told (g.C.Clock.told c.loop-number.clock) (g.W.Sink.told c.loop-number.sink) c.pause_before.ensures c.loop-number.invariant.0 in
    (made_more rounder number before begun after tt made c.in_ok-make_round.ensures.round, c.in_ok-make_round.ensures.waits)
