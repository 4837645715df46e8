use Rattle.std.proofs.Common.{refl}
use Rattle.agent_core.specs.Agents.{shown_state}
use Rattle.agent_core.specs.Devices.{devices}
use Rattle.desk_rounds.specs.AgentRounds.{GathersFirst, OpensFirst, agent_point, point}
use Rattle.desk_rounds.specs.Ways.{way}
use Rattle.desk_rounds.specs.declared.agent_rounds.RoundEnd.TheVariants as end
use Rattle.desk_rounds.proofs.AgentParts.{makes_both, makes_first, makes_round, memory_done, opened_first, unopened}
use Rattle.desk_rounds.proofs.agent_rounds.agent_round.Goals as goal

pub returns-clause-round : goal.returns-clause-round
returns-clause-round g c =
    let d = devices (g.M.Machine.told c.args.machine.now) (g.P.Pocket.told c.args.pocket.now) in
    let t = g.C.Clock.told c.args.clock.now in
    let s = shown_state c.args.agent.now in
    let rounder = c.args.rounder.now in
    let old = agent_point s (g.L.Link.told c.args.link.now) d t in
    let mid = point s (way (g.L.Link.told c.open_first.new.link) c.in-Ok.second) d t in
    let last = point (shown_state c.whole_round.new.agent) (way (g.L.Link.told c.whole_round.new.link) c.whole_round.new.second)
    (devices (g.M.Machine.told c.whole_round.new.machine) (g.P.Pocket.told c.whole_round.new.pocket)) (g.C.Clock.told c.whole_round.new.clock) in
    makes_round rounder old last c.args.out.now c.whole_round.new.out c.whole_round.result
    (makes_both (OpensFirst rounder.upstreams) (GathersFirst rounder) old mid last c.args.out.now c.args.out.now c.whole_round.new.out end.Done
    c.whole_round.result refl
    (opened_first rounder.upstreams s d t (g.L.Link.told c.args.link.now) (g.L.Link.told c.open_first.new.link) c.in-Ok.second c.args.out.now
    c.in-Ok.ensures)
    c.whole_round.ensures.round)

pub returns-in_default-clause-round : goal.returns-in_default-clause-round
returns-in_default-clause-round g c =
    let d = devices (g.M.Machine.told c.args.machine.now) (g.P.Pocket.told c.args.pocket.now) in
    let t = g.C.Clock.told c.args.clock.now in
    let s = shown_state c.args.agent.now in
    let rounder = c.args.rounder.now in
    let old = agent_point s (g.L.Link.told c.args.link.now) d t in
    let last = agent_point s (g.L.Link.told c.open_first.new.link) d t in
    makes_round rounder old last c.args.out.now c.args.out.now end.Memory
    (makes_first (OpensFirst rounder.upstreams) (GathersFirst rounder) old last c.args.out.now c.args.out.now end.Memory memory_done
    (unopened rounder.upstreams s d t (g.L.Link.told c.args.link.now) (g.L.Link.told c.open_first.new.link) c.open_first.result c.args.out.now
    c.in_default.not-Ok c.open_first.ensures))
