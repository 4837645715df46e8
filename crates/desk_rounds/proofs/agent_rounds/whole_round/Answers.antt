use Rattle.std.proofs.Common.{subst, sym}
use Rattle.agent_core.specs.Agents.{shown_state}
use Rattle.agent_core.specs.Devices.{devices}
use Rattle.agent_core.specs.Stops.{HeldWaitsBelow}
use Rattle.desk_rounds.specs.AgentRounds.{Makes, RestOfRound, Within, point}
use Rattle.desk_rounds.specs.Clients.{agent_client, at}
use Rattle.desk_rounds.specs.Gathering.{GathersAll}
use Rattle.desk_rounds.specs.Ways.{way}
use Rattle.desk_rounds.proofs.AgentParts.{makes_both, makes_within}
use Rattle.desk_rounds.proofs.agent_rounds.whole_round.Goals as goal

pub turn_and_post-requires-clause-waits : goal.turn_and_post-requires-clause-waits
turn_and_post-requires-clause-waits g c =
    subst (HeldWaitsBelow (g.M.Machine.told c.args.machine.now).started) (sym c.gather_sites.ensures.fixed) c.requires.waits

pub returns-in-Done-clause-round : goal.returns-in-Done-clause-round
returns-in-Done-clause-round g c =
    let d = devices (g.M.Machine.told c.args.machine.now) (g.P.Pocket.told c.args.pocket.now) in
    let t = g.C.Clock.told c.args.clock.now in
    let old = point (shown_state c.args.agent.now) (way (g.L.Link.told c.args.link.now) c.args.second.now) d t in
    let s = shown_state c.gather_sites.new.client in
    let l = way (g.L.Link.told c.gather_sites.new.link) c.gather_sites.new.second in
    let mid = point s l d t in
    let new = point (shown_state c.turn_and_post.new.agent) (way (g.L.Link.told c.turn_and_post.new.link) c.turn_and_post.new.second)
    (devices (g.M.Machine.told c.turn_and_post.new.machine) (g.P.Pocket.told c.turn_and_post.new.pocket))
    (g.C.Clock.told c.turn_and_post.new.clock) in
    makes_both (Within (GathersAll agent_client)) (RestOfRound c.args.rounder.now) old mid new c.args.out.now c.gather_sites.new.out
    c.turn_and_post.new.out c.end_of.result c.turn_and_post.result c.in-Done.is
    (subst (λ e. Makes (Within (GathersAll agent_client)) old c.args.out.now e mid c.gather_sites.new.out) (sym c.end_of.ensures)
    (makes_within (GathersAll agent_client) old (at s l) c.gather_sites.result c.args.out.now c.gather_sites.new.out c.gather_sites.ensures.gathers))
    c.turn_and_post.ensures.rest
