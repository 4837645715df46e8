use Rattle.std.proofs.Common.{subst, sym}
use Rattle.agent_core.specs.Agents.{shown_state}
use Rattle.agent_core.specs.Devices.{devices}
use Rattle.agent_core.specs.Stops.{HeldWaitsBelow}
use Rattle.desk_rounds.specs.AgentRounds.{Makes, TakesTurn, Within, point}
use Rattle.desk_rounds.specs.Clients.{agent_client, at}
use Rattle.desk_rounds.specs.Posting.{PostsAll}
use Rattle.desk_rounds.specs.Ways.{way}
use Rattle.desk_rounds.proofs.AgentParts.{makes_both, makes_within}
use Rattle.desk_rounds.proofs.agent_rounds.turn_and_post.Goals as goal

pub returns-in-Done-clause-rest : goal.returns-in-Done-clause-rest
returns-in-Done-clause-rest g c =
    let old = point (shown_state c.args.agent.now) (way (g.L.Link.told c.args.link.now) c.args.second.now)
    (devices (g.M.Machine.told c.args.machine.now) (g.P.Pocket.told c.args.pocket.now)) (g.C.Clock.told c.args.clock.now) in
    let d = devices (g.M.Machine.told c.take_turn.new.machine) (g.P.Pocket.told c.take_turn.new.pocket) in
    let t = g.C.Clock.told c.take_turn.new.clock in
    let mid = point (shown_state c.take_turn.new.agent) (way (g.L.Link.told c.take_turn.new.link) c.take_turn.new.second) d t in
    let s = shown_state c.post_reports.new.client in
    let l = way (g.L.Link.told c.post_reports.new.link) c.post_reports.new.second in
    let new = point s l d t in
    makes_both (TakesTurn c.args.rounder.now) (Within (PostsAll agent_client)) old mid new c.args.out.now c.take_turn.new.out
    c.post_reports.new.out c.take_turn.result c.end_of.result c.in-Done.is c.take_turn.ensures.turns
    (subst (λ e. Makes (Within (PostsAll agent_client)) mid c.take_turn.new.out e new c.post_reports.new.out) (sym c.end_of.ensures)
    (makes_within (PostsAll agent_client) mid (at s l) c.post_reports.result c.take_turn.new.out c.post_reports.new.out c.post_reports.ensures.posts))

pub returns-in-Done-clause-waits : goal.returns-in-Done-clause-waits
returns-in-Done-clause-waits g c =
    subst (HeldWaitsBelow (g.M.Machine.told c.take_turn.new.machine).started) (sym c.post_reports.ensures.fixed) c.take_turn.ensures.waits
