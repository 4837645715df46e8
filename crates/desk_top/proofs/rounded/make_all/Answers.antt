use Rattle.std.proofs.Common.{Ok, Err}
use Rattle.agent_core.specs.Agents.{shown_state}
use Rattle.desk_top.specs.Rounded.{agent_at, agent_devices}
use Rattle.desk_top.proofs.AgentEndings.{cut_counted, made_ends, whole_counted}
use Rattle.desk_top.proofs.rounded.make_all.Goals as goal

pub returns-in-Ok-clause-ends : goal.returns-in-Ok-clause-ends
returns-in-Ok-clause-ends g c =
    let old = agent_devices (g.M.Machine.told c.args.machine.now) (g.P.Pocket.told c.args.pocket.now) (g.L.Link.told c.args.link.now) (g.C.Clock.told c.args.clock.now) (g.W.Sink.told c.args.sink.now) in
    let new = agent_devices (g.M.Machine.told c.make_rounds.new.machine) (g.P.Pocket.told c.make_rounds.new.pocket) (g.L.Link.told c.make_rounds.new.link) (g.C.Clock.told c.make_rounds.new.clock) (g.W.Sink.told c.make_rounds.new.sink) in
    let begun = agent_at (shown_state c.args.agent) old in
    let last = agent_at (shown_state c.make_rounds.new.agent) new in
    let makes = c.in-Ok.ensures in
    (shown_state c.make_rounds.new.agent, makes)

pub returns-in-Ok-clause-counts : goal.returns-in-Ok-clause-counts
returns-in-Ok-clause-counts g c =
    let old = agent_devices (g.M.Machine.told c.args.machine.now) (g.P.Pocket.told c.args.pocket.now) (g.L.Link.told c.args.link.now) (g.C.Clock.told c.args.clock.now) (g.W.Sink.told c.args.sink.now) in
    let new = agent_devices (g.M.Machine.told c.make_rounds.new.machine) (g.P.Pocket.told c.make_rounds.new.pocket) (g.L.Link.told c.make_rounds.new.link) (g.C.Clock.told c.make_rounds.new.clock) (g.W.Sink.told c.make_rounds.new.sink) in
    let begun = agent_at (shown_state c.args.agent) old in
    let last = agent_at (shown_state c.make_rounds.new.agent) new in
    let makes = c.in-Ok.ensures in
    whole_counted old new (shown_state c.args.agent) (shown_state c.make_rounds.new.agent) tt (c.what_ends_rounds_was_counted.ensures c.args.rounder.now begun last c.args.count (Ok tt) makes)

pub returns-clause-ends : goal.returns-clause-ends
returns-clause-ends g c =
    let old = agent_devices (g.M.Machine.told c.args.machine.now) (g.P.Pocket.told c.args.pocket.now) (g.L.Link.told c.args.link.now) (g.C.Clock.told c.args.clock.now) (g.W.Sink.told c.args.sink.now) in
    let new = agent_devices (g.M.Machine.told c.make_rounds.new.machine) (g.P.Pocket.told c.make_rounds.new.pocket) (g.L.Link.told c.make_rounds.new.link) (g.C.Clock.told c.make_rounds.new.clock) (g.W.Sink.told c.make_rounds.new.sink) in
    let begun = agent_at (shown_state c.args.agent) old in
    let last = agent_at (shown_state c.make_rounds.new.agent) new in
    let makes = c.in-Err.ensures in
    made_ends c.args.rounder.now c.args.count begun new (shown_state c.make_rounds.new.agent) c.in-Err.stop c.of_rounds.result c.of_rounds.ensures makes

pub returns-clause-counts : goal.returns-clause-counts
returns-clause-counts g c =
    let old = agent_devices (g.M.Machine.told c.args.machine.now) (g.P.Pocket.told c.args.pocket.now) (g.L.Link.told c.args.link.now) (g.C.Clock.told c.args.clock.now) (g.W.Sink.told c.args.sink.now) in
    let new = agent_devices (g.M.Machine.told c.make_rounds.new.machine) (g.P.Pocket.told c.make_rounds.new.pocket) (g.L.Link.told c.make_rounds.new.link) (g.C.Clock.told c.make_rounds.new.clock) (g.W.Sink.told c.make_rounds.new.sink) in
    let begun = agent_at (shown_state c.args.agent) old in
    let last = agent_at (shown_state c.make_rounds.new.agent) new in
    let makes = c.in-Err.ensures in
    cut_counted old new (shown_state c.args.agent) (shown_state c.make_rounds.new.agent) c.in-Err.stop c.of_rounds.result c.of_rounds.ensures
    (c.what_ends_rounds_was_counted.ensures c.args.rounder.now begun last c.args.count (Err c.in-Err.stop) makes)
