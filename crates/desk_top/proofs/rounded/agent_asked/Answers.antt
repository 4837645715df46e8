use Rattle.std.proofs.Common.{◌≡◌, inl, refl, ap}
use Rattle.agent_core.specs.Agents.{shown_state}
use Rattle.agent_core.specs.declared.opening.Opened.TheVariants as opened
use Rattle.desk_rounds.specs.declared.agent_rounds.Rounder.{Rounder}
use Rattle.desk_top.specs.declared.status.Status.TheVariants.{Memory}
use Rattle.desk_top.specs.Rounded.{agent_at, agent_devices}
use Rattle.desk_top.proofs.AgentEndings.{copied_offset, counted_later, ends_by, fault_counted, named_counts, named_none, none_counts, opened_by, opened_counts, opened_none, opened_waits, opens_rounds, refusal_counted, refusal_ends, rounds_end, same_counted, says_as}
use Rattle.desk_top.proofs.rounded.agent_asked.Goals as goal

pub returns-in-Err-clause-ends : goal.returns-in-Err-clause-ends
returns-in-Err-clause-ends g c =
    let old = agent_devices (g.M.Machine.told c.args.machine.now) (g.P.Pocket.told c.args.pocket.now) (g.L.Link.told c.args.link.now) (g.C.Clock.told c.args.clock.now) (g.W.Sink.told c.args.sink.now) in
    let mid = agent_devices (g.M.Machine.told c.name_places.new.machine) (g.P.Pocket.told c.name_places.new.pocket) (g.L.Link.told c.name_places.new.link) (g.C.Clock.told c.args.clock.now) (g.W.Sink.told c.args.sink.now) in
    let none = c.in-Err.ensures (g.C.Clock.told c.args.clock.now) (g.W.Sink.told c.args.sink.now) in
    inl (none, refl, refl)

pub returns-in-Err-clause-counts : goal.returns-in-Err-clause-counts
returns-in-Err-clause-counts g c =
    let old = agent_devices (g.M.Machine.told c.args.machine.now) (g.P.Pocket.told c.args.pocket.now) (g.L.Link.told c.args.link.now) (g.C.Clock.told c.args.clock.now) (g.W.Sink.told c.args.sink.now) in
    let mid = agent_devices (g.M.Machine.told c.name_places.new.machine) (g.P.Pocket.told c.name_places.new.pocket) (g.L.Link.told c.name_places.new.link) (g.C.Clock.told c.args.clock.now) (g.W.Sink.told c.args.sink.now) in
    let none = c.in-Err.ensures (g.C.Clock.told c.args.clock.now) (g.W.Sink.told c.args.sink.now) in
    same_counted Memory old mid (λ e. cc) (λ e. cc) (λ e. cc) (none_counts c.args.asked old mid none refl refl)

pub returns-in_default-clause-ends : goal.returns-in_default-clause-ends
returns-in_default-clause-ends g c =
    let old = agent_devices (g.M.Machine.told c.args.machine.now) (g.P.Pocket.told c.args.pocket.now) (g.L.Link.told c.args.link.now) (g.C.Clock.told c.args.clock.now) (g.W.Sink.told c.args.sink.now) in
    let mid = agent_devices (g.M.Machine.told c.name_places.new.machine) (g.P.Pocket.told c.name_places.new.pocket) (g.L.Link.told c.name_places.new.link) (g.C.Clock.told c.args.clock.now) (g.W.Sink.told c.args.sink.now) in
    let named = c.in-Ok.ensures (g.C.Clock.told c.args.clock.now) (g.W.Sink.told c.args.sink.now) in
    inl (named_none c.args.asked old mid named, refl, refl)

pub returns-in_default-clause-counts : goal.returns-in_default-clause-counts
returns-in_default-clause-counts g c =
    let old = agent_devices (g.M.Machine.told c.args.machine.now) (g.P.Pocket.told c.args.pocket.now) (g.L.Link.told c.args.link.now) (g.C.Clock.told c.args.clock.now) (g.W.Sink.told c.args.sink.now) in
    let mid = agent_devices (g.M.Machine.told c.name_places.new.machine) (g.P.Pocket.told c.name_places.new.pocket) (g.L.Link.told c.name_places.new.link) (g.C.Clock.told c.args.clock.now) (g.W.Sink.told c.args.sink.now) in
    let named = c.in-Ok.ensures (g.C.Clock.told c.args.clock.now) (g.W.Sink.told c.args.sink.now) in
    same_counted Memory old mid (λ e. cc) (λ e. cc) (λ e. cc) (named_counts c.args.asked old mid named)

pub returns-in-BadPocket-clause-ends : goal.returns-in-BadPocket-clause-ends
returns-in-BadPocket-clause-ends g c =
    let old = agent_devices (g.M.Machine.told c.args.machine.now) (g.P.Pocket.told c.args.pocket.now) (g.L.Link.told c.args.link.now) (g.C.Clock.told c.args.clock.now) (g.W.Sink.told c.args.sink.now) in
    let mid = agent_devices (g.M.Machine.told c.name_places.new.machine) (g.P.Pocket.told c.name_places.new.pocket) (g.L.Link.told c.name_places.new.link) (g.C.Clock.told c.args.clock.now) (g.W.Sink.told c.args.sink.now) in
    let after = agent_devices (g.M.Machine.told c.name_places.new.machine) (g.P.Pocket.told c.open.new.pocket) (g.L.Link.told c.name_places.new.link) (g.C.Clock.told c.args.clock.now) (g.W.Sink.told c.args.sink.now) in
    let named = c.in-Ok.ensures (g.C.Clock.told c.args.clock.now) (g.W.Sink.told c.args.sink.now) in
    let from = opened_by c.args.asked.name.now c.in-Ok-rounder_of.rounder.name mid.pocket after.pocket (opened.BadPocket c.in-BadPocket.line) (ap (λ (r : Rounder). r.name) c.in-Ok-rounder_of.ensures) c.in-BadPocket.ensures.opens in
    let opens = opens_rounds c.args.asked old mid (opened.BadPocket c.in-BadPocket.line) after.pocket named from in
    refusal_ends c.args.asked c.in-BadPocket.line c.refuse.result old after (g.W.Sink.told c.refuse.new.sink) (c.refuse.new.sink ≡ c.args.sink.now) (c.args.clock.now ≡ c.args.clock.now) opens c.refuse.ensures refl

pub returns-in-BadPocket-clause-counts : goal.returns-in-BadPocket-clause-counts
returns-in-BadPocket-clause-counts g c =
    let old = agent_devices (g.M.Machine.told c.args.machine.now) (g.P.Pocket.told c.args.pocket.now) (g.L.Link.told c.args.link.now) (g.C.Clock.told c.args.clock.now) (g.W.Sink.told c.args.sink.now) in
    let mid = agent_devices (g.M.Machine.told c.name_places.new.machine) (g.P.Pocket.told c.name_places.new.pocket) (g.L.Link.told c.name_places.new.link) (g.C.Clock.told c.args.clock.now) (g.W.Sink.told c.args.sink.now) in
    let after = agent_devices (g.M.Machine.told c.name_places.new.machine) (g.P.Pocket.told c.open.new.pocket) (g.L.Link.told c.name_places.new.link) (g.C.Clock.told c.args.clock.now) (g.W.Sink.told c.args.sink.now) in
    let named = c.in-Ok.ensures (g.C.Clock.told c.args.clock.now) (g.W.Sink.told c.args.sink.now) in
    let from = opened_by c.args.asked.name.now c.in-Ok-rounder_of.rounder.name mid.pocket after.pocket (opened.BadPocket c.in-BadPocket.line) (ap (λ (r : Rounder). r.name) c.in-Ok-rounder_of.ensures) c.in-BadPocket.ensures.opens in
    let opens = opens_rounds c.args.asked old mid (opened.BadPocket c.in-BadPocket.line) after.pocket named from in
    let says = says_as c.refuse.result c.in-BadPocket.line after.sink (g.W.Sink.told c.refuse.new.sink) (c.refuse.new.sink ≡ c.args.sink.now) (g.W.Sink.told c.refuse.new.sink ≡ after.sink) (λ e. ap (λ s. g.W.Sink.told s) e) c.refuse.ensures in
    refusal_counted c.args.asked c.in-BadPocket.line c.refuse.result old after (g.W.Sink.told c.refuse.new.sink) opens says

pub returns-in-PocketFault-clause-ends : goal.returns-in-PocketFault-clause-ends
returns-in-PocketFault-clause-ends g c =
    let old = agent_devices (g.M.Machine.told c.args.machine.now) (g.P.Pocket.told c.args.pocket.now) (g.L.Link.told c.args.link.now) (g.C.Clock.told c.args.clock.now) (g.W.Sink.told c.args.sink.now) in
    let mid = agent_devices (g.M.Machine.told c.name_places.new.machine) (g.P.Pocket.told c.name_places.new.pocket) (g.L.Link.told c.name_places.new.link) (g.C.Clock.told c.args.clock.now) (g.W.Sink.told c.args.sink.now) in
    let after = agent_devices (g.M.Machine.told c.name_places.new.machine) (g.P.Pocket.told c.open.new.pocket) (g.L.Link.told c.name_places.new.link) (g.C.Clock.told c.args.clock.now) (g.W.Sink.told c.args.sink.now) in
    let named = c.in-Ok.ensures (g.C.Clock.told c.args.clock.now) (g.W.Sink.told c.args.sink.now) in
    let from = opened_by c.args.asked.name.now c.in-Ok-rounder_of.rounder.name mid.pocket after.pocket opened.PocketFault (ap (λ (r : Rounder). r.name) c.in-Ok-rounder_of.ensures) c.in-PocketFault.ensures.opens in
    let opens = opens_rounds c.args.asked old mid opened.PocketFault after.pocket named from in
    inl (opens, refl, refl)

pub returns-in-PocketFault-clause-counts : goal.returns-in-PocketFault-clause-counts
returns-in-PocketFault-clause-counts g c =
    let old = agent_devices (g.M.Machine.told c.args.machine.now) (g.P.Pocket.told c.args.pocket.now) (g.L.Link.told c.args.link.now) (g.C.Clock.told c.args.clock.now) (g.W.Sink.told c.args.sink.now) in
    let mid = agent_devices (g.M.Machine.told c.name_places.new.machine) (g.P.Pocket.told c.name_places.new.pocket) (g.L.Link.told c.name_places.new.link) (g.C.Clock.told c.args.clock.now) (g.W.Sink.told c.args.sink.now) in
    let after = agent_devices (g.M.Machine.told c.name_places.new.machine) (g.P.Pocket.told c.open.new.pocket) (g.L.Link.told c.name_places.new.link) (g.C.Clock.told c.args.clock.now) (g.W.Sink.told c.args.sink.now) in
    let named = c.in-Ok.ensures (g.C.Clock.told c.args.clock.now) (g.W.Sink.told c.args.sink.now) in
    let from = opened_by c.args.asked.name.now c.in-Ok-rounder_of.rounder.name mid.pocket after.pocket opened.PocketFault (ap (λ (r : Rounder). r.name) c.in-Ok-rounder_of.ensures) c.in-PocketFault.ensures.opens in
    let opens = opens_rounds c.args.asked old mid opened.PocketFault after.pocket named from in
    fault_counted c.args.asked old after opens

pub returns-clause-ends : goal.returns-clause-ends
returns-clause-ends g c =
    let old = agent_devices (g.M.Machine.told c.args.machine.now) (g.P.Pocket.told c.args.pocket.now) (g.L.Link.told c.args.link.now) (g.C.Clock.told c.args.clock.now) (g.W.Sink.told c.args.sink.now) in
    let mid = agent_devices (g.M.Machine.told c.name_places.new.machine) (g.P.Pocket.told c.name_places.new.pocket) (g.L.Link.told c.name_places.new.link) (g.C.Clock.told c.args.clock.now) (g.W.Sink.told c.args.sink.now) in
    let after = agent_devices (g.M.Machine.told c.name_places.new.machine) (g.P.Pocket.told c.open.new.pocket) (g.L.Link.told c.name_places.new.link) (g.C.Clock.told c.args.clock.now) (g.W.Sink.told c.args.sink.now) in
    let named = c.in-Ok.ensures (g.C.Clock.told c.args.clock.now) (g.W.Sink.told c.args.sink.now) in
    let from = opened_by c.args.asked.name.now c.in-Ok-rounder_of.rounder.name mid.pocket after.pocket opened.Memory (ap (λ (r : Rounder). r.name) c.in-Ok-rounder_of.ensures) c.in-Memory.ensures.opens in
    let opens = opens_rounds c.args.asked old mid opened.Memory after.pocket named from in
    inl (opened_none c.args.asked old after opened.Memory (λ e. cc) opens, refl, refl)

pub returns-clause-counts : goal.returns-clause-counts
returns-clause-counts g c =
    let old = agent_devices (g.M.Machine.told c.args.machine.now) (g.P.Pocket.told c.args.pocket.now) (g.L.Link.told c.args.link.now) (g.C.Clock.told c.args.clock.now) (g.W.Sink.told c.args.sink.now) in
    let mid = agent_devices (g.M.Machine.told c.name_places.new.machine) (g.P.Pocket.told c.name_places.new.pocket) (g.L.Link.told c.name_places.new.link) (g.C.Clock.told c.args.clock.now) (g.W.Sink.told c.args.sink.now) in
    let after = agent_devices (g.M.Machine.told c.name_places.new.machine) (g.P.Pocket.told c.open.new.pocket) (g.L.Link.told c.name_places.new.link) (g.C.Clock.told c.args.clock.now) (g.W.Sink.told c.args.sink.now) in
    let named = c.in-Ok.ensures (g.C.Clock.told c.args.clock.now) (g.W.Sink.told c.args.sink.now) in
    let from = opened_by c.args.asked.name.now c.in-Ok-rounder_of.rounder.name mid.pocket after.pocket opened.Memory (ap (λ (r : Rounder). r.name) c.in-Ok-rounder_of.ensures) c.in-Memory.ensures.opens in
    let opens = opens_rounds c.args.asked old mid opened.Memory after.pocket named from in
    same_counted Memory old after (λ e. cc) (λ e. cc) (λ e. cc) (opened_counts c.args.asked old after opened.Memory (λ e. cc) opens)

pub returns-in-Agent-clause-ends : goal.returns-in-Agent-clause-ends
returns-in-Agent-clause-ends g c =
    let old = agent_devices (g.M.Machine.told c.args.machine.now) (g.P.Pocket.told c.args.pocket.now) (g.L.Link.told c.args.link.now) (g.C.Clock.told c.args.clock.now) (g.W.Sink.told c.args.sink.now) in
    let mid = agent_devices (g.M.Machine.told c.name_places.new.machine) (g.P.Pocket.told c.name_places.new.pocket) (g.L.Link.told c.name_places.new.link) (g.C.Clock.told c.args.clock.now) (g.W.Sink.told c.args.sink.now) in
    let after = agent_devices (g.M.Machine.told c.name_places.new.machine) (g.P.Pocket.told c.open.new.pocket) (g.L.Link.told c.name_places.new.link) (g.C.Clock.told c.args.clock.now) (g.W.Sink.told c.args.sink.now) in
    let named = c.in-Ok.ensures (g.C.Clock.told c.args.clock.now) (g.W.Sink.told c.args.sink.now) in
    let from = opened_by c.args.asked.name.now c.in-Ok-rounder_of.rounder.name mid.pocket after.pocket (opened.Agent c.in-Agent.agent) (ap (λ (r : Rounder). r.name) c.in-Ok-rounder_of.ensures) c.in-Agent.ensures.opens in
    let opens = opens_rounds c.args.asked old mid (opened.Agent c.in-Agent.agent) after.pocket named from in
    let new = agent_devices (g.M.Machine.told c.make_all.new.machine) (g.P.Pocket.told c.make_all.new.pocket) (g.L.Link.told c.make_all.new.link) (g.C.Clock.told c.make_all.new.clock) (g.W.Sink.told c.make_all.new.sink) in
    let ends = ends_by c.args.asked c.in-Ok-rounder_of.rounder c.args.asked.count c.make_all.result (agent_at (shown_state c.in-Agent.agent) after) new c.in-Ok-rounder_of.ensures c.make_all.ensures.ends in
    rounds_end c.args.asked c.make_all.result old after new c.in-Agent.agent (c.make_all.new.sink ≡ c.args.sink.now) (c.make_all.new.clock ≡ c.args.clock.now) opens ends

pub returns-in-Agent-clause-counts : goal.returns-in-Agent-clause-counts
returns-in-Agent-clause-counts g c =
    let old = agent_devices (g.M.Machine.told c.args.machine.now) (g.P.Pocket.told c.args.pocket.now) (g.L.Link.told c.args.link.now) (g.C.Clock.told c.args.clock.now) (g.W.Sink.told c.args.sink.now) in
    let mid = agent_devices (g.M.Machine.told c.name_places.new.machine) (g.P.Pocket.told c.name_places.new.pocket) (g.L.Link.told c.name_places.new.link) (g.C.Clock.told c.args.clock.now) (g.W.Sink.told c.args.sink.now) in
    let after = agent_devices (g.M.Machine.told c.name_places.new.machine) (g.P.Pocket.told c.open.new.pocket) (g.L.Link.told c.name_places.new.link) (g.C.Clock.told c.args.clock.now) (g.W.Sink.told c.args.sink.now) in
    let named = c.in-Ok.ensures (g.C.Clock.told c.args.clock.now) (g.W.Sink.told c.args.sink.now) in
    let from = opened_by c.args.asked.name.now c.in-Ok-rounder_of.rounder.name mid.pocket after.pocket (opened.Agent c.in-Agent.agent) (ap (λ (r : Rounder). r.name) c.in-Ok-rounder_of.ensures) c.in-Agent.ensures.opens in
    let opens = opens_rounds c.args.asked old mid (opened.Agent c.in-Agent.agent) after.pocket named from in
    let new = agent_devices (g.M.Machine.told c.make_all.new.machine) (g.P.Pocket.told c.make_all.new.pocket) (g.L.Link.told c.make_all.new.link) (g.C.Clock.told c.make_all.new.clock) (g.W.Sink.told c.make_all.new.sink) in
    counted_later c.make_all.result old after new (opened_counts c.args.asked old after (opened.Agent c.in-Agent.agent) (λ e. cc) opens) c.make_all.ensures.counts

pub make_all-requires-clause-waits : goal.make_all-requires-clause-waits
make_all-requires-clause-waits g c =
    opened_waits c.in-Ok-rounder_of.rounder.name (g.P.Pocket.told c.name_places.new.pocket) (g.P.Pocket.told c.open.new.pocket) c.in-Agent.agent (g.M.Machine.told c.name_places.new.machine).started c.in-Agent.ensures.opens

pub make_all-requires-clause-offset : goal.make_all-requires-clause-offset
make_all-requires-clause-offset g c = copied_offset c.args.asked c.in-Ok-rounder_of.rounder c.in-Ok-rounder_of.ensures c.requires.offset
