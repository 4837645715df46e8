use Rattle.std.proofs.Common.{◌<◌, ◌≤◌, length, refl, arith}
use Rattle.agent_core.specs.Agents.{shown_state}
use Rattle.office_play.proofs.Turns.{gathers_all, gathers_next}
use Rattle.office_play.proofs.turning.gather_each.Goals as goal

pub loop-site-init : goal.loop-site-init
loop-site-init c = record { rest = λ new h. h; held = refl }

pub loop-site-preserved : goal.loop-site-preserved
loop-site-preserved c =
    let within : c.loop-site.site-index < length c.args.sites.now = search (arith, c.loop-site-test.true) in
    gathers_next c.args.sites.now (shown_state c.args.agent.now) (shown_state c.loop-site.agent) (shown_state c.gather.new.self) c.loop-site.site-index c.site-item.result
    c.gather.result within c.site-item.is c.gather.ensures.gathers c.in_default.not-Memory c.loop-site.invariant

pub returns-clause-gathers : goal.returns-clause-gathers
returns-clause-gathers c =
    let past : length c.args.sites.now ≤ c.loop-site.site-index = search (arith, c.loop-site-test.false) in
    gathers_all c.args.sites.now (shown_state c.args.agent.now) (shown_state c.loop-site.agent) c.loop-site.site-index past c.loop-site.invariant
