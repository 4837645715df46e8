use Rattle.std.proofs.Common.{drop}
use Rattle.agent_core.specs.Agents.{shown_state}
use Rattle.office_play.proofs.Turns.{GathersRest}
use Rattle.office_play.proofs.turning.gather_each.Given as goal

abbrev pub invariant-loop-site : goal.invariant-loop-site
invariant-loop-site l = GathersRest l.sites (shown_state l.fn.agent) (drop l.site-index l.sites) (shown_state l.agent)
