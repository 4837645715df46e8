use Rattle.std.proofs.Common.{◌≡◌, drop}
use Rattle.relay_core.specs.KeptSites.{AreKept}
use Rattle.office_play.proofs.Gathers.{TakesRest}
use Rattle.office_play.proofs.gathering.take_each.Given as goal

abbrev pub invariant-loop-site : goal.invariant-loop-site
invariant-loop-site l = record {
  rest : l.relay ≡ (l.fn.relay.0, record l.fn.relay.1 { sites = l.relay.1.sites });
  kept : AreKept l.relay.1.sites;
  rows : l.keeper ≡ l.fn.keeper;
  takes : TakesRest l.fn.relay.0 l.fn.keeper l.sites l.fn.relay.1 l.fn.out (drop l.site-index l.sites) l.relay.1 l.out;
}
