use Rattle.std.proofs.Common.{◌≡◌}
use Rattle.desk_rounds.specs.Clients.{at}
use Rattle.desk_rounds.specs.Ways.{way}
use Rattle.desk_rounds.proofs.Rounding.{Gathered}
use Rattle.desk_rounds.proofs.gathering.gather_listed.Given as goal

abbrev pub invariant-sites : goal.invariant-sites
invariant-sites g l = record {
  sound : g.C.Client.sound (g.C.Client.told l.client);
  fixed : g.C.Client.fixed (g.C.Client.told l.client) ≡ g.C.Client.fixed (g.C.Client.told l.fn.client);
  far : Gathered g.C.Client.rules l.sites (at (g.C.Client.told l.fn.client) (way (g.L.Link.told l.fn.link) l.fn.second)) l.fn.out l.site-index
      (at (g.C.Client.told l.client) (way (g.L.Link.told l.link) l.second)) l.out;
}
