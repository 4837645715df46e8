use Rattle.std.proofs.Common.{◌≡◌, ◌-◌, length}
use Rattle.desk_rounds.specs.Clients.{at}
use Rattle.desk_rounds.specs.Ways.{way}
use Rattle.desk_rounds.proofs.Rounding.{Posts}
use Rattle.desk_rounds.proofs.posting.post_reports.Given as goal

abbrev pub invariant-reports : goal.invariant-reports
invariant-reports g l = record {
  sound : g.C.Client.sound (g.C.Client.told l.client);
  fixed : g.C.Client.fixed (g.C.Client.told l.client) ≡ g.C.Client.fixed (g.C.Client.told l.fn.client);
  far : Posts g.C.Client.rules (at (g.C.Client.told l.fn.client) (way (g.L.Link.told l.fn.link) l.fn.second)) l.fn.out l.place
      (at (g.C.Client.told l.client) (way (g.L.Link.told l.link) l.second)) l.out;
}

abbrev pub decreases-reports : goal.decreases-reports
decreases-reports g l = length (g.C.Client.rules.reports (g.C.Client.told l.client)) - l.place
