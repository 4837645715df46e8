use Rattle.std.proofs.Common.{None, refl}
use Rattle.desk_rounds.specs.Clients.{at, relay_client}
use Rattle.desk_rounds.specs.Gathering.{GathersAll}
use Rattle.desk_rounds.specs.Posting.{PostsAll}
use Rattle.desk_rounds.specs.Ways.{way}
use Rattle.desk_rounds.proofs.Rounding.{both_done, first_memory, second_memory}
use Rattle.desk_rounds.proofs.relay_rounds.relay_round.Goals as goal

pub returns-in-Memory : goal.returns-in-Memory
returns-in-Memory g c =
    let old = at c.args.relay.now (way (g.L.Link.told c.args.link.now) None) in
    let mid = at c.gather_sites.new.client (way (g.L.Link.told c.gather_sites.new.link) c.gather_sites.new.second) in
    let it = first_memory (GathersAll relay_client) (PostsAll relay_client) old mid c.args.out.now c.gather_sites.new.out c.gather_sites.result
    c.in-Memory.is c.gather_sites.ensures.gathers in
    (it.0, (mid, it.1, refl))

pub returns-in-Memory-post_reports : goal.returns-in-Memory-post_reports
returns-in-Memory-post_reports g c =
    let old = at c.args.relay.now (way (g.L.Link.told c.args.link.now) None) in
    let mid = at c.gather_sites.new.client (way (g.L.Link.told c.gather_sites.new.link) c.gather_sites.new.second) in
    let last = at c.post_reports.new.client (way (g.L.Link.told c.post_reports.new.link) c.post_reports.new.second) in
    let it = second_memory (GathersAll relay_client) (PostsAll relay_client) old mid last c.args.out.now c.gather_sites.new.out c.post_reports.new.out
    c.gather_sites.result c.post_reports.result c.in_default.not-Memory c.in-Memory-post_reports.is c.gather_sites.ensures.gathers
    c.post_reports.ensures.posts in
    (it.0, (last, it.1, refl))

pub returns : goal.returns
returns g c =
    let old = at c.args.relay.now (way (g.L.Link.told c.args.link.now) None) in
    let mid = at c.gather_sites.new.client (way (g.L.Link.told c.gather_sites.new.link) c.gather_sites.new.second) in
    let last = at c.post_reports.new.client (way (g.L.Link.told c.post_reports.new.link) c.post_reports.new.second) in
    let both = both_done (GathersAll relay_client) (PostsAll relay_client) old mid last c.args.out.now c.gather_sites.new.out c.post_reports.new.out
    c.gather_sites.result c.post_reports.result c.in_default.not-Memory c.in_default-post_reports.not-Memory c.gather_sites.ensures.gathers
    c.post_reports.ensures.posts in
    record {
      then = c.post_reports.result;
      lines = both.0;
      whole = c.in_default-post_reports.not-Memory;
      round = (last, both.1, refl);
      printed = both.2;
    }
