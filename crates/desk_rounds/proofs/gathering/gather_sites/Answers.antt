use Rattle.std.proofs.Common.{Bool, Err, Ok, ◌++◌, subst}
use Rattle.desk_rounds.specs.Asking.{Said}
use Rattle.desk_rounds.specs.Clients.{at}
use Rattle.desk_rounds.specs.Replies.{ListsSites}
use Rattle.desk_rounds.specs.Requests.{sites_request}
use Rattle.desk_rounds.specs.Ways.{switched, way}
use Rattle.desk_rounds.proofs.Rounding.{listed_gathered, listed_missed}
use Rattle.desk_rounds.proofs.Saying.{came_said, prints_after, said_err, said_ok}
use Rattle.desk_rounds.proofs.gathering.gather_sites.Goals as goal

pub returns-in-Ok-clause-gathers : goal.returns-in-Ok-clause-gathers
returns-in-Ok-clause-gathers g c =
    let old = at (g.C.Client.told c.args.client.now) (way (g.L.Link.told c.args.link.now) c.args.second.now) in
    let between = way (g.L.Link.told c.ask_sites-came.new.link) c.ask_sites-came.new.second in
    let new = at (g.C.Client.told c.gather_listed.new.client) (way (g.L.Link.told c.gather_listed.new.link) c.gather_listed.new.second) in
    let came = c.ask_sites-came.result in
    let says = subst (λ (b : Bool). Said b between.second came (Ok c.in-Ok.sites) c.args.out.now c.said.new.out) c.is_some-before.ensures c.in-Ok.ensures in
    let asks = came_said ListsSites sites_request old.way between _ between.second came (Ok c.in-Ok.sites) c.args.out.now c.said.new.out
    c.ask_sites-came.ensures says in
    let it = c.gather_listed.ensures.gathers in (
      switched old.way between ++ it.0,
      listed_gathered g.C.Client.rules old new between c.in-Ok.sites c.as_slice.result.now c.gather_listed.result it.0 asks c.as_slice.ensures it.1,
      prints_after c.gather_listed.result (switched old.way between) it.0 c.args.out.now c.said.new.out c.gather_listed.new.out
          (said_ok _ between.second came c.in-Ok.sites c.args.out.now c.said.new.out says) it.2,
    )

pub returns-in-Err-clause-gathers : goal.returns-in-Err-clause-gathers
returns-in-Err-clause-gathers g c =
    let old = at (g.C.Client.told c.args.client.now) (way (g.L.Link.told c.args.link.now) c.args.second.now) in
    let between = way (g.L.Link.told c.ask_sites-came.new.link) c.ask_sites-came.new.second in
    let came = c.ask_sites-came.result in
    let says = subst (λ (b : Bool). Said b between.second came (Err c.in-Err.miss) c.args.out.now c.said.new.out) c.is_some-before.ensures c.in-Err.ensures in
    let asks = came_said ListsSites sites_request old.way between _ between.second came (Err c.in-Err.miss) c.args.out.now c.said.new.out
    c.ask_sites-came.ensures says in
    let it = c.say_miss.ensures in (
      switched old.way between ++ it.0,
      listed_missed g.C.Client.rules old between c.in-Err.miss c.say_miss.result it.0 asks it.1,
      said_err _ between.second came c.in-Err.miss c.args.out.now c.said.new.out c.say_miss.new.out c.say_miss.result it.0 says it.1 it.2,
    )
