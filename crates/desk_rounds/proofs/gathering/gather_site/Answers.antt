use Rattle.std.proofs.Common.{Bool, [], ◌++◌, Err, Ok, arith, refl, subst}
use Rattle.desk_rounds.specs.Asking.{Said}
use Rattle.desk_rounds.specs.Clients.{at}
use Rattle.desk_rounds.specs.declared.part.Next.TheVariants as next
use Rattle.desk_rounds.specs.Replies.{TellsSite}
use Rattle.desk_rounds.specs.Requests.{site_request}
use Rattle.desk_rounds.specs.Ways.{switched, way}
use Rattle.desk_rounds.proofs.Rounding.{came_good, prints_none, site_kept, site_newer}
use Rattle.desk_rounds.proofs.Saying.{came_said, prints_after, said_err, said_ok}
use Rattle.desk_rounds.proofs.gathering.gather_site.Goals as goal

pub returns-then-site-kept-clause-gathers : goal.returns-then-site-kept-clause-gathers
returns-then-site-kept-clause-gathers g c = (
  [],
  site_kept g.C.Client.rules c.args.site.now c.kept_version-kept.result
      (at (g.C.Client.told c.args.client.now) (way (g.L.Link.told c.args.link.now) c.args.second.now)) c.kept_version-kept.ensures (omega arith),
  prints_none next.Item c.args.out.now,
)

pub keep_came-requires-clause-good : goal.keep_came-requires-clause-good
keep_came-requires-clause-good g c =
    let name = c.args.site.now.name in
    let request = site_request name c.kept_version-kept.result in
    let old = way (g.L.Link.told c.args.link.now) c.args.second.now in
    let between = way (g.L.Link.told c.ask_site-came.new.link) c.ask_site-came.new.second in
    came_good g.C.Client.rules request name old between c.in-Ok.came
    (came_said (TellsSite name) request old between c.is_some-before.result between.second c.ask_site-came.result (Ok c.in-Ok.came) c.args.out.now
    c.said.new.out c.ask_site-came.ensures c.in-Ok.ensures)

pub returns-in-Ok-clause-gathers : goal.returns-in-Ok-clause-gathers
returns-in-Ok-clause-gathers g c =
    let name = c.args.site.now.name in
    let request = site_request name c.kept_version-kept.result in
    let old = at (g.C.Client.told c.args.client.now) (way (g.L.Link.told c.args.link.now) c.args.second.now) in
    let between = way (g.L.Link.told c.ask_site-came.new.link) c.ask_site-came.new.second in
    let came = c.ask_site-came.result in
    let says = subst (λ (b : Bool). Said b between.second came (Ok c.in-Ok.came) c.args.out.now c.said.new.out) c.is_some-before.ensures c.in-Ok.ensures in
    let asks = came_said (TellsSite name) request old.way between _ between.second came (Ok c.in-Ok.came) c.args.out.now c.said.new.out
    c.ask_site-came.ensures says in (
      switched old.way between ++ [],
      site_newer g.C.Client.rules c.args.site.now c.kept_version-kept.result old between (g.C.Client.told c.keep_came.new.client) (Ok c.in-Ok.came)
          c.keep_came.result [] c.kept_version-kept.ensures (omega arith) asks c.keep_came.ensures.keeps,
      prints_after c.keep_came.result (switched old.way between) [] c.args.out.now c.said.new.out c.said.new.out
          (said_ok _ between.second came c.in-Ok.came c.args.out.now c.said.new.out says) (prints_none c.keep_came.result c.said.new.out),
    )

pub returns-in-Err-clause-gathers : goal.returns-in-Err-clause-gathers
returns-in-Err-clause-gathers g c =
    let name = c.args.site.now.name in
    let request = site_request name c.kept_version-kept.result in
    let old = at (g.C.Client.told c.args.client.now) (way (g.L.Link.told c.args.link.now) c.args.second.now) in
    let between = way (g.L.Link.told c.ask_site-came.new.link) c.ask_site-came.new.second in
    let came = c.ask_site-came.result in
    let says = subst (λ (b : Bool). Said b between.second came (Err c.in-Err.miss) c.args.out.now c.said.new.out) c.is_some-before.ensures c.in-Err.ensures in
    let asks = came_said (TellsSite name) request old.way between _ between.second came (Err c.in-Err.miss) c.args.out.now c.said.new.out
    c.ask_site-came.ensures says in
    let it = c.say_miss.ensures in (
      switched old.way between ++ it.0,
      site_newer g.C.Client.rules c.args.site.now c.kept_version-kept.result old between (g.C.Client.told c.args.client.now) (Err c.in-Err.miss)
          c.say_miss.result it.0 c.kept_version-kept.ensures (omega arith) asks (it.1, refl),
      said_err _ between.second came c.in-Err.miss c.args.out.now c.said.new.out c.say_miss.new.out c.say_miss.result it.0 says it.1 it.2,
    )
