use Rattle.std.proofs.Common.{subst, sym}
use Rattle.std.specs.declared.option.Option.{Option}
use Rattle.desk_keep.specs.Views.{KeeperView}
use Rattle.route_rules.specs.declared.route.Route.{Route}
use Rattle.server_core.specs.declared.limits.Limits.{Limits}
use Rattle.http_replies.specs.declared.answer.Answer.TheVariants as answer
use Rattle.desk_hosts.specs.ServerCalls.{ServerAnswers, request_of}
use Rattle.desk_hosts.proofs.Replying.{replied}
use Rattle.desk_hosts.proofs.server_host.answer.Goals as goal

pub returns-in-Ok : goal.returns-in-Ok
returns-in-Ok g c =
    let limits : Limits = c.args.server.now.limits in
    let old : KeeperView = g.K.Keeper.told c.args.keeper.now in
    let new : KeeperView = g.K.Keeper.told c.answer.new.keeper in
    let P : Option Route → Type 0 = λ route. ServerAnswers (record { limits = limits; keeper = old }) route c.args.body.now (answer.Reply c.answer.result) (record { limits = limits; keeper = new }) in
    subst P (sym c.in-Some.is)
    (replied limits old new (request_of c.in-Some.route c.args.body.now) c.in-Ok.request c.answer.result c.in-Ok.ensures
    c.answer.ensures.answers c.answer.ensures.bad c.answer.ensures.unchanged c.answer.ensures.counts)
