use Rattle.desk_rounds.specs.Ways.{way}
use Rattle.desk_rounds.proofs.Saying.{first_answered, first_failed}
use Rattle.desk_rounds.proofs.way.exchange.Goals as goal

pub returns-in-Failed : goal.returns-in-Failed
returns-in-Failed g c =
    first_failed c.args.request.now (way (g.L.Link.told c.args.link.now) c.args.second.now) (g.L.Link.told c.exchange.new.self) c.turn.result
    (way (g.L.Link.told c.turn.new.link) c.turn.new.second) c.in-Failed.ensures c.turn.ensures

pub returns-in_default : goal.returns-in_default
returns-in_default g c =
    first_answered c.args.request.now (way (g.L.Link.told c.args.link.now) c.args.second.now) (g.L.Link.told c.exchange.new.self) c.exchange.result
    c.in_default.not-Failed c.exchange.ensures
