use Rattle.std.proofs.Common.{sym, ◌∙◌}
use Rattle.std.proofs.lemmas.Option.{MatchOption-at_none, MatchOption-at_some}
use Rattle.route_rules.proofs.Routing.{no_endpoint, no_text, not_open, routes_found}
use Rattle.route_rules.proofs.route.find_route.Goals as goal

pub returns-in_default-from_utf8 : goal.returns-in_default-from_utf8
returns-in_default-from_utf8 c = no_text c.args.routes c.args.method.now c.args.path.now c.in_default-from_utf8.ensures.cases.0

pub returns-in_default-2 : goal.returns-in_default-2
returns-in_default-2 c =
    let none = MatchOption-at_none _ _ c.in_default-2.is c.in_ok-endpoint.ensures in
    no_endpoint c.args.routes c.args.method.now c.args.path.now c.in-Some.asking c.in-Ok.text.now c.in-Some.ensures c.in-Ok.ensures.cases.0 none

pub returns-then-not-is_open : goal.returns-then-not-is_open
returns-then-not-is_open c =
    let e = c.in-Some-2.endpoint in
    let is = MatchOption-at_some _ _ e c.in-Some-2.is c.in_ok-endpoint.ensures in
    not_open c.args.routes c.args.method.now c.args.path.now c.in-Some.asking e c.in-Ok.text.now c.in-Some.ensures c.in-Ok.ensures.cases.0 is.0 is.1 (sym c.is_open.ensures ∙ c.if-not-is_open.true)

pub returns : goal.returns
returns c =
    let e = c.in-Some-2.endpoint in
    let is = MatchOption-at_some _ _ e c.in-Some-2.is c.in_ok-endpoint.ensures in
    routes_found c.args.routes c.args.method.now c.args.path.now c.in-Some.asking e c.in-Ok.text.now c.read_route.result c.in-Some.ensures c.in-Ok.ensures.cases.0 is (sym c.is_open.ensures ∙ c.if-not-is_open.false) c.read_route.ensures
