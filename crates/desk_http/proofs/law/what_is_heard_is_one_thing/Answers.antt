use Rattle.desk_http.proofs.Laws.{one_heard}
use Rattle.desk_http.proofs.law.what_is_heard_is_one_thing.Goals as goal

pub returns : goal.returns
returns c = one_heard c.one_route.ensures
