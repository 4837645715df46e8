use Rattle.desk_runs.proofs.OneParts.{RoundLaws}
use Rattle.desk_runs.proofs.OneRelays.{KeepingLaws, RelayLaws}
use Rattle.desk_runs.proofs.OneRelayRuns.{relayed_once}
use Rattle.desk_runs.proofs.law.one_relaying.Goals as goal

pub returns : goal.returns
returns c = λ told old start one other run again tells tells' runs runs' count steady steady'.
    let round : RoundLaws = record { reply = c.a_reply_is_one_thing.ensures; site = c.one_site.ensures } in
    let keeping : KeepingLaws = record { one = c.one_keeping.ensures.one; kept = c.one_keeping.ensures.kept } in
    let laws : RelayLaws = record { round = round; keeping = keeping; route = c.one_route.ensures; heard = c.what_is_heard_is_one_thing.ensures; meaning = c.one_meaning.ensures } in
    let once = relayed_once laws told old start one other run again tells tells' runs runs' count steady steady' in
    (once.same, once.alike)
