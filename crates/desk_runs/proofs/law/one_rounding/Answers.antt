use Rattle.desk_runs.proofs.OneParts.{RoundLaws}
use Rattle.desk_runs.proofs.OneRounds.{AgentLaws, moments_told, rounded_once}
use Rattle.desk_runs.proofs.OneTurns.{TurnLaws}
use Rattle.desk_runs.proofs.law.one_rounding.Goals as goal

pub returns : goal.returns
returns c = λ rounder told old start one other run again tells tells' gives gives' runs runs' count steady steady' moments.
    let round : RoundLaws = record { reply = c.a_reply_is_one_thing.ensures; site = c.one_site.ensures } in
    let devices = c.devices_go_on_telling.ensures in
    let change = c.one_change.ensures in
    let turn : TurnLaws = record { reply = c.a_reply_is_one_thing.ensures; turn = c.one_turn.ensures; tells = devices.tells; cause = devices.cause; supplied = change.supplied } in
    let laws : AgentLaws = record { round = round; turn = turn; gathered = change.gathered; settled = change.settled } in
    let once = rounded_once laws rounder told old start one other run again tells tells' (moments_told old gives) (moments_told start gives') runs runs' count steady steady' moments in
    (once.same, once.alike)
