use Rattle.desk_top.proofs.Ends.{good_not_refused}
use Rattle.desk_top.proofs.OneServed.{served_once}
use Rattle.desk_top.proofs.OneQuestioned.{tables_once}
use Rattle.desk_top.proofs.OneSaid.{bytes_once, looks_once, refusal_once}
use Rattle.desk_top.proofs.OneWorked.{relayed_once, rounded_once}
use Rattle.desk_top.specs.AllDevices.{relaying, rounding, serving, tables}
use Rattle.desk_top.proofs.law.one_said.Goals as goal

pub returns : goal.returns
returns c =
    let one = c.one_finding.ensures in
    let front = c.one_front.ensures in
    let run = c.one_run.ensures in
    record {
      bytes = bytes_once run one front c.one_play.ensures;
      looks = looks_once run;
      kept = λ asked input old old_one old_other tells alike did again.
          tables_once c.one_run-2.ensures input (tables old) (tables old_one) (tables old_other) tells alike did again;
      served = λ asked held coming written accepted old old_one old_other holds tells did again steady steady'.
          served_once c.one_serving.ensures asked held coming written accepted (serving old) (serving old_one) (serving old_other) holds tells did again steady steady';
      relayed = λ asked held coming written told old old_one old_other holds tells did again steady steady'.
          relayed_once c.one_relaying.ensures asked held coming written told (relaying old) (relaying old_one) (relaying old_other) holds tells did again steady steady';
      rounded = λ asked held told old old_one old_other holds tells did again steady steady' moments.
          rounded_once c.one_rounding.ensures c.one_change.ensures.opened asked held told (rounding old) (rounding old_one) (rounding old_other) holds tells did again steady steady' moments;
      refusals = refusal_once one front;
      apart = good_not_refused one front c.a_world_is_read.ensures c.an_office_is_read.ensures;
    }
