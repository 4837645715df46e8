use Rattle.std.proofs.Common.{◌≡◌, List, ℕ, ℤ, w64, sym, subst}
use Rattle.std.specs.Prelude.{OnOk, Result}
use Rattle.std.proofs.lemmas.Int.{to_z-of_z}
use Rattle.std.proofs.lemmas.Result.{on_ok_weaker}
use Rattle.desk_base.specs.Moments.{IsMoment}
use Rattle.office_text.specs.declared.order.Order.{Order}
use Rattle.office_text.specs.declared.order.Order.TheVariants as order
use Rattle.office_text.specs.Orders.{IsOrder}
use Rattle.office_rules.specs.ComputerWords.{Turns}
use Rattle.office_rules.specs.GroupWords.{Measures}
use Rattle.office_rules.specs.Plays.{Obeys}
use Rattle.office_play.specs.Kept.{KeptOffice}
use Rattle.office_play.specs.Links.{AddsNames, KnowsNames, added_computers, added_relays}
use Rattle.office_play.specs.Played.{Plays}
use Rattle.office_play.specs.States.{kept_of}
use Rattle.office_play.proofs.Names.{adds_none, keeps_same}
use Rattle.office_play.proofs.Turns.{moment_fits}
use Rattle.office_play.proofs.office.Office.obey.Goals as goal

-- What was done at an order, and the names that it added, are those of the order that it is.
module _ {E : Type 0} (result : Result (Unit {0}) E) (given other : Order) (old new : KeptOffice) where
  obeyed : (out then : List ℕ) → given ≡ other → OnOk result (Plays (Obeys other) old out new then)
      → OnOk result (Plays (Obeys given) old out new then)
  obeyed out then is did = subst (λ (o : Order). OnOk result (Plays (Obeys o) old out new then)) (sym is) did

  adds : given ≡ other → OnOk result (AddsNames (added_relays other) (added_computers other) old new)
      → OnOk result (AddsNames (added_relays given) (added_computers given) old new)
  adds is names = subst (λ (o : Order). OnOk result (AddsNames (added_relays o) (added_computers o) old new)) (sym is) names

-- the moment of a turn, and of a measuring
turn_moment : (o : Order) (name : List ℕ) (moment : ℤ) → o ≡ order.Turn name moment → IsOrder o → IsMoment moment
turn_moment o name moment is good = (subst IsOrder is good).1

measure_moment : (o : Order) (name : List ℕ) (moment : ℤ) → o ≡ order.Measure name moment → IsOrder o → IsMoment moment
measure_moment o name moment is good = (subst IsOrder is good).1

pub returns-in-Publish-clause-plays : goal.returns-in-Publish-clause-plays
returns-in-Publish-clause-plays c =
    obeyed c.ask.result c.args.order _ (kept_of c.args.self.now) (kept_of c.ask.new.self) c.args.out.now c.ask.new.out c.in-Publish.is c.ask.ensures.plays

pub returns-in-Publish-clause-names : goal.returns-in-Publish-clause-names
returns-in-Publish-clause-names c =
    adds c.ask.result c.args.order _ (kept_of c.args.self.now) (kept_of c.ask.new.self) c.in-Publish.is
    (on_ok_weaker c.ask.result (adds_none (kept_of c.args.self.now) (kept_of c.ask.new.self)) c.ask.ensures.names)

pub returns-in-Act-clause-plays : goal.returns-in-Act-clause-plays
returns-in-Act-clause-plays c =
    obeyed c.ask-in-Act.result c.args.order _ (kept_of c.args.self.now) (kept_of c.ask-in-Act.new.self) c.args.out.now c.ask-in-Act.new.out c.in-Act.is c.ask-in-Act.ensures.plays

pub returns-in-Act-clause-names : goal.returns-in-Act-clause-names
returns-in-Act-clause-names c =
    adds c.ask-in-Act.result c.args.order _ (kept_of c.args.self.now) (kept_of c.ask-in-Act.new.self) c.in-Act.is
    (on_ok_weaker c.ask-in-Act.result (adds_none (kept_of c.args.self.now) (kept_of c.ask-in-Act.new.self)) c.ask-in-Act.ensures.names)

pub returns-in-Stop-clause-plays : goal.returns-in-Stop-clause-plays
returns-in-Stop-clause-plays c =
    obeyed c.ask-in-Stop.result c.args.order _ (kept_of c.args.self.now) (kept_of c.ask-in-Stop.new.self) c.args.out.now c.ask-in-Stop.new.out c.in-Stop.is c.ask-in-Stop.ensures.plays

pub returns-in-Stop-clause-names : goal.returns-in-Stop-clause-names
returns-in-Stop-clause-names c =
    adds c.ask-in-Stop.result c.args.order _ (kept_of c.args.self.now) (kept_of c.ask-in-Stop.new.self) c.in-Stop.is
    (on_ok_weaker c.ask-in-Stop.result (adds_none (kept_of c.args.self.now) (kept_of c.ask-in-Stop.new.self)) c.ask-in-Stop.ensures.names)

pub returns-in-File-clause-plays : goal.returns-in-File-clause-plays
returns-in-File-clause-plays c =
    obeyed c.ask-in-File.result c.args.order _ (kept_of c.args.self.now) (kept_of c.ask-in-File.new.self) c.args.out.now c.ask-in-File.new.out c.in-File.is c.ask-in-File.ensures.plays

pub returns-in-File-clause-names : goal.returns-in-File-clause-names
returns-in-File-clause-names c =
    adds c.ask-in-File.result c.args.order _ (kept_of c.args.self.now) (kept_of c.ask-in-File.new.self) c.in-File.is
    (on_ok_weaker c.ask-in-File.result (adds_none (kept_of c.args.self.now) (kept_of c.ask-in-File.new.self)) c.ask-in-File.ensures.names)

pub add_relay-requires : goal.add_relay-requires
add_relay-requires c = record {
  good = c.requires.good;
  name = subst IsOrder c.in-Relay.is c.requires.order;
  free = subst (KnowsNames (kept_of c.args.self.now)) c.in-Relay.is c.requires.names;
}

pub returns-in-Relay-clause-plays : goal.returns-in-Relay-clause-plays
returns-in-Relay-clause-plays c =
    obeyed c.add_relay.result c.args.order _ (kept_of c.args.self.now) (kept_of c.add_relay.new.self) c.args.out.now c.add_relay.new.out c.in-Relay.is c.add_relay.ensures.plays

pub returns-in-Relay-clause-names : goal.returns-in-Relay-clause-names
returns-in-Relay-clause-names c =
    adds c.add_relay.result c.args.order _ (kept_of c.args.self.now) (kept_of c.add_relay.new.self) c.in-Relay.is c.add_relay.ensures.names

pub add_computer-requires : goal.add_computer-requires
add_computer-requires c = record {
  good = c.requires.good;
  name = (subst IsOrder c.in-Computer.is c.requires.order).0;
  free = (subst (KnowsNames (kept_of c.args.self.now)) c.in-Computer.is c.requires.names).0;
  relay = (subst (KnowsNames (kept_of c.args.self.now)) c.in-Computer.is c.requires.names).1;
}

pub returns-in-Computer-clause-plays : goal.returns-in-Computer-clause-plays
returns-in-Computer-clause-plays c =
    obeyed c.add_computer.result c.args.order _ (kept_of c.args.self.now) (kept_of c.add_computer.new.self) c.args.out.now c.add_computer.new.out c.in-Computer.is c.add_computer.ensures.plays

pub returns-in-Computer-clause-names : goal.returns-in-Computer-clause-names
returns-in-Computer-clause-names c =
    adds c.add_computer.result c.args.order _ (kept_of c.args.self.now) (kept_of c.add_computer.new.self) c.in-Computer.is c.add_computer.ensures.names

pub gather-requires : goal.gather-requires
gather-requires c = record {
  good = c.requires.good;
  accepted = c.requires.accepted;
  name = subst (KnowsNames (kept_of c.args.self.now)) c.in-Gather.is c.requires.names;
}

pub returns-in-Gather-clause-plays : goal.returns-in-Gather-clause-plays
returns-in-Gather-clause-plays c =
    obeyed c.gather.result c.args.order _ (kept_of c.args.self.now) (kept_of c.gather.new.self) c.args.out.now c.gather.new.out c.in-Gather.is c.gather.ensures.plays

pub returns-in-Gather-clause-names : goal.returns-in-Gather-clause-names
returns-in-Gather-clause-names c =
    adds c.gather.result c.args.order _ (kept_of c.args.self.now) (kept_of c.gather.new.self) c.in-Gather.is
    (on_ok_weaker c.gather.result (adds_none (kept_of c.args.self.now) (kept_of c.gather.new.self)) c.gather.ensures.names)

pub turn-requires : goal.turn-requires
turn-requires c = record {
  good = c.requires.good;
  accepted = c.requires.accepted;
  name = subst (KnowsNames (kept_of c.args.self.now)) c.in-Turn.is c.requires.names;
  moment = let m = turn_moment c.args.order c.in-Turn.name c.in-Turn.moment c.in-Turn.is c.requires.order in
      subst IsMoment (sym (to_z-of_z w64 c.in-Turn.moment (moment_fits c.in-Turn.moment m))) m;
}

pub returns-in-Turn-clause-plays : goal.returns-in-Turn-clause-plays
returns-in-Turn-clause-plays c =
    let moment = c.in-Turn.moment in
    let fits = moment_fits moment (turn_moment c.args.order c.in-Turn.name moment c.in-Turn.is c.requires.order) in
    obeyed c.turn.result c.args.order _ (kept_of c.args.self.now) (kept_of c.turn.new.self) c.args.out.now c.turn.new.out c.in-Turn.is
    (subst (λ (m : ℤ). OnOk c.turn.result (Plays (Turns c.in-Turn.name m) (kept_of c.args.self.now) c.args.out.now (kept_of c.turn.new.self) c.turn.new.out)) (to_z-of_z w64 moment fits)
    c.turn.ensures.plays)

pub returns-in-Turn-clause-names : goal.returns-in-Turn-clause-names
returns-in-Turn-clause-names c =
    adds c.turn.result c.args.order _ (kept_of c.args.self.now) (kept_of c.turn.new.self) c.in-Turn.is
    (on_ok_weaker c.turn.result (adds_none (kept_of c.args.self.now) (kept_of c.turn.new.self)) c.turn.ensures.names)

pub restart-requires : goal.restart-requires
restart-requires c = record {
  good = c.requires.good;
  name = subst (KnowsNames (kept_of c.args.self.now)) c.in-Restart.is c.requires.names;
}

pub returns-in-Restart-clause-plays : goal.returns-in-Restart-clause-plays
returns-in-Restart-clause-plays c =
    obeyed c.restart.result c.args.order _ (kept_of c.args.self.now) (kept_of c.restart.new.self) c.args.out.now c.restart.new.out c.in-Restart.is c.restart.ensures.plays

pub returns-in-Restart-clause-names : goal.returns-in-Restart-clause-names
returns-in-Restart-clause-names c =
    adds c.restart.result c.args.order _ (kept_of c.args.self.now) (kept_of c.restart.new.self) c.in-Restart.is
    (on_ok_weaker c.restart.result (adds_none (kept_of c.args.self.now) (kept_of c.restart.new.self)) c.restart.ensures.names)

pub send-requires : goal.send-requires
send-requires c = record {
  good = c.requires.good;
  name = subst (KnowsNames (kept_of c.args.self.now)) c.in-Send.is c.requires.names;
}

pub returns-in-Send-clause-plays : goal.returns-in-Send-clause-plays
returns-in-Send-clause-plays c =
    obeyed c.send.result c.args.order _ (kept_of c.args.self.now) (kept_of c.send.new.self) c.args.out.now c.send.new.out c.in-Send.is c.send.ensures.plays

pub returns-in-Send-clause-names : goal.returns-in-Send-clause-names
returns-in-Send-clause-names c =
    adds c.send.result c.args.order _ (kept_of c.args.self.now) (kept_of c.send.new.self) c.in-Send.is
    (on_ok_weaker c.send.result (adds_none (kept_of c.args.self.now) (kept_of c.send.new.self)) c.send.ensures.names)

pub push-requires : goal.push-requires
push-requires c = record {
  good = c.requires.good;
  accepted = c.requires.accepted;
  name = subst (KnowsNames (kept_of c.args.self.now)) c.in-Push.is c.requires.names;
}

pub returns-in-Push-clause-plays : goal.returns-in-Push-clause-plays
returns-in-Push-clause-plays c =
    obeyed c.push.result c.args.order _ (kept_of c.args.self.now) (kept_of c.push.new.self) c.args.out.now c.push.new.out c.in-Push.is c.push.ensures.plays

pub returns-in-Push-clause-names : goal.returns-in-Push-clause-names
returns-in-Push-clause-names c =
    adds c.push.result c.args.order _ (kept_of c.args.self.now) (kept_of c.push.new.self) c.in-Push.is
    (on_ok_weaker c.push.result (adds_none (kept_of c.args.self.now) (kept_of c.push.new.self)) c.push.ensures.names)

pub returns-in-Deliver-clause-plays : goal.returns-in-Deliver-clause-plays
returns-in-Deliver-clause-plays c =
    obeyed c.deliver.result c.args.order _ (kept_of c.args.self.now) (kept_of c.deliver.new.self) c.args.out.now c.deliver.new.out c.in-Deliver.is c.deliver.ensures.plays

pub returns-in-Deliver-clause-names : goal.returns-in-Deliver-clause-names
returns-in-Deliver-clause-names c =
    adds c.deliver.result c.args.order _ (kept_of c.args.self.now) (kept_of c.deliver.new.self) c.in-Deliver.is
    (on_ok_weaker c.deliver.result (adds_none (kept_of c.args.self.now) (kept_of c.deliver.new.self)) c.deliver.ensures.names)

pub report-requires : goal.report-requires
report-requires c = record {
  good = c.requires.good;
  accepted = c.requires.accepted;
  name = subst (KnowsNames (kept_of c.args.self.now)) c.in-Report.is c.requires.names;
}

pub returns-in-Report-clause-plays : goal.returns-in-Report-clause-plays
returns-in-Report-clause-plays c =
    obeyed c.report.result c.args.order _ (kept_of c.args.self.now) (kept_of c.report.new.self) c.args.out.now c.report.new.out c.in-Report.is c.report.ensures.plays

pub returns-in-Report-clause-names : goal.returns-in-Report-clause-names
returns-in-Report-clause-names c =
    adds c.report.result c.args.order _ (kept_of c.args.self.now) (kept_of c.report.new.self) c.in-Report.is
    (on_ok_weaker c.report.result (adds_none (kept_of c.args.self.now) (kept_of c.report.new.self)) c.report.ensures.names)

pub forward-requires : goal.forward-requires
forward-requires c = record {
  good = c.requires.good;
  accepted = c.requires.accepted;
  name = subst (KnowsNames (kept_of c.args.self.now)) c.in-Forward.is c.requires.names;
}

pub returns-in-Forward-clause-plays : goal.returns-in-Forward-clause-plays
returns-in-Forward-clause-plays c =
    obeyed c.forward.result c.args.order _ (kept_of c.args.self.now) (kept_of c.forward.new.self) c.args.out.now c.forward.new.out c.in-Forward.is c.forward.ensures.plays

pub returns-in-Forward-clause-names : goal.returns-in-Forward-clause-names
returns-in-Forward-clause-names c =
    adds c.forward.result c.args.order _ (kept_of c.args.self.now) (kept_of c.forward.new.self) c.in-Forward.is
    (on_ok_weaker c.forward.result (adds_none (kept_of c.args.self.now) (kept_of c.forward.new.self)) c.forward.ensures.names)

pub forget-requires : goal.forget-requires
forget-requires c = record {
  good = c.requires.good;
  name = subst (KnowsNames (kept_of c.args.self.now)) c.in-Forget.is c.requires.names;
}

pub returns-in-Forget-clause-plays : goal.returns-in-Forget-clause-plays
returns-in-Forget-clause-plays c =
    obeyed c.forget.result c.args.order _ (kept_of c.args.self.now) (kept_of c.forget.new.self) c.args.out.now c.forget.new.out c.in-Forget.is c.forget.ensures.plays

pub returns-in-Forget-clause-names : goal.returns-in-Forget-clause-names
returns-in-Forget-clause-names c =
    adds c.forget.result c.args.order _ (kept_of c.args.self.now) (kept_of c.forget.new.self) c.in-Forget.is
    (on_ok_weaker c.forget.result (adds_none (kept_of c.args.self.now) (kept_of c.forget.new.self)) c.forget.ensures.names)

pub keep_analysis-requires : goal.keep_analysis-requires
keep_analysis-requires c = record { good = c.requires.good; properties = subst IsOrder c.in-Analysis.is c.requires.order }

pub returns-in-Analysis-clause-plays : goal.returns-in-Analysis-clause-plays
returns-in-Analysis-clause-plays c =
    obeyed c.keep_analysis.result c.args.order _ (kept_of c.args.self.now) (kept_of c.keep_analysis.new.self) c.args.out.now c.keep_analysis.new.out c.in-Analysis.is c.keep_analysis.ensures.plays

pub returns-in-Analysis-clause-names : goal.returns-in-Analysis-clause-names
returns-in-Analysis-clause-names c =
    adds c.keep_analysis.result c.args.order _ (kept_of c.args.self.now) (kept_of c.keep_analysis.new.self) c.in-Analysis.is
    (on_ok_weaker c.keep_analysis.result (adds_none (kept_of c.args.self.now) (kept_of c.keep_analysis.new.self)) c.keep_analysis.ensures.names)

pub returns-in-Group-clause-plays : goal.returns-in-Group-clause-plays
returns-in-Group-clause-plays c =
    obeyed c.keep_group.result c.args.order _ (kept_of c.args.self.now) (kept_of c.keep_group.new.self) c.args.out.now c.keep_group.new.out c.in-Group.is c.keep_group.ensures.plays

pub returns-in-Group-clause-names : goal.returns-in-Group-clause-names
returns-in-Group-clause-names c =
    adds c.keep_group.result c.args.order _ (kept_of c.args.self.now) (kept_of c.keep_group.new.self) c.in-Group.is
    (on_ok_weaker c.keep_group.result (adds_none (kept_of c.args.self.now) (kept_of c.keep_group.new.self)) c.keep_group.ensures.names)

pub measure-requires : goal.measure-requires
measure-requires c = record {
  good = c.requires.good;
  name = subst (KnowsNames (kept_of c.args.self.now)) c.in-Measure.is c.requires.names;
  moment = let m = measure_moment c.args.order c.in-Measure.name c.in-Measure.moment c.in-Measure.is c.requires.order in
      subst IsMoment (sym (to_z-of_z w64 c.in-Measure.moment (moment_fits c.in-Measure.moment m))) m;
}

pub returns-in-Measure-clause-plays : goal.returns-in-Measure-clause-plays
returns-in-Measure-clause-plays c =
    let moment = c.in-Measure.moment in
    let fits = moment_fits moment (measure_moment c.args.order c.in-Measure.name moment c.in-Measure.is c.requires.order) in
    obeyed c.measure.result c.args.order _ (kept_of c.args.self.now) (kept_of c.measure.new.self) c.args.out.now c.measure.new.out c.in-Measure.is
    (subst (λ (m : ℤ). OnOk c.measure.result (Plays (Measures c.in-Measure.name m) (kept_of c.args.self.now) c.args.out.now (kept_of c.measure.new.self) c.measure.new.out)) (to_z-of_z w64 moment fits)
    c.measure.ensures.plays)

pub returns-in-Measure-clause-names : goal.returns-in-Measure-clause-names
returns-in-Measure-clause-names c =
    adds c.measure.result c.args.order _ (kept_of c.args.self.now) (kept_of c.measure.new.self) c.in-Measure.is
    (on_ok_weaker c.measure.result (adds_none (kept_of c.args.self.now) (kept_of c.measure.new.self)) c.measure.ensures.names)

pub returns-in-Members-clause-plays : goal.returns-in-Members-clause-plays
returns-in-Members-clause-plays c =
    obeyed c.list_members.result c.args.order _ (kept_of c.args.self.now) (kept_of c.args.self.now) c.args.out.now c.list_members.new.out c.in-Members.is c.list_members.ensures

pub returns-in-Members-clause-names : goal.returns-in-Members-clause-names
returns-in-Members-clause-names c =
    adds c.list_members.result c.args.order _ (kept_of c.args.self.now) (kept_of c.args.self.now) c.in-Members.is
    (on_ok_weaker c.list_members.result (λ said. adds_none (kept_of c.args.self.now) (kept_of c.args.self.now) (keeps_same (kept_of c.args.self.now))) c.list_members.ensures)

pub returns-in-Target-clause-plays : goal.returns-in-Target-clause-plays
returns-in-Target-clause-plays c =
    obeyed c.target.result c.args.order _ (kept_of c.args.self.now) (kept_of c.target.new.self) c.args.out.now c.target.new.out c.in-Target.is c.target.ensures.plays

pub returns-in-Target-clause-names : goal.returns-in-Target-clause-names
returns-in-Target-clause-names c =
    adds c.target.result c.args.order _ (kept_of c.args.self.now) (kept_of c.target.new.self) c.in-Target.is
    (on_ok_weaker c.target.result (adds_none (kept_of c.args.self.now) (kept_of c.target.new.self)) c.target.ensures.names)
