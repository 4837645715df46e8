use Rattle.std.proofs.Common.{◌<◌, ◌≤◌, List, ℕ, length, take, arith, sym, subst, ◌∙◌}
use Rattle.std.proofs.lemmas.List.{take_all, take_more}
use Rattle.office_rules.specs.Deeds.{DoesEach}
use Rattle.office_rules.specs.MessageWords.{ReportsOne}
use Rattle.office_play.specs.Played.{Plays}
use Rattle.office_play.specs.States.{kept_of}
use Rattle.office_play.proofs.Deeds.{plays_none, plays_push, still_accepted, still_good}
use Rattle.office_play.proofs.MessageWords.{reports_all}
use Rattle.office_play.proofs.Names.{computer_still, keeps_both, keeps_same}
use Rattle.office_play.proofs.office.Office.report.Goals as goal

pub loop-seq-init : goal.loop-seq-init
loop-seq-init c =
    (plays_none (ReportsOne c.args.name.now) (kept_of c.args.self.now) c.args.out.now c.requires.good, keeps_same (kept_of c.args.self.now))

pub report_one-requires : goal.report_one-requires
report_one-requires c =
    let so = c.loop-seq.invariant in
    let Does = DoesEach (ReportsOne c.args.name.now) (take c.loop-seq.seq-index c.deref-seq-items.result.now) in
    record {
      good = still_good Does (kept_of c.args.self.now) (kept_of c.loop-seq.self) c.args.out.now c.loop-seq.out so.0 c.requires.accepted;
      accepted = still_accepted Does (kept_of c.args.self.now) (kept_of c.loop-seq.self) c.args.out.now c.loop-seq.out so.0 c.requires.accepted;
      name = computer_still c.args.name.now (kept_of c.args.self.now) (kept_of c.loop-seq.self) so.1 c.requires.name;
    }

pub loop-seq-preserved : goal.loop-seq-preserved
loop-seq-preserved c =
    let so = c.loop-seq.invariant in
    let name = c.args.name.now in
    let numbers : List ℕ = c.deref-seq-items.result.now in
    let at = c.loop-seq.seq-index in
    let within : at < length numbers = search (arith, c.loop-seq-test.true) in (
      subst (λ (l : List ℕ). Plays (DoesEach (ReportsOne name) l) (kept_of c.args.self.now) c.args.out.now (kept_of c.report_one.new.self) c.report_one.new.out)
          (sym (take_more numbers at 0 within))
          (plays_push (ReportsOne name) (take at numbers) _ (kept_of c.args.self.now) (kept_of c.loop-seq.self) (kept_of c.report_one.new.self) c.args.out.now c.loop-seq.out c.report_one.new.out
          so.0 c.in_ok-report_one.ensures.plays),
      keeps_both (kept_of c.args.self.now) (kept_of c.loop-seq.self) (kept_of c.report_one.new.self) so.1 c.in_ok-report_one.ensures.names,
    )

pub returns-clause-plays : goal.returns-clause-plays
returns-clause-plays c =
    let so = c.loop-seq.invariant in
    let name = c.args.name.now in
    let numbers : List ℕ = c.deref-seq-items.result.now in
    let told = c.in_ok-numbers.ensures in
    let past : length numbers ≤ c.loop-seq.seq-index = search (arith, c.loop-seq-test.false) in
    reports_all (kept_of c.args.self.now) (kept_of c.loop-seq.self) name told.0 c.args.out.now c.loop-seq.out told.1
    (subst (λ (l : List ℕ). Plays (DoesEach (ReportsOne name) l) (kept_of c.args.self.now) c.args.out.now (kept_of c.loop-seq.self) c.loop-seq.out)
    (take_all c.loop-seq.seq-index numbers past ∙ c.deref-seq-items.ensures.value ∙ told.2) so.0)
