use Rattle.std.proofs.Common.{ℕ, subst}
use Rattle.std.proofs.lemmas.Result.{on_ok_weaker}
use Rattle.office_rules.specs.MessageWords.{DeliversAnswered, Sends}
use Rattle.office_play.specs.Played.{Plays}
use Rattle.office_play.specs.States.{kept_of}
use Rattle.office_play.proofs.Deeds.{still_accepted, still_good}
use Rattle.office_play.proofs.MessageWords.{reports_one}
use Rattle.office_play.proofs.Names.{keeps_both}
use Rattle.office_play.proofs.office.Office.report_one.Goals as goal

pub deliver_and_answer-requires : goal.deliver_and_answer-requires
deliver_and_answer-requires c = record {
  good = still_good (Sends c.args.name.now c.args.seq) (kept_of c.args.self.now) (kept_of c.send.new.self) c.args.out.now c.send.new.out c.in_ok-send.ensures.plays
      c.requires.accepted;
  accepted = still_accepted (Sends c.args.name.now c.args.seq) (kept_of c.args.self.now) (kept_of c.send.new.self) c.args.out.now c.send.new.out c.in_ok-send.ensures.plays
      c.requires.accepted;
}

pub returns-clause-plays : goal.returns-clause-plays
returns-clause-plays c =
    on_ok_weaker c.deliver_and_answer.result
    (λ p. reports_one (kept_of c.args.self.now) (kept_of c.send.new.self) (kept_of c.deliver_and_answer.new.self) c.args.name.now c.args.seq c.args.out.now c.send.new.out
    c.deliver_and_answer.new.out c.in_ok-send.ensures.plays
    (subst (λ (n : ℕ). Plays (DeliversAnswered n) (kept_of c.send.new.self) c.send.new.out (kept_of c.deliver_and_answer.new.self) c.deliver_and_answer.new.out)
    c.next_number-number.ensures p))
    c.deliver_and_answer.ensures.plays

pub returns-clause-names : goal.returns-clause-names
returns-clause-names c =
    on_ok_weaker c.deliver_and_answer.result
    (λ names. keeps_both (kept_of c.args.self.now) (kept_of c.send.new.self) (kept_of c.deliver_and_answer.new.self) c.in_ok-send.ensures.names names)
    c.deliver_and_answer.ensures.names
