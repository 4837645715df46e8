use Rattle.std.proofs.Common.{ℕ, subst}
use Rattle.std.proofs.lemmas.Result.{on_ok_weaker}
use Rattle.office_rules.specs.MessageWords.{DeliversAt}
use Rattle.office_play.specs.Played.{Plays}
use Rattle.office_play.specs.States.{kept_of}
use Rattle.office_play.proofs.Deeds.{still_accepted, still_good}
use Rattle.office_play.proofs.MessageWords.{delivers_answered}
use Rattle.office_play.proofs.Names.{keeps_both}
use Rattle.office_play.proofs.office.Office.deliver_and_answer.Goals as goal

pub deliver-requires-2 : goal.deliver-requires-2
deliver-requires-2 c = record {
  good = still_good (DeliversAt c.args.number) (kept_of c.args.self.now) (kept_of c.deliver.new.self) c.args.out.now c.deliver.new.out c.in_ok-deliver.ensures.plays
      c.requires.accepted;
  accepted = still_accepted (DeliversAt c.args.number) (kept_of c.args.self.now) (kept_of c.deliver.new.self) c.args.out.now c.deliver.new.out c.in_ok-deliver.ensures.plays
      c.requires.accepted;
}

pub returns-clause-plays : goal.returns-clause-plays
returns-clause-plays c =
    on_ok_weaker c.deliver-2.result
    (λ p. delivers_answered (kept_of c.args.self.now) (kept_of c.deliver.new.self) (kept_of c.deliver-2.new.self) c.args.number c.args.out.now c.deliver.new.out c.deliver-2.new.out
    c.in_ok-deliver.ensures.plays
    (subst (λ (n : ℕ). Plays (DeliversAt n) (kept_of c.deliver.new.self) c.deliver.new.out (kept_of c.deliver-2.new.self) c.deliver-2.new.out) c.next_number-answer.ensures p))
    c.deliver-2.ensures.plays

pub returns-clause-names : goal.returns-clause-names
returns-clause-names c =
    on_ok_weaker c.deliver-2.result (λ names. keeps_both (kept_of c.args.self.now) (kept_of c.deliver.new.self) (kept_of c.deliver-2.new.self) c.in_ok-deliver.ensures.names names)
    c.deliver-2.ensures.names
