use Rattle.std.proofs.Common.{◌≡◌, ◌+◌, ◌-◌, suc, length, arith, sym, subst}
use Rattle.std.specs.List.{range_with_len}
use Rattle.office_rules.specs.Deeds.{DoesEach}
use Rattle.office_rules.specs.MessageWords.{DeliversAnswered, Pushes}
use Rattle.office_play.specs.Played.{Plays}
use Rattle.office_play.specs.States.{kept_of}
use Rattle.office_play.proofs.Deeds.{plays_none, still_accepted, still_good}
use Rattle.office_play.proofs.Names.{keeps_both, keeps_same}
use Rattle.office_play.proofs.Queues.{deliver_more, forwards, pushes_grow}
use Rattle.office_play.proofs.office.Office.forward.Goals as goal

pub loop-number-init : goal.loop-number-init
loop-number-init c =
    let first = c.next_number-first.result in
    let none : first - first ≡ 0 = omega arith in
    let good = still_good (Pushes c.args.name.now) (kept_of c.args.self.now) (kept_of c.push.new.self) c.args.out.now c.push.new.out c.in_ok-push.ensures.plays c.requires.accepted in (
      subst (λ n. Plays (DoesEach DeliversAnswered (range_with_len first n)) (kept_of c.push.new.self) c.push.new.out (kept_of c.push.new.self) c.push.new.out) (sym none)
          (plays_none DeliversAnswered (kept_of c.push.new.self) c.push.new.out good),
      keeps_same (kept_of c.push.new.self),
    )

pub deliver_and_answer-requires : goal.deliver_and_answer-requires
deliver_and_answer-requires c =
    let so = c.loop-number.invariant in
    let Does = DoesEach DeliversAnswered (range_with_len c.next_number-first.result (c.loop-number.number - c.next_number-first.result)) in
    let accepted = still_accepted (Pushes c.args.name.now) (kept_of c.args.self.now) (kept_of c.push.new.self) c.args.out.now c.push.new.out c.in_ok-push.ensures.plays c.requires.accepted in
    record {
      good = still_good Does (kept_of c.push.new.self) (kept_of c.loop-number.self) c.push.new.out c.loop-number.out so.0 accepted;
      accepted = still_accepted Does (kept_of c.push.new.self) (kept_of c.loop-number.self) c.push.new.out c.loop-number.out so.0 accepted;
    }

pub loop-number-preserved : goal.loop-number-preserved
loop-number-preserved c =
    let so = c.loop-number.invariant in
    let first = c.next_number-first.result in
    let number = c.loop-number.number in
    let is : number ≡ first + (number - first) = omega (arith, c.loop-number.auto.number) in
    let next : number + 1 - first ≡ suc (number - first) = omega (arith, c.loop-number.auto.number) in (
      deliver_more first number (kept_of c.push.new.self) (kept_of c.loop-number.self) (kept_of c.deliver_and_answer.new.self) c.push.new.out c.loop-number.out
          c.deliver_and_answer.new.out (number - first) (number + 1 - first) is next so.0 c.in_ok-deliver_and_answer.ensures.plays,
      keeps_both (kept_of c.push.new.self) (kept_of c.loop-number.self) (kept_of c.deliver_and_answer.new.self) so.1 c.in_ok-deliver_and_answer.ensures.names,
    )

pub returns-clause-names : goal.returns-clause-names
returns-clause-names c =
    keeps_both (kept_of c.args.self.now) (kept_of c.push.new.self) (kept_of c.loop-number.self) c.in_ok-push.ensures.names c.loop-number.invariant.1

pub returns-clause-plays : goal.returns-clause-plays
returns-clause-plays c =
    let so = c.loop-number.invariant in
    let first = c.next_number-first.result in
    let count = c.loop-number.number - first in
    let begins : first ≡ length c.args.self.now.messages + 1 = c.next_number-first.ensures in
    let ends : c.next_number-number-end.result ≡ length c.push.new.self.messages + 1 = c.next_number-number-end.ensures in
    let grown = pushes_grow c.args.name.now (kept_of c.args.self.now) (kept_of c.push.new.self) c.args.out.now c.push.new.out c.in_ok-push.ensures.plays c.requires.accepted in
    let many : count + length c.args.self.now.messages ≡ length c.push.new.self.messages =
    omega (arith, begins, ends, grown, c.loop-number.auto.number, c.loop-number.auto.number-end, c.loop-number-test.false) in
    forwards c.args.name.now (kept_of c.args.self.now) (kept_of c.push.new.self) (kept_of c.loop-number.self) c.args.out.now c.push.new.out c.loop-number.out count many
    c.in_ok-push.ensures.plays
    (subst (λ n. Plays (DoesEach DeliversAnswered (range_with_len n count)) (kept_of c.push.new.self) c.push.new.out (kept_of c.loop-number.self) c.loop-number.out) begins so.0)
