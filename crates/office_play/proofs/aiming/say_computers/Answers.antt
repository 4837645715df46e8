use Rattle.std.proofs.Common.{◌<◌, List, ℕ, ◌++◌, length, arith, ap, ◌∙◌}
use Rattle.office_play.proofs.Aimed.{computer_more, written_line}
use Rattle.office_play.proofs.aiming.say_computers.Goals as goal

pub loop-computer-preserved : goal.loop-computer-preserved
loop-computer-preserved c =
    let within : c.loop-computer.computer-index < length c.args.computers.now = search (arith, c.loop-computer-test.true) in
    computer_more c.args.computers.now c.loop-computer.computer-index c.computer-item.result c.args.out.now c.loop-computer.out c.push.new.self within c.computer-item.is
    c.loop-computer.invariant
    (written_line c.computer-item.result c.loop-computer.out c.extend.new.self c.extend-in-loop-computer.new.self c.push.new.self c.in_ok-extend.ensures.ok
    (c.in_ok-extend-2.ensures.ok ∙ ap (λ (t : List ℕ). c.extend.new.self ++ t) (c.as_bytes.ensures.value ∙ c.as_str.ensures)) c.in_ok-push.ensures.ok)
