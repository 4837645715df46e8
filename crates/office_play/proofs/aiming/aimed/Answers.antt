use Rattle.office_rules.specs.GroupWords.{aimed}
use Rattle.office_play.proofs.Aimed.{goes_on}
use Rattle.office_play.proofs.aiming.aimed.Goals as goal

pub loop-line-preserved : goal.loop-line-preserved
loop-line-preserved c =
    let line = c.in-Some.line.now in
    let passed = c.skip_line.ensures line c.in-Some.ensures.0 c.in-Some.ensures.1 in
    goes_on c.loop-line.is_aimed c.in_ok-is_aimed.is_aimed c.args.computers.now c.loop-line.lines c.skip_line.new.self line c.loop-line.out c.say_line.new.out
    (aimed c.args.computers.now c.args.text.now) passed c.in_ok-is_aimed.ensures c.loop-line.invariant
