use Rattle.std.proofs.lemmas.Bool.{iff_false}
use Rattle.office_text.proofs.TextLemmas.{taken_last, taken_more}
use Rattle.office_text.proofs.text_reader.take_to.Goals as goal

pub returns-then-is_last : goal.returns-then-is_last
returns-then-is_last c =
    let one = c.skip_line.ensures c.in-Some.line.now c.in-Some.ensures.0 c.in-Some.ensures.1 in
    taken_last c.args.last c.args.lines.now c.loop-line.lines c.skip_line.new.self c.in-Some.line.now c.loop-line.text c.extend.new.self c.push.new.self
    c.loop-line.invariant one c.in_ok-extend.ensures.ok c.in_ok-push.ensures.ok (c.is_last.ensures.0 c.if-is_last.true)

pub loop-line-preserved : goal.loop-line-preserved
loop-line-preserved c =
    let one = c.skip_line.ensures c.in-Some.line.now c.in-Some.ensures.0 c.in-Some.ensures.1 in
    taken_more c.args.last c.args.lines.now c.loop-line.lines c.skip_line.new.self c.in-Some.line.now c.loop-line.text c.extend.new.self c.push.new.self
    c.loop-line.invariant one c.in_ok-extend.ensures.ok c.in_ok-push.ensures.ok (iff_false c.is_last.ensures c.if-is_last.false)
