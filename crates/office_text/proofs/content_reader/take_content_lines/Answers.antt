use Rattle.std.proofs.Common.{◌++◌, ap, ◌∙◌}
use Rattle.office_text.proofs.TextLemmas.{content_all, content_next}
use Rattle.office_text.proofs.content_reader.take_content_lines.Goals as goal

pub loop-line-preserved : goal.loop-line-preserved
loop-line-preserved c =
    let line = c.in_ok-extend.ensures.ok ∙ ap (λ l. c.loop-line.content ++ l) c.as_bytes.ensures.value in
    content_next c.args.lines.now c.loop-line.lines c.take_content_line.new.lines c.in-Some.line.now c.loop-line.content c.extend.new.self c.push.new.self
    c.loop-line.invariant c.in-Some.ensures.0 c.in-Some.ensures.1 line c.in_ok-push.ensures.ok

pub returns : goal.returns
returns c = content_all c.args.lines.now c.loop-line.lines c.take_content_line.new.lines c.loop-line.content c.loop-line.invariant c.in_default.ensures.0 c.in_default.ensures.1
