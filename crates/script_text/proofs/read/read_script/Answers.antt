use Rattle.std.proofs.Common.{◌+◌, refl, subst, ◌∙◌}
use Rattle.std.proofs.lemmas.Result.{err_from_is_err_and}
use Rattle.script_text.specs.Held.{Extends, Refuses}
use Rattle.script_text.proofs.Whole.{read_none, read_more, refused_line, finished, line_at}
use Rattle.script_text.proofs.read.read_script.Goals as goal

pub loop-index-init : goal.loop-index-init
loop-index-init c = read_none c.args.lines.now c.new-reader.result c.new-reader.ensures

pub loop-index-preserved : goal.loop-index-preserved
loop-index-preserved c =
    let line = c.as_str.ensures ∙ line_at c.args.lines.now c.loop-index.index c.index-lines-index.result c.loop-index-test.true c.index-lines-index.is in
    let h = c.loop-index.invariant in
    read_more c.args.lines.now c.loop-index.index (c.loop-index.index + 1) c.loop-index.reader c.in_ok-reader.reader c.loop-index-test.true refl h
    (subst (λ l. Extends h.part (c.loop-index.index + 1) l c.in_ok-reader.reader) line (c.in_ok-reader.ensures h.part h.stands))

pub returns-in_err-reader : goal.returns-in_err-reader
returns-in_err-reader c =
    let line = c.as_str.ensures ∙ line_at c.args.lines.now c.loop-index.index c.index-lines-index.result c.loop-index-test.true c.index-lines-index.is in
    let h = c.loop-index.invariant in
    let p = err_from_is_err_and c.from_residual.result c.from_residual.ensures.1 in
    rw (p.1, p.2) (refused_line c.args.lines.now c.loop-index.index (c.loop-index.index + 1) c.loop-index.reader c.in_err-reader.field-0.0 c.loop-index-test.true refl h
    (subst (λ l. Refuses h.part (c.loop-index.index + 1) l c.in_err-reader.field-0.0) line (c.in_err-reader.ensures h.part h.stands)))

pub returns : goal.returns
returns c = finished c.args.lines.now c.loop-index.index c.loop-index.reader c.finish.result c.loop-index-test.false c.loop-index.invariant c.finish.ensures
