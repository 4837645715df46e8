use Rattle.std.proofs.lemmas.Result.{err_from_is_err_and}
use Rattle.world_text.proofs.PassLemmas.{one_more, rows_fail}
use Rattle.world_text.proofs.read.read_rows.Goals as goal

pub loop-line-preserved : goal.loop-line-preserved
loop-line-preserved c = record {
  has =
      one_more c.args.draft.now c.loop-line.draft c.add_line.new.self c.args.lines.now c.loop-line.lines c.skip_line.new.self c.in-Some.line.now
      c.loop-line.invariant.has c.in_ok-add_line.ensures.adds (c.skip_line.ensures c.in-Some.line.now c.in-Some.ensures.0 c.in-Some.ensures.1);
  sound = c.in_ok-add_line.ensures.sound;
}

pub returns-in_err-add_line : goal.returns-in_err-add_line
returns-in_err-add_line c =
    let p = err_from_is_err_and c.from_residual.result c.from_residual.ensures.1 in
    rw (p.1, p.2)
    (rows_fail c.args.draft.now c.loop-line.draft c.add_line.new.self c.args.lines.now c.loop-line.lines c.in-Some.line.now c.in-Some.ensures.0 c.in_err-add_line.field-0.0
    c.loop-line.invariant.has c.in-Some.ensures.1 c.in-Some.ensures.2 c.in_err-add_line.ensures.adds)
