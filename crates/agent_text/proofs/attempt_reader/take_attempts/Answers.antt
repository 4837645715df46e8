use Rattle.std.proofs.Common.{refl}
use Rattle.agent_text.specs.AttemptLines.{attempt_line}
use Rattle.agent_text.specs.PartReadings.{CanBeNext}
use Rattle.line_forms.proofs.Sequences.{taken_all, taken_more}
use Rattle.agent_text.proofs.attempt_reader.take_attempts.Goals as goal

pub loop-row-preserved : goal.loop-row-preserved
loop-row-preserved c =
    let taken = taken_more (CanBeNext c.args.form) (attempt_line c.args.form) c.args.lines.now c.loop-row.lines c.take_attempt.new.lines c.loop-row.rows.rows c.as_slice.result.now c.push.new.self.rows c.in-Some.row
    c.loop-row.invariant.each c.loop-row.invariant.passes c.as_slice.ensures.value c.in_ok-push.ensures.ok c.in-Some.ensures.0 c.in-Some.ensures.1 in
    record { each = taken.0; passes = taken.1 }

pub returns : goal.returns
returns c =
    taken_all (CanBeNext c.args.form) (attempt_line c.args.form) c.args.lines.now c.loop-row.lines c.take_attempt.new.lines c.loop-row.rows.rows c.as_slice.result.now c.loop-row.rows.rows
    c.loop-row.invariant.each c.loop-row.invariant.passes c.as_slice.ensures.value refl c.in_default.ensures.0 c.in_default.ensures.1
