use Rattle.std.proofs.Common.{◌≡◌, ◌-◌, length, refl, arith}
use Rattle.line_forms.proofs.Passing.{takes_it}
use Rattle.agent_text.specs.AttemptLines.{attempt_line}
use Rattle.agent_text.proofs.AttemptLists.{wrong_number}
use Rattle.agent_text.proofs.attempt_reader.take_attempt.Goals as goal

pub returns-then-row-rows : goal.returns-then-row-rows
returns-then-row-rows c = (
  refl,
  λ row more can e.
      wrong_number c.args.form c.args.rows.now c.args.lines.now.lines c.in_ok-line_ahead.ensures.0 more c.in_ok-line_ahead.field-0.now c.in_ok-row.row row c.in_ok-line_ahead.ensures.1 c.in_ok-row.ensures.0 c.in_ok-row.ensures.1
      (λ (h : c.in_ok-row.row.number - 1 ≡ length c.args.rows.now). c.if-row-rows.true h) can e,
)

pub returns : goal.returns
returns c = (
  record {
    few = omega (arith, c.in_ok-row.ensures.0.0.0, c.in_ok-row.ensures.0.0.1, c.if-row-rows.false);
    number = omega (arith, c.in_ok-row.ensures.0.0.0, c.if-row-rows.false);
    ended = c.has_ended.ensures.0 c.if-not-has_ended.false;
    moments = c.in_ok-row.ensures.0.0.2;
    good = c.in_ok-row.ensures.0.1;
  },
  takes_it (attempt_line c.args.form) c.args.lines.now c.skip_line.new.self c.in_ok-line_ahead.field-0.now c.in_ok-line_ahead.ensures.0 c.in_ok-row.row c.in_ok-line_ahead.ensures.1 c.in_ok-row.ensures.1 c.skip_line.ensures,
)
