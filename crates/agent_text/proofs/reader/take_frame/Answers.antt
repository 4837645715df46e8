use Rattle.std.proofs.Common.{refl}
use Rattle.report_text.specs.Reports.{computer_line}
use Rattle.agent_text.proofs.FrameLines.{no_computer, no_form, no_next, three_lines}
use Rattle.line_forms.proofs.Parts.{not_taken, was_taken}
use Rattle.agent_text.proofs.reader.take_frame.Goals as goal

pub returns-in_default : goal.returns-in_default
returns-in_default c = (no_form c.args.computer.now c.args.lines.now c.take_form.new.lines c.in_default.ensures, c.number.ensures)

pub returns-then-not-take_computer : goal.returns-then-not-take_computer
returns-then-not-take_computer c = (
  no_computer c.args.computer.now c.in-Some.form c.args.lines.now c.take_form.new.lines c.take_computer.new.lines c.in-Some.ensures.1
      (not_taken (computer_line c.args.computer.now) c.take_form.new.lines c.take_computer.new.lines c.take_computer.result c.take_computer.ensures c.if-not-take_computer.true),
  c.number-then-not-take_computer.ensures,
)

pub returns-in_default-take_next : goal.returns-in_default-take_next
returns-in_default-take_next c = (
  no_next c.args.computer.now c.in-Some.form c.args.lines.now c.take_form.new.lines c.take_computer.new.lines c.take_next.new.lines c.in-Some.ensures.1
      (was_taken (computer_line c.args.computer.now) c.take_form.new.lines c.take_computer.new.lines c.take_computer.result c.take_computer.ensures c.if-not-take_computer.false) c.in_default-take_next.ensures,
  c.number-in_default-take_next.ensures,
)

pub returns : goal.returns
returns c = (
  (refl, c.in-Some-take_next.ensures.0),
  three_lines c.args.computer.now c.in-Some.form c.in-Some-take_next.next c.args.lines.now c.take_form.new.lines c.take_computer.new.lines c.take_next.new.lines c.in-Some.ensures.1
      (was_taken (computer_line c.args.computer.now) c.take_form.new.lines c.take_computer.new.lines c.take_computer.result c.take_computer.ensures c.if-not-take_computer.false) c.in-Some-take_next.ensures.1,
)
