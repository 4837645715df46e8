use Rattle.std.proofs.Common.{refl}
use Rattle.report_text.specs.Reports.{computer_line, end_line}
use Rattle.agent_text.specs.PartReadings.{around_of}
use Rattle.std.proofs.lemmas.Bool.{iff_false}
use Rattle.line_forms.proofs.Parts.{not_taken, was_taken}
use Rattle.agent_text.proofs.ReportLists.{no_computer, no_end, no_seq, number_left, whole}
use Rattle.agent_text.proofs.report_reader.take_report.Goals as goal

pub returns-then-not-has_number : goal.returns-then-not-has_number
returns-then-not-has_number c = (refl, λ report more can e. iff_false c.has_number.ensures c.if-not-has_number.true (number_left (around_of c.args.frame) c.args.before.now report can))

pub returns-then-not-take_computer : goal.returns-then-not-take_computer
returns-then-not-take_computer c =
    no_computer (around_of c.args.frame) c.args.before.now c.in-Some.form c.args.lines.now c.take_form.new.lines c.take_computer.new.lines _ (c.has_number.ensures.0 c.if-not-has_number.false) c.requires.computer
    c.in-Some.ensures.0 c.in-Some.ensures.1
    (not_taken (computer_line c.args.frame.computer.now) c.take_form.new.lines c.take_computer.new.lines c.take_computer.result c.take_computer.ensures c.if-not-take_computer.true) c.number.ensures

pub returns-in_default-take_seq : goal.returns-in_default-take_seq
returns-in_default-take_seq c =
    no_seq (around_of c.args.frame) c.args.before.now c.in-Some.form c.args.lines.now c.take_form.new.lines c.take_computer.new.lines c.take_seq.new.lines _ (c.has_number.ensures.0 c.if-not-has_number.false) c.requires.computer
    c.in-Some.ensures.0 c.in-Some.ensures.1
    (was_taken (computer_line c.args.frame.computer.now) c.take_form.new.lines c.take_computer.new.lines c.take_computer.result c.take_computer.ensures c.if-not-take_computer.false) c.in_default-take_seq.ensures c.number-in_default-take_seq.ensures

pub returns-then-not-take_exactly : goal.returns-then-not-take_exactly
returns-then-not-take_exactly c =
    no_end (around_of c.args.frame) c.args.before.now c.in-Some.form c.in-Some-take_seq.seq c.in_ok-rows.rows c.args.lines.now c.take_form.new.lines c.take_computer.new.lines c.take_seq.new.lines c.take_rows.new.lines c.take_exactly.new.self _
    (c.has_number.ensures.0 c.if-not-has_number.false) c.requires.computer c.in-Some.ensures.0 c.in-Some.ensures.1
    (was_taken (computer_line c.args.frame.computer.now) c.take_form.new.lines c.take_computer.new.lines c.take_computer.result c.take_computer.ensures c.if-not-take_computer.false)
    c.in-Some-take_seq.ensures.0 c.in-Some-take_seq.ensures.1 c.in_ok-rows.ensures (not_taken end_line c.take_rows.new.lines c.take_exactly.new.self c.take_exactly.result c.take_exactly.ensures c.if-not-take_exactly.true) c.number-then-not-take_exactly.ensures

pub returns : goal.returns
returns c =
    whole (around_of c.args.frame) c.args.before.now c.in-Some.form _ c.in-Some-take_seq.seq c.in_ok-rows.rows c.args.lines.now c.take_form.new.lines c.take_computer.new.lines c.take_seq.new.lines c.take_rows.new.lines c.take_exactly.new.self
    (c.has_number.ensures.0 c.if-not-has_number.false) c.requires.computer c.in-Some.ensures.0 c.in-Some.ensures.1
    (was_taken (computer_line c.args.frame.computer.now) c.take_form.new.lines c.take_computer.new.lines c.take_computer.result c.take_computer.ensures c.if-not-take_computer.false)
    c.in-Some-take_seq.ensures.0 c.in-Some-take_seq.ensures.1 c.in_ok-rows.ensures (was_taken end_line c.take_rows.new.lines c.take_exactly.new.self c.take_exactly.result c.take_exactly.ensures c.if-not-take_exactly.false) c.in_ok-copy.ensures
