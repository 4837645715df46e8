use Rattle.std.proofs.Common.{ℕ, List, Bool, Some, sym, subst}
use Rattle.line_forms.specs.Readers.{ReadsPart, TakesExactly}
use Rattle.report_text.specs.Reports.{IsReport, end_line, report_lines}
use Rattle.report_text.proofs.PassLemmas.{no_form, no_computer, no_seq, no_end, whole}
use Rattle.report_text.proofs.reader.take_report.Goals as goal

pub returns-in_default : goal.returns-in_default
returns-in_default c = no_form c.args.lines.now c.take_form.new.lines c.in_default.ensures

pub returns-in_default-take_computer : goal.returns-in_default-take_computer
returns-in_default-take_computer c =
    no_computer c.args.lines.now c.take_form.new.lines c.take_computer.new.lines c.in-Some.form c.in-Some.ensures.1 c.in_default-take_computer.ensures

pub returns-in_default-take_seq : goal.returns-in_default-take_seq
returns-in_default-take_seq c =
    no_seq c.args.lines.now c.take_form.new.lines c.take_computer.new.lines c.take_seq.new.lines c.in-Some.form c.in-Some-take_computer.computer.now
    c.in-Some.ensures.1 c.in-Some-take_computer.ensures.0 c.in-Some-take_computer.ensures.1 c.in_default-take_seq.ensures

pub returns-then-not-take_exactly : goal.returns-then-not-take_exactly
returns-then-not-take_exactly c =
    let P : Bool → Type 0 = λ b. TakesExactly end_line c.take_rows.new.lines c.take_exactly.new.self b in
    no_end c.args.lines.now c.take_form.new.lines c.take_computer.new.lines c.take_seq.new.lines c.take_rows.new.lines c.take_exactly.new.self
    c.in-Some.form c.in-Some-take_computer.computer.now c.in-Some-take_seq.seq c.in_ok-rows.rows
    c.in-Some.ensures.1 c.in-Some-take_computer.ensures.0 c.in-Some-take_computer.ensures.1 c.in-Some-take_seq.ensures.0 c.in-Some-take_seq.ensures.1 c.in_ok-rows.ensures
    (subst P c.if-not-take_exactly.true c.take_exactly.ensures)

pub returns : goal.returns
returns c =
    let P : Bool → Type 0 = λ b. TakesExactly end_line c.take_rows.new.lines c.take_exactly.new.self b in
    let Q : List ℕ → Type 0 = λ name. ReadsPart IsReport report_lines c.args.lines.now c.take_exactly.new.self (Some (record { form = c.in-Some.form; computer = name; seq = c.in-Some-take_seq.seq; rows = c.in_ok-rows.rows })) in
    subst Q (sym c.in_ok-from_str.ensures)
    (whole c.args.lines.now c.take_form.new.lines c.take_computer.new.lines c.take_seq.new.lines c.take_rows.new.lines c.take_exactly.new.self
    c.in-Some.form c.in-Some-take_computer.computer.now c.in-Some-take_seq.seq c.in_ok-rows.rows
    c.in-Some.ensures.1 c.in-Some-take_computer.ensures.0 c.in-Some-take_computer.ensures.1 c.in-Some-take_seq.ensures.0 c.in-Some-take_seq.ensures.1 c.in_ok-rows.ensures
    (subst P c.if-not-take_exactly.false c.take_exactly.ensures))
