use Rattle.std.proofs.Common.{ℕ, Ok, Err, sym, subst}
use Rattle.std.proofs.lemmas.Bool.{iff_false}
use Rattle.line_forms.specs.BadLines.{AnswersBadLine}
use Rattle.line_forms.specs.LineStates.{LineState}
use Rattle.line_forms.specs.Readers.{IsStuck}
use Rattle.line_forms.proofs.Passing.{left_answers, stuck_answers}
use Rattle.world_text.specs.declared.fault.Fault.{Fault}
use Rattle.world_text.specs.Texts.{AreWorldLines}
use Rattle.world_text.specs.Readings.{ReadsLines}
use Rattle.world_text.proofs.StopLemmas.{never_goes_on}
use Rattle.world_text.proofs.PassLemmas.{world_is}
use Rattle.world_text.proofs.read.read_world.Goals as goal

pub returns-in-Err-Bad : goal.returns-in-Err-Bad
returns-in-Err-Bad c =
    let F : Fault → Type 0 = λ f. ReadsLines c.new-lines.result c.read_lines.new.lines (Err f) in
    let Q : LineState → Type 0 = λ s. IsStuck AreWorldLines s c.read_lines.new.lines in
    let N : ℕ → Type 0 = λ n. AnswersBadLine AreWorldLines c.args.text.now n in
    let stuck = subst Q c.new-lines.ensures (subst F c.in-Err-Bad.field-0-is c.in-Err-Bad.ensures) in
    subst N (sym c.number.ensures) (stuck_answers AreWorldLines c.args.text.now c.read_lines.new.lines stuck)

pub returns-then-not-is_over : goal.returns-then-not-is_over
returns-then-not-is_over c =
    let Q : LineState → Type 0 = λ s. ReadsLines s c.read_lines.new.lines (Ok c.in-Ok.world) in
    let N : ℕ → Type 0 = λ n. AnswersBadLine AreWorldLines c.args.text.now n in
    let read = subst Q c.new-lines.ensures c.in-Ok.ensures in
    subst N (sym c.number-then-not-is_over.ensures)
    (left_answers AreWorldLines c.args.text.now read.0 c.read_lines.new.lines read.2 (c.in-Ok.world, read.1)
    (never_goes_on read.0 c.in-Ok.world read.1) (iff_false c.is_over.ensures c.if-not-is_over.true))

pub returns : goal.returns
returns c =
    let Q : LineState → Type 0 = λ s. ReadsLines s c.read_lines.new.lines (Ok c.in-Ok.world) in
    world_is c.args.text.now c.read_lines.new.lines c.in-Ok.world (subst Q c.new-lines.ensures c.in-Ok.ensures) (c.is_over.ensures.0 c.if-not-is_over.false)
