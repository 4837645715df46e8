use Rattle.std.proofs.Common.{ℕ, Option, Some, None, sym, subst, refl, arith}
use Rattle.line_forms.specs.LineStates.{LineState}
use Rattle.line_forms.specs.BadLines.{AnswersBadLine}
use Rattle.line_forms.specs.Readers.{ReadsPart}
use Rattle.std.proofs.lemmas.Bool.{iff_false}
use Rattle.line_forms.proofs.Passing.{stuck_answers, left_answers, text_is}
use Rattle.fix_site.specs.declared.action.Action.{Action}
use Rattle.fix_site.specs.Actions.{IsAction, AreActionLines, action_lines}
use Rattle.fix_site.proofs.Actions.{action_ends}
use Rattle.fix_site.proofs.action_reader.read_action.Goals as goal

pub returns-in_default : goal.returns-in_default
returns-in_default c =
    let P : Option Action → Type 0 = λ o. ReadsPart IsAction action_lines c.new-lines.result c.take_whole_action.new.lines o in
    let Q : LineState → Type 0 = λ s. ReadsPart IsAction action_lines s c.take_whole_action.new.lines None in
    let N : ℕ → Type 0 = λ n. AnswersBadLine AreActionLines c.args.text.now n in
    (omega arith, subst N (sym c.number.ensures) (stuck_answers AreActionLines c.args.text.now c.take_whole_action.new.lines (subst Q c.new-lines.ensures (subst P c.in_default.is c.in_ok-action.ensures))))

pub returns-then-not-is_over : goal.returns-then-not-is_over
returns-then-not-is_over c =
    let P : Option Action → Type 0 = λ o. ReadsPart IsAction action_lines c.new-lines.result c.take_whole_action.new.lines o in
    let Q : LineState → Type 0 = λ s. ReadsPart IsAction action_lines s c.take_whole_action.new.lines (Some c.in-Some.action) in
    let N : ℕ → Type 0 = λ n. AnswersBadLine AreActionLines c.args.text.now n in
    let read = subst Q c.new-lines.ensures (subst P c.in-Some.is c.in_ok-action.ensures) in (
      omega arith,
      subst N (sym c.number-then-not-is_over.ensures) (left_answers AreActionLines c.args.text.now (action_lines c.in-Some.action) c.take_whole_action.new.lines read.1
          (c.in-Some.action, read.0, refl) (action_ends c.in-Some.action read.0) (iff_false c.is_over.ensures c.if-not-is_over.true)),
    )

pub returns : goal.returns
returns c =
    let P : Option Action → Type 0 = λ o. ReadsPart IsAction action_lines c.new-lines.result c.take_whole_action.new.lines o in
    let Q : LineState → Type 0 = λ s. ReadsPart IsAction action_lines s c.take_whole_action.new.lines (Some c.in-Some.action) in
    let read = subst Q c.new-lines.ensures (subst P c.in-Some.is c.in_ok-action.ensures) in
    (omega arith, read.0, text_is c.args.text.now (action_lines c.in-Some.action) c.take_whole_action.new.lines read.1 (c.is_over.ensures.0 c.if-not-is_over.false))
