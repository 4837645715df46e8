use Rattle.std.proofs.Common.{List, Option, Some, None, ℕ, Ok, Err, refl, ap, subst}
use Rattle.office_text.specs.declared.error.OfficeError.TheVariants.{BadLine}
use Rattle.office_text.specs.declared.order.Order.TheVariants.{Target}
use Rattle.office_text.specs.OrderLines.{AreTargetLines}
use Rattle.office_text.specs.OrderReadings.{TakesBody}
use Rattle.office_text.proofs.TargetLemmas.{target_read}
use Rattle.office_text.proofs.target_reader.take_target.Goals as goal

pub returns-in-Some-2 : goal.returns-in-Some-2
returns-in-Some-2 c before =
    let T : Option (List ℕ) → Type 0 = TakesBody AreTargetLines c.skip_line.new.self c.take_action.new.lines in
    target_read before c.in-Some.name.now c.in_ok-group.group c.in-Some.ensures.1.0 c.args.lines.now c.skip_line.new.self c.take_action.new.lines (Some c.in-Some-2.action) (Ok (Some (Target c.in_ok-group.group c.in-Some-2.action)))
    c.in-Some.ensures.0 c.in_ok-group.ensures c.in-Some.ensures.1.1 c.skip_line.ensures (subst T c.in-Some-2.is c.in_ok-action.ensures) refl

pub returns-in-None : goal.returns-in-None
returns-in-None c before =
    let T : Option (List ℕ) → Type 0 = TakesBody AreTargetLines c.skip_line.new.self c.take_action.new.lines in
    target_read before c.in-Some.name.now c.in_ok-group.group c.in-Some.ensures.1.0 c.args.lines.now c.skip_line.new.self c.take_action.new.lines None (Err (BadLine c.number.result))
    c.in-Some.ensures.0 c.in_ok-group.ensures c.in-Some.ensures.1.1 c.skip_line.ensures (subst T c.in-None.is c.in_ok-action.ensures) (ap (λ n. Err (BadLine n)) c.number.ensures)
