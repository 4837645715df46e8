use Rattle.std.proofs.Common.{sym, subst}
use Rattle.std.proofs.lemmas.Result.{err_from_is_err_and}
use Rattle.line_forms.specs.LineStates.{LineState}
use Rattle.office_text.specs.OrderReadings.{HasText, IsEntry, IsInText, IsTarget}
use Rattle.office_text.proofs.OrderReading.{bad_taken, computer_or_none, no_short, no_such, some_taken}
use Rattle.office_text.proofs.order_reader.take_order.Goals as goal

pub returns-in_err-order-2 : goal.returns-in_err-order-2
returns-in_err-order-2 c =
    let short = no_short c.args.orders.now c.args.lines.now c.take_short.new.lines c.in_ok-order.field-0 c.in_default.is c.in_ok-order.ensures in
    let p = err_from_is_err_and c.from_residual-in_err-order-2.result c.from_residual-in_err-order-2.ensures.1 in
    rw (p.1, p.2) (bad_taken HasText c.args.orders.now c.args.lines.now c.take_short.new.lines c.take_with_text.new.lines _ short.0 (c.in_err-order-2.ensures c.args.orders.now))

pub returns-in-Some-2 : goal.returns-in-Some-2
returns-in-Some-2 c =
    let short = no_short c.args.orders.now c.args.lines.now c.take_short.new.lines c.in_ok-order.field-0 c.in_default.is c.in_ok-order.ensures in
    some_taken HasText c.args.orders.now c.args.lines.now c.take_short.new.lines c.take_with_text.new.lines c.in_ok-order-2.field-0 c.in-Some-2.order short.0 c.in-Some-2.is (c.in_ok-order-2.ensures c.args.orders.now)

pub take_entry-requires : goal.take_entry-requires
take_entry-requires c =
    let short = no_short c.args.orders.now c.args.lines.now c.take_short.new.lines c.in_ok-order.field-0 c.in_default.is c.in_ok-order.ensures in
    let text = no_such HasText c.args.orders.now c.args.lines.now c.take_short.new.lines c.take_with_text.new.lines c.in_ok-order-2.field-0 short.0 c.in_default-2.is (c.in_ok-order-2.ensures c.args.orders.now) in
    let P : LineState → Type 0 = IsInText in
    subst P (sym text.0) c.requires

pub returns-in_err-order-3 : goal.returns-in_err-order-3
returns-in_err-order-3 c =
    let short = no_short c.args.orders.now c.args.lines.now c.take_short.new.lines c.in_ok-order.field-0 c.in_default.is c.in_ok-order.ensures in
    let text = no_such HasText c.args.orders.now c.args.lines.now c.take_short.new.lines c.take_with_text.new.lines c.in_ok-order-2.field-0 short.0 c.in_default-2.is (c.in_ok-order-2.ensures c.args.orders.now) in
    let p = err_from_is_err_and c.from_residual-in_err-order-3.result c.from_residual-in_err-order-3.ensures.1 in
    rw (p.1, p.2) (bad_taken IsEntry c.args.orders.now c.args.lines.now c.take_with_text.new.lines c.take_entry.new.lines _ text.0 (c.in_err-order-3.ensures c.args.orders.now))

pub returns-in-Some-3 : goal.returns-in-Some-3
returns-in-Some-3 c =
    let short = no_short c.args.orders.now c.args.lines.now c.take_short.new.lines c.in_ok-order.field-0 c.in_default.is c.in_ok-order.ensures in
    let text = no_such HasText c.args.orders.now c.args.lines.now c.take_short.new.lines c.take_with_text.new.lines c.in_ok-order-2.field-0 short.0 c.in_default-2.is (c.in_ok-order-2.ensures c.args.orders.now) in
    some_taken IsEntry c.args.orders.now c.args.lines.now c.take_with_text.new.lines c.take_entry.new.lines c.in_ok-order-3.field-0 c.in-Some-3.order text.0 c.in-Some-3.is (c.in_ok-order-3.ensures c.args.orders.now)

pub returns-in_err-order-4 : goal.returns-in_err-order-4
returns-in_err-order-4 c =
    let short = no_short c.args.orders.now c.args.lines.now c.take_short.new.lines c.in_ok-order.field-0 c.in_default.is c.in_ok-order.ensures in
    let text = no_such HasText c.args.orders.now c.args.lines.now c.take_short.new.lines c.take_with_text.new.lines c.in_ok-order-2.field-0 short.0 c.in_default-2.is (c.in_ok-order-2.ensures c.args.orders.now) in
    let entry = no_such IsEntry c.args.orders.now c.args.lines.now c.take_with_text.new.lines c.take_entry.new.lines c.in_ok-order-3.field-0 text.0 c.in_default-3.is (c.in_ok-order-3.ensures c.args.orders.now) in
    let p = err_from_is_err_and c.from_residual-in_err-order-4.result c.from_residual-in_err-order-4.ensures.1 in
    rw (p.1, p.2) (bad_taken IsTarget c.args.orders.now c.args.lines.now c.take_entry.new.lines c.take_target.new.lines _ entry.0 (c.in_err-order-4.ensures c.args.orders.now))

pub returns-in-Some-4 : goal.returns-in-Some-4
returns-in-Some-4 c =
    let short = no_short c.args.orders.now c.args.lines.now c.take_short.new.lines c.in_ok-order.field-0 c.in_default.is c.in_ok-order.ensures in
    let text = no_such HasText c.args.orders.now c.args.lines.now c.take_short.new.lines c.take_with_text.new.lines c.in_ok-order-2.field-0 short.0 c.in_default-2.is (c.in_ok-order-2.ensures c.args.orders.now) in
    let entry = no_such IsEntry c.args.orders.now c.args.lines.now c.take_with_text.new.lines c.take_entry.new.lines c.in_ok-order-3.field-0 text.0 c.in_default-3.is (c.in_ok-order-3.ensures c.args.orders.now) in
    some_taken IsTarget c.args.orders.now c.args.lines.now c.take_entry.new.lines c.take_target.new.lines c.in_ok-order-4.field-0 c.in-Some-4.order entry.0 c.in-Some-4.is (c.in_ok-order-4.ensures c.args.orders.now)

pub take_computer_order-requires : goal.take_computer_order-requires
take_computer_order-requires c =
    let short = no_short c.args.orders.now c.args.lines.now c.take_short.new.lines c.in_ok-order.field-0 c.in_default.is c.in_ok-order.ensures in
    let text = no_such HasText c.args.orders.now c.args.lines.now c.take_short.new.lines c.take_with_text.new.lines c.in_ok-order-2.field-0 short.0 c.in_default-2.is (c.in_ok-order-2.ensures c.args.orders.now) in
    let entry = no_such IsEntry c.args.orders.now c.args.lines.now c.take_with_text.new.lines c.take_entry.new.lines c.in_ok-order-3.field-0 text.0 c.in_default-3.is (c.in_ok-order-3.ensures c.args.orders.now) in
    let target = no_such IsTarget c.args.orders.now c.args.lines.now c.take_entry.new.lines c.take_target.new.lines c.in_ok-order-4.field-0 entry.0 c.in_default-4.is (c.in_ok-order-4.ensures c.args.orders.now) in
    let P : LineState → Type 0 = IsInText in
    subst P (sym target.0) c.requires

pub returns : goal.returns
returns c =
    let short = no_short c.args.orders.now c.args.lines.now c.take_short.new.lines c.in_ok-order.field-0 c.in_default.is c.in_ok-order.ensures in
    let text = no_such HasText c.args.orders.now c.args.lines.now c.take_short.new.lines c.take_with_text.new.lines c.in_ok-order-2.field-0 short.0 c.in_default-2.is (c.in_ok-order-2.ensures c.args.orders.now) in
    let entry = no_such IsEntry c.args.orders.now c.args.lines.now c.take_with_text.new.lines c.take_entry.new.lines c.in_ok-order-3.field-0 text.0 c.in_default-3.is (c.in_ok-order-3.ensures c.args.orders.now) in
    let target = no_such IsTarget c.args.orders.now c.args.lines.now c.take_entry.new.lines c.take_target.new.lines c.in_ok-order-4.field-0 entry.0 c.in_default-4.is (c.in_ok-order-4.ensures c.args.orders.now) in
    computer_or_none c.args.orders.now c.args.lines.now c.take_target.new.lines c.take_computer_order.new.lines c.take_computer_order.result target.0 short.1 text.1 entry.1 target.1 c.take_computer_order.ensures
