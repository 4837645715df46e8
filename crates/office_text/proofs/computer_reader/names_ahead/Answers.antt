use Rattle.std.proofs.Common.{Option, sym, subst}
use Rattle.std.proofs.lemmas.Bool.{iff_false}
use Rattle.office_text.specs.declared.computer_reader.Names.{Names}
use Rattle.office_text.specs.OrderReadings.{FindsNames}
use Rattle.office_text.proofs.ComputerLemmas.{more_names, name_missing, names_are, relay_missing}
use Rattle.office_text.proofs.computer_reader.names_ahead.Goals as goal

pub returns-in_err-computer : goal.returns-in_err-computer
returns-in_err-computer c =
    let F : Option Names → Type 0 = FindsNames c.args.orders.now c.args.lines.now in
    let ahead = c.in_ok-rest_ahead.ensures in
    subst F (sym c.from_residual-in_err-computer.ensures)
    (name_missing c.args.orders.now c.args.lines.now c.in_ok-rest_ahead.field-0.now ahead.0 c.new-fields.result c.take_new_computer_name.new.fields ahead.1 c.new-fields.ensures c.in_err-computer.ensures)

pub returns-in_err-relay : goal.returns-in_err-relay
returns-in_err-relay c =
    let F : Option Names → Type 0 = FindsNames c.args.orders.now c.args.lines.now in
    let ahead = c.in_ok-rest_ahead.ensures in
    subst F (sym c.from_residual-in_err-relay.ensures)
    (relay_missing c.args.orders.now c.args.lines.now c.in_ok-rest_ahead.field-0.now c.in_ok-computer.computer.now ahead.0 c.new-fields.result c.take_new_computer_name.new.fields c.take_relay_name.new.fields
    ahead.1 c.new-fields.ensures c.in_ok-computer.ensures.1 c.in_err-relay.ensures)

pub returns-then-not-is_over : goal.returns-then-not-is_over
returns-then-not-is_over c =
    let ahead = c.in_ok-rest_ahead.ensures in
    more_names c.args.orders.now c.args.lines.now c.in_ok-rest_ahead.field-0.now c.in_ok-computer.computer.now c.in_ok-relay.relay.now ahead.0 c.new-fields.result c.take_new_computer_name.new.fields c.take_relay_name.new.fields
    ahead.1 c.new-fields.ensures c.in_ok-computer.ensures.1 c.in_ok-relay.ensures.1 (iff_false c.is_over.ensures c.if-not-is_over.true)

pub returns : goal.returns
returns c =
    let ahead = c.in_ok-rest_ahead.ensures in (
      (c.in_ok-computer.ensures.0, c.in_ok-relay.ensures.0),
      (
        ahead.0,
        names_are c.args.lines.now c.in_ok-rest_ahead.field-0.now c.in_ok-computer.computer.now c.in_ok-relay.relay.now ahead.0 c.new-fields.result c.take_new_computer_name.new.fields c.take_relay_name.new.fields
            ahead.1 c.new-fields.ensures c.in_ok-computer.ensures.1 c.in_ok-relay.ensures.1 (c.is_over.ensures.0 c.if-not-is_over.false),
      ),
    )
