use Rattle.std.proofs.Common.{Option, sym, subst, ◌∙◌}
use Rattle.std.proofs.lemmas.Bool.{iff_false}
use Rattle.office_text.specs.declared.order.Order.{Order}
use Rattle.office_text.specs.OrderReadings.{TakesArguments}
use Rattle.office_text.proofs.ShortLemmas.{line_is, more_fields, no_arguments, no_word}
use Rattle.office_text.proofs.short_reader.read_short.Goals as goal

pub returns-in_default-word_of : goal.returns-in_default-word_of
returns-in_default-word_of c =
    no_word c.args.orders.now c.args.line.now c.in-Some.field.now c.take_field.new.self (sym c.new-fields.ensures ∙ c.in-Some.ensures) c.in_default-word_of.ensures

pub returns-in_default-2 : goal.returns-in_default-2
returns-in_default-2 c =
    let P : Option Order → Type 0 = TakesArguments c.args.orders.now c.in-Some-word_of.word c.take_field.new.self c.take_arguments.new.fields in
    no_arguments c.args.orders.now c.args.line.now c.in-Some.field.now c.in-Some-word_of.word c.take_field.new.self c.take_arguments.new.fields (sym c.new-fields.ensures ∙ c.in-Some.ensures) c.in-Some-word_of.ensures
    (subst P c.in_default-2.is c.in_ok-order.ensures)

pub returns-then-not-is_over : goal.returns-then-not-is_over
returns-then-not-is_over c =
    let P : Option Order → Type 0 = TakesArguments c.args.orders.now c.in-Some-word_of.word c.take_field.new.self c.take_arguments.new.fields in
    let taken = subst P c.in-Some-2.is c.in_ok-order.ensures in
    more_fields c.args.orders.now c.args.line.now c.in-Some.field.now c.in-Some-word_of.word c.take_field.new.self c.take_arguments.new.fields c.in-Some-2.order (sym c.new-fields.ensures ∙ c.in-Some.ensures) c.in-Some-word_of.ensures
    taken.1 (iff_false c.is_over.ensures c.if-not-is_over.true)

pub returns : goal.returns
returns c =
    let P : Option Order → Type 0 = TakesArguments c.args.orders.now c.in-Some-word_of.word c.take_field.new.self c.take_arguments.new.fields in
    let taken = subst P c.in-Some-2.is c.in_ok-order.ensures in (
      taken.0,
      line_is c.args.line.now c.in-Some.field.now c.in-Some-word_of.word c.take_field.new.self c.take_arguments.new.fields c.in-Some-2.order (sym c.new-fields.ensures ∙ c.in-Some.ensures) c.in-Some-word_of.ensures
          taken.1 (c.is_over.ensures.0 c.if-not-is_over.false),
    )
