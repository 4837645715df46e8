use Rattle.std.proofs.Common.{refl, subst, sym}
use Rattle.office_text.specs.declared.order.Order.TheVariants.{Relay}
use Rattle.office_text.specs.declared.word.Word.{Word}
use Rattle.office_text.specs.declared.word.Word.TheVariants as word
use Rattle.office_text.specs.OrderReadings.{IsNewRelay, TakesArguments, itself}
use Rattle.office_text.proofs.ShortLemmas.{arm, mapped}
use Rattle.office_text.proofs.WordLemmas.{of_relay}
use Rattle.office_text.proofs.short_reader.take_arguments.Goals as goal

pub returns-in_ok-take_new_relay-in-Relay : goal.returns-in_ok-take_new_relay-in-Relay
returns-in_ok-take_new_relay-in-Relay c =
    let P : Word → Type 0 = λ w. TakesArguments c.args.orders.now w c.args.fields.now c.take_new_relay.new.fields c.map-in-Relay.result in
    subst P (sym c.in-Relay.is) (
    arm c.args.orders.now word.Relay (IsNewRelay c.args.orders.now) itself Relay c.args.fields.now c.take_new_relay.new.fields c.in_ok-take_new_relay-in-Relay.field-0 c.map-in-Relay.result
    (λ name is. (record { form = is.0; names = is.1 }, refl)) (λ name short. (short.0.form, short.0.names)) (λ name. refl) of_relay
    (mapped Relay c.in_ok-take_new_relay-in-Relay.field-0 c.map-in-Relay.result c.map-in-Relay.ensures.cases) c.in_ok-take_new_relay-in-Relay.ensures
    )
