use Rattle.std.proofs.Common.{◌++◌, ℤ, Err, ap, ◌∙◌, subst, rules, SFits, w64}
use Rattle.std.proofs.lemmas.Int.{to_z-of_z}
use Rattle.std.proofs.lemmas.Result.{IfOk-weaker}
use Rattle.rel_value.specs.Outcomes.{AnswersText}
use Rattle.rel_value.specs.Texts.{text_of}
use Rattle.rel_value.specs.Views.{shown}
use Rattle.rel_session.specs.Printed.{said_value}
use Rattle.rel_session.proofs.Tellings.{comes_of_value, comes_of_long, too_long}
use Rattle.rel_session.proofs.paused.tell_value.Goals as goal

pub returns-in_ok-say_value-in-Ok : goal.returns-in_ok-say_value-in-Ok
returns-in_ok-say_value-in-Ok c =
    let fits : SFits w64 c.args.asking.offset = search rules in
    let answers = simp to_z-of_z at c.in-Ok.ensures in
    let said = c.in_ok-say_value-in-Ok.ensures ∙ ap (λ l. c.args.out.now ++ said_value l) answers.0 in
    IfOk-weaker c.after_value.result _ _ (λ step value. comes_of_value c.args.asking.offset c.args.span c.args.room (shown c.args.value.now) step c.args.out.now _ _ answers.1 said value)
    (c.after_value.ensures c.args.asking.offset c.args.span)

pub returns-in_ok-say_error-in-Err-TextTooLong : goal.returns-in_ok-say_error-in-Err-TextTooLong
returns-in_ok-say_error-in-Err-TextTooLong c =
    let fits : SFits w64 c.args.asking.offset = search rules in
    let Refused : ℤ → Type 0 = λ z. AnswersText (text_of z (shown c.args.value.now)) (Err c.in-Err-TextTooLong.field-0) in
    let answers = subst Refused (to_z-of_z w64 c.args.asking.offset fits) c.in-Err-TextTooLong.ensures in
    comes_of_long c.args.asking.offset c.args.span c.args.room (shown c.args.value.now) c.args.out.now _ (too_long _ _ c.in-Err-TextTooLong.field-0-is answers) c.in_ok-say_error-in-Err-TextTooLong.ensures
