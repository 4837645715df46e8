use Rattle.std.proofs.Common.{◌≡◌, ℕ, Some, sym, subst}
use Rattle.std.specs.declared.option.Option.{Option}
use Rattle.rel_session.specs.declared.paused.Left.TheVariants as left
use Rattle.rel_session.specs.declared.paused.Step.TheVariants.{Out}
use Rattle.rel_session.specs.Tellings.{GoesOn, Tells}
use Rattle.rel_session.specs.Waiting.{TellsValue}
use Rattle.rel_session.proofs.Tellings.{comes_of_full}
use Rattle.rel_session.proofs.paused.after_value.Goals as goal

pub returns-in_ok-say_more-in-Some-eq0 : goal.returns-in_ok-say_more-in-Some-eq0
returns-in_ok-say_more-in-Some-eq0 c offset span =
    let Full : Option ℕ → Type 0 = λ r. TellsValue offset span (λ t. GoesOn r t (λ left. Tells offset span left t)) (Out left.More) c.args.out.now c.say_more.new.out in
    let some = c.in-Some-eq0.is in
    let zero = c.in-Some-eq0.field-0-is in
    let full : c.args.room ≡ Some 0 = cc in
    subst Full (sym full) (comes_of_full offset span _ _ c.in_ok-say_more-in-Some-eq0.ensures)
