-- An action may begin where it has started, goes on, and has hours.
use Rattle.std.proofs.Common.{◌≡◌, ℤ, ◌≤ℤ◌, ◌<ℤ◌, Bool, subst}
use Rattle.std.specs.Prelude.{IsTrue, ◌↔◌, IfSome}
use Rattle.act_rules.specs.declared.rule.Rules.{Rules}
use Rattle.act_rules.specs.Windows.{IsOpenAt, IsInHours, mark_of, day_of, minute_of}

pub open_where : (rules : Rules) (moment local mark : ℤ) (time : ℤ) (answer : Bool) → mark ≡ mark_of rules moment local → local ≡ time →
    IfSome rules.start (λ start. start ≤ℤ mark) → IfSome rules.until (λ until. mark <ℤ until) →
    (IsTrue answer ↔ IsInHours rules.hours rules.days (day_of local) (minute_of local)) → (IsTrue answer ↔ IsOpenAt rules moment time)
open_where rules moment local mark time answer e l started going hours =
    let P : ℤ → Type 0 = λ t. IsTrue answer ↔ IsOpenAt rules moment t in
    let S : ℤ → Type 0 = λ t. IfSome rules.start (λ start. start ≤ℤ t) in
    let U : ℤ → Type 0 = λ t. IfSome rules.until (λ until. t <ℤ until) in
    subst P l (λ h. record { started = subst S e started; going = subst U e going; hours = hours.0 h }, λ w. hours.1 w.hours)
