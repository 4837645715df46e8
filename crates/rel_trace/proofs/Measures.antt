-- How the number of quiet steps falls where another part begins.
use Rattle.std.proofs.Common.{◌≡◌, ℕ, ◌+◌, ◌*◌, ◌<◌, Bool, true, false, arith, subst}
use Rattle.std.proofs.lemmas.Nat.{mul-add-lt}
use Rattle.rel_value.specs.Plain.{Plain}
use Rattle.rel_trace.specs.declared.choice.Choice.{Choice}
use Rattle.rel_trace.specs.declared.choice.Choice.TheVariants.{Test, Yes, No}
use Rattle.rel_trace.specs.declared.step.Step.{Step}
use Rattle.rel_trace.specs.declared.step.Step.TheVariants.{Given}
use Rattle.rel_trace.specs.Choices.{is_test, choice_quiet}
use Rattle.rel_trace.specs.declared.logic.Logic.{Logic}
use Rattle.rel_trace.specs.declared.sequence.Order.{Order}
use Rattle.rel_trace.specs.declared.sequence.Order.TheVariants.{Then, Bar, Logical}
use Rattle.rel_trace.specs.Steps.{Falls}
use Rattle.rel_trace.specs.Twos.{ordered_quiet}

-- one step less pays for the other part from its beginning
pays : (q q' n m : ℕ) → q' < q → m < n → q' * n + m < q * n
pays q q' n m h k = omega (arith, mul-add-lt q' n m q h k)

-- the branch that is chosen begins with less than the test had left
pub yes-falls : (state : Choice) (v : Plain) (step : Step) (q q' r w n m : ℕ) → is_test state ≡ true → step ≡ Given v → Falls step q q' → choice_quiet Yes q' n m n m < choice_quiet state q r w n m
yes-falls Test v step q q' r w n m e k h =
    let p : q' < q = subst (λ (s : Step). Falls s q q') k h in
    pays q q' (n + m + 2) (n + 1) p (omega arith)
yes-falls Yes v step q q' r w n m e k h = cc
yes-falls No v step q q' r w n m e k h = cc

pub no-falls : (state : Choice) (v : Plain) (step : Step) (q q' r w n m : ℕ) → is_test state ≡ true → step ≡ Given v → Falls step q q' → choice_quiet No q' n m n m < choice_quiet state q r w n m
no-falls Test v step q q' r w n m e k h =
    let p : q' < q = subst (λ (s : Step). Falls s q q') k h in
    pays q q' (n + m + 2) (m + 1) p (omega arith)
no-falls Yes v step q q' r w n m e k h = cc
no-falls No v step q q' r w n m e k h = cc

-- the right side of `and` and `or` begins with less than the left had left
pub logical-falls : (order : Order) (l : Logic) (on : Bool) (v : Plain) (step : Step) (q q' r n : ℕ) → order ≡ Logical l → on ≡ false → step ≡ Given v → Falls step q q' → ordered_quiet order true q' n n < ordered_quiet order on q r n
logical-falls (Logical m) l false v step q q' r n e d k h =
    let p : q' < q = subst (λ (s : Step). Falls s q q') k h in
    pays q q' (n + 2) (n + 1) p (omega arith)
logical-falls (Logical m) l true v step q q' r n e d k h = cc
logical-falls Then l on v step q q' r n e d k h = cc
logical-falls Bar l on v step q q' r n e d k h = cc
