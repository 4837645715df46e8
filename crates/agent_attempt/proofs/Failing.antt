-- What an attempt has come to, and a component that fails.
use Rattle.std.proofs.Common.{◌≡◌, ℕ, ℤ, true, false, List, ◌∷◌, Option, Some, None, refl, sym, ap, ◌∙◌}
use Rattle.std.specs.Option.{is_some}
use Rattle.script_run.specs.declared.cause.Cause.{Cause}
use Rattle.bf_machine.specs.Views.{MachineView}
use Rattle.script_run.specs.Asking.{When}
use Rattle.agent_attempt.specs.declared.went.Went.{Went}
use Rattle.agent_attempt.specs.declared.went.Went.TheVariants as went
use Rattle.agent_attempt.specs.declared.attempt.Part.{Part}
use Rattle.agent_attempt.specs.declared.attempt.Failure.{Failure}
use Rattle.agent_attempt.specs.declared.attempt.Stage.TheVariants as stage
use Rattle.agent_attempt.specs.Attempts.{PlainAttempt, Past}
use Rattle.agent_attempt.specs.Going.{ended, ended_by, fixed_note, failed_note, first_failure, with_failure}
use Rattle.agent_attempt.specs.Stages.{AttemptState, shown_attempt}
use Rattle.agent_attempt.specs.AttemptSteps.{StepsByFailing, first_component}
use Rattle.agent_attempt.proofs.Stepping.{fails_next, fails_end}

-- ---- what an attempt has come to
pub ended_fixed : (past : Past) → past.failure ≡ None → went.Ended None (fixed_note past.exit) ≡ ended past
ended_fixed past none = sym (ap (λ f. ended_by f past.exit) none)

pub ended_failed : (past : Past) (failure : Failure) → past.failure ≡ Some failure → went.Ended (Some failure.fail) (failed_note failure) ≡ ended past
ended_failed past failure some = sym (ap (λ f. ended_by f past.exit) some)

-- ---- the first failure
first_stays : (first : Option Failure) (failure : Failure) → is_some first ≡ true → first ≡ first_failure first failure
first_stays None failure some = absurd (cc)
first_stays (Some first) failure some = refl

pub failure_stays : (s : AttemptState) (part : Part) (line : ℕ) (cause : Cause) (exit : Option ℤ) → is_some s.past.failure ≡ true → s ≡ record s { past = with_failure part line cause exit s.past }
failure_stays s part line cause exit some = λ i. record s { past = record s.past { failure = first_stays s.past.failure (record { fail = record { component = part.component; line = line; cause = cause }; exit = exit }) some i } }

first_comes : (first : Option Failure) (failure : Failure) → is_some first ≡ false → Some failure ≡ first_failure first failure
first_comes None failure none = refl
first_comes (Some first) failure none = absurd (cc)

-- the attempt `s`, of which `a` is another name, with a failure at this position
pub failure_comes : (s a : AttemptState) (part : Part) (left : List Part) (position line : ℕ) (cause : Cause) (exit : Option ℤ) → a ≡ s → s.left ≡ part ∷ left → position ≡ first_component s.left → is_some a.past.failure ≡ false →
    record a { past = record a.past { failure = Some (record { fail = record { component = position; line = line; cause = cause }; exit = exit }) } } ≡ record s { past = with_failure part line cause exit s.past }
failure_comes s a part left position line cause exit is e there none =
    let here : position ≡ part.component = there ∙ ap first_component e in
    let made : ℕ → Failure = λ n. record { fail = record { component = n; line = line; cause = cause }; exit = exit } in
    (λ i. record a { past = record a.past { failure = Some (made (here i)) } })
    ∙ (λ i. record a { past = record a.past { failure = first_comes a.past.failure (made part.component) none i } })
    ∙ ap (λ (x : AttemptState). record x { past = with_failure part line cause exit x.past }) is

-- ---- failing
-- `k` is the attempt with the failure, and `new` what comes after it
pub failing_next : (at : When) (s k new : AttemptState) (part : Part) (left : List Part) (line : ℕ) (cause : Cause) (exit : Option ℤ) (machine : MachineView) (result : Option Went) →
    k ≡ record s { past = with_failure part line cause exit s.past } → s.left ≡ part ∷ left → k.action.all_members ≡ true → result ≡ None →
    ((p : Part) (l : List Part) → k.left ≡ p ∷ l → new ≡ record k { left = l; stage = stage.Coming }) →
    StepsByFailing at (shown_attempt s) part left line cause exit machine result (shown_attempt new)
failing_next at s k new part left line cause exit machine result is e all none next =
    let there = next part left (ap (λ (x : AttemptState). x.left) is ∙ e) in
    fails_next at (shown_attempt s) part left line cause exit machine result (shown_attempt new) (sym (ap (λ (x : AttemptState). x.action.all_members) is) ∙ all) none
    (ap shown_attempt (there ∙ ap (λ (x : AttemptState). record x { left = left; stage = stage.Coming }) is))

pub failing_end : (at : When) (s k : AttemptState) (new : PlainAttempt) (part : Part) (left : List Part) (line : ℕ) (cause : Cause) (exit : Option ℤ) (machine : MachineView) (answer : Went) →
    k ≡ record s { past = with_failure part line cause exit s.past } → k.action.all_members ≡ false → answer ≡ ended k.past →
    StepsByFailing at (shown_attempt s) part left line cause exit machine (Some answer) new
failing_end at s k new part left line cause exit machine answer is stops e =
    fails_end at (shown_attempt s) part left line cause exit machine answer new (sym (ap (λ (x : AttemptState). x.action.all_members) is) ∙ stops) (e ∙ ap (λ (x : AttemptState). ended x.past) is)

-- what is left then
pub failing_left : (s k new : AttemptState) (part : Part) (left : List Part) (past : Past) → k ≡ record s { past = past } → s.left ≡ part ∷ left →
    ((p : Part) (l : List Part) → k.left ≡ p ∷ l → new ≡ record k { left = l; stage = stage.Coming }) → new ≡ record s { left = left; stage = stage.Coming; past = past }
failing_left s k new part left past is e next =
    next part left (ap (λ (x : AttemptState). x.left) is ∙ e) ∙ ap (λ (x : AttemptState). record x { left = left; stage = stage.Coming }) is
