-- An attempt that has come further goes on as the attempt does that it was: of it only the action, the row and the offset count.
use Rattle.std.proofs.Common.{ℕ, ℤ, Bool, true, false, List, [], ◌∷◌, inl, inr, Option}
use Rattle.script_run.specs.declared.cause.Cause.{Cause}
use Rattle.script_run.specs.declared.ran.Ran.{Ran}
use Rattle.script_run.specs.declared.ran.Ran.TheVariants as ran
use Rattle.script_run.specs.Walks.{Walk}
use Rattle.bf_machine.specs.Views.{MachineView}
use Rattle.script_run.specs.Asking.{When}
use Rattle.agent_attempt.specs.declared.found.Found.{Found}
use Rattle.agent_attempt.specs.declared.found.Found.TheVariants.{Yes, No, Failed, Memory}
use Rattle.agent_attempt.specs.declared.went.Went.{Went}
use Rattle.agent_attempt.specs.declared.attempt.Part.{Part}
use Rattle.agent_attempt.specs.Attempts.{PlainAttempt, PlainStage, Past, coming}
use Rattle.agent_attempt.specs.Going.{Going, held_at, after_failure, with_failure, Fails, AfterJudging, FromJudging, AfterRun, FromRunning, FromStarting, AfterComing, FromComing, Through, GoesOn}

-- what goes on in the one way goes on in the other
abbrev pub Leads : Going → Going → Type 0
Leads one other = (past : Past) (old : MachineView) (answer : Went) (new : MachineView) (after : Option PlainAttempt) → one past old answer new after → other past old answer new after

-- ---- what comes after
after_failure_alike : (all : Bool) (rest other : Going) → Leads rest other → Leads (after_failure all rest) (after_failure all other)
after_failure_alike true rest other leads = leads
after_failure_alike false rest other leads = λ past old answer new after h. h

pub fails_alike : (a : PlainAttempt) (l : List Part) (s : PlainStage) (p : Past) (part : Part) (line : ℕ) (cause : Cause) (exit : Option ℤ) (rest other : Going) → Leads rest other →
    Leads (Fails (held_at a l s p) part line cause exit rest) (Fails a part line cause exit other)
fails_alike a l s p part line cause exit rest other leads = λ past. after_failure_alike a.action.all_members rest other leads (with_failure part line cause exit past)

after_judging_alike : (at : When) (a : PlainAttempt) (l : List Part) (s : PlainStage) (p : Past) (part : Part) (left : List Part) (exit : Option ℤ) (rest other : Going) → Leads rest other →
    (found : Found) → Leads (AfterJudging (held_at a l s p) part left exit rest found) (AfterJudging a part left exit other found)
after_judging_alike at a l s p part left exit rest other leads Yes = λ past. leads (record past { exit = exit })
after_judging_alike at a l s p part left exit rest other leads No = fails_alike a l s p part 0 _ exit rest other leads
after_judging_alike at a l s p part left exit rest other leads Failed = fails_alike a l s p part 0 _ exit rest other leads
after_judging_alike at a l s p part left exit rest other leads Memory = λ past old answer new after h. h

-- ---- the stages
pub judging_alike : (at : When) (a : PlainAttempt) (l : List Part) (s : PlainStage) (p : Past) (part : Part) (left : List Part) (exit : Option ℤ) (rest other : Going) → Leads rest other →
    Leads (FromJudging at (held_at a l s p) part left exit rest) (FromJudging at a part left exit other)
judging_alike at a l s p part left exit rest other leads past old answer new after (found, between, succeeds, h) =
    (found, between, succeeds, after_judging_alike at a l s p part left exit rest other leads found past between answer new after h)

after_run_alike : (at : When) (a : PlainAttempt) (l : List Part) (s : PlainStage) (p : Past) (part : Part) (left : List Part) (rest other : Going) → Leads rest other →
    (answer : Ran) (walk : Walk) → Leads (AfterRun at (held_at a l s p) part left rest answer walk) (AfterRun at a part left other answer walk)
after_run_alike at a l s p part left rest other leads (ran.Held line) walk = λ past old answer new after h. h
after_run_alike at a l s p part left rest other leads (ran.Wants line digest) walk = λ past old answer new after h. h
after_run_alike at a l s p part left rest other leads ran.Done walk = judging_alike at a l s p part left _ rest other leads
after_run_alike at a l s p part left rest other leads (ran.Failed line cause) walk = fails_alike a l s p part line cause _ rest other leads
after_run_alike at a l s p part left rest other leads ran.Memory walk = λ past old answer new after h. h

pub running_alike : (at : When) (a : PlainAttempt) (l : List Part) (s : PlainStage) (p : Past) (part : Part) (left : List Part) (walk : Walk) (rest other : Going) → Leads rest other →
    Leads (FromRunning at (held_at a l s p) part left walk rest) (FromRunning at a part left walk other)
running_alike at a l s p part left walk rest other leads past old answer new after (came, between, further, advances, h) =
    (came, between, further, advances, after_run_alike at a l s p part left rest other leads came further past between answer new after h)

pub starting_alike : (at : When) (a : PlainAttempt) (l : List Part) (s : PlainStage) (p : Past) (part : Part) (left : List Part) (rest other : Going) → Leads rest other →
    Leads (FromStarting at (held_at a l s p) part left rest) (FromStarting at a part left other)
starting_alike at a l s p part left rest other leads past old answer new after (inl h) = inl h
starting_alike at a l s p part left rest other leads past old answer new after (inr (script, verdict, h)) =
    inr (script, verdict, running_alike at a l s p part left _ rest other leads past old answer new after h)

after_coming_alike : (at : When) (a : PlainAttempt) (l : List Part) (s : PlainStage) (p : Past) (part : Part) (left : List Part) (rest other : Going) → Leads rest other →
    (found : Found) → Leads (AfterComing at (held_at a l s p) part left rest found) (AfterComing at a part left other found)
after_coming_alike at a l s p part left rest other leads Yes = starting_alike at a l s p part left rest other leads
after_coming_alike at a l s p part left rest other leads No = leads
after_coming_alike at a l s p part left rest other leads Failed = fails_alike a l s p part 0 _ _ rest other leads
after_coming_alike at a l s p part left rest other leads Memory = λ past old answer new after h. h

pub coming_alike : (at : When) (a : PlainAttempt) (l : List Part) (s : PlainStage) (p : Past) (part : Part) (left : List Part) (rest other : Going) → Leads rest other →
    Leads (FromComing at (held_at a l s p) part left rest) (FromComing at a part left other)
coming_alike at a l s p part left rest other leads past old answer new after (found, between, is, h) =
    (found, between, is, after_coming_alike at a l s p part left rest other leads found past between answer new after h)

-- ---- the components that are left
pub through_alike : (at : When) (a : PlainAttempt) (l : List Part) (s : PlainStage) (p : Past) (left : List Part) → Leads (Through at (held_at a l s p) left) (Through at a left)
through_alike at a l s p [] = λ past old answer new after h. h
through_alike at a l s p (part ∷ left) = coming_alike at a l s p part left _ _ (through_alike at a l s p left)

-- the next component comes
pub next_alike : (at : When) (a : PlainAttempt) (left : List Part) (past : Past) (old : MachineView) (answer : Went) (new : MachineView) (after : Option PlainAttempt) →
    GoesOn at (held_at a left coming past) old answer new after → Through at a left past old answer new after
next_alike at a [] past old answer new after h = h
next_alike at a (part ∷ left) past old answer new after h = through_alike at a (part ∷ left) coming past (part ∷ left) past old answer new after h
