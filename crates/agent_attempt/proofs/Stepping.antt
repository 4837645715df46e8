-- Steps of an attempt, by what comes after them.
use Rattle.std.proofs.Common.{◌≡◌, ◌≢◌, ℕ, suc, ◌+◌, ◌*◌, ◌<◌, ℤ, true, false, List, [], ◌∷◌, length, Option, Some, None, refl, sym, ap, subst, ◌∙◌, arith}
use Rattle.script_run.specs.declared.cause.Cause.{Cause}
use Rattle.bf_machine.specs.Views.{MachineView}
use Rattle.script_run.specs.Asking.{When}
use Rattle.agent_attempt.specs.declared.went.Went.{Went}
use Rattle.agent_attempt.specs.declared.went.Went.TheVariants as went
use Rattle.agent_attempt.specs.declared.attempt.Part.{Part}
use Rattle.agent_attempt.specs.declared.attempt.Failure.{Failure}
use Rattle.agent_attempt.specs.declared.attempt.Stage.{Stage}
use Rattle.agent_attempt.specs.declared.attempt.Stage.TheVariants as stage
use Rattle.agent_attempt.specs.Attempts.{PlainAttempt, PlainStage, Past, StageWaitsBelow, coming}
use Rattle.agent_attempt.specs.Going.{Going, held_at, ended, ended_by, Ends, after_failure, with_failure, Fails, Through, FromStage, FromLeft, GoesOn, GoesTo, HasNote, SameAttempt, held_after}
use Rattle.agent_attempt.specs.Stages.{AttemptState, shown_attempt, shown_stage}
use Rattle.std.specs.Option.{IfSome}
use Rattle.agent_attempt.specs.AttemptSteps.{Falls, Leaves, StepsBy, StepsByFailing, StepsTo, stage_weight, weight_of, with_stage}
use Rattle.agent_attempt.proofs.Alike.{fails_alike, next_alike, through_alike}

-- ---- the components that are left
-- the component at hand, and those behind it
pub first_of : (left : List Part) → 0 < length left → (part : Part) × (rest : List Part) × (left ≡ part ∷ rest)
first_of [] some = absurd (omega arith)
first_of (part ∷ rest) some = (part, rest, refl)

-- ---- steps
-- a step of what comes after
pub steps_lead : (at : When) (one other : Going) (came past : Past) (before mid now : MachineView) (result : Option Went) (new : PlainAttempt) →
    ((answer : Went) (later : MachineView) (after : Option PlainAttempt) → one came mid answer later after → other past before answer later after) →
    StepsBy at one came mid result now new → StepsBy at other past before result now new
steps_lead at one other came past before mid now None new leads h = λ answer later after k. leads answer later after (h answer later after k)
steps_lead at one other came past before mid now (Some answer) new leads h = leads answer now (held_after answer new) h

-- a step of the component at hand
pub steps_at : (at : When) (a : PlainAttempt) (part : Part) (left : List Part) (one : Going) (came : Past) (before mid now : MachineView) (result : Option Went) (new : PlainAttempt) →
    a.left ≡ part ∷ left →
    ((answer : Went) (later : MachineView) (after : Option PlainAttempt) → one came mid answer later after → FromStage at a part left a.stage a.past before answer later after) →
    StepsBy at one came mid result now new → StepsTo at a before result now new
steps_at at a part left one came before mid now result new e leads h =
    steps_lead at one (FromLeft at a a.left) came a.past before mid now result new
    (λ answer later after k. subst (λ l. FromLeft at a l a.past before answer later after) (sym e) (leads answer later after k)) h

-- the next component comes
pub next_steps : (at : When) (a : PlainAttempt) (left : List Part) (past : Past) (machine : MachineView) (result : Option Went) (new : PlainAttempt) → result ≡ None → new ≡ held_at a left coming past →
    StepsBy at (Through at a left) past machine result machine new
next_steps at a left past machine result new none e =
    subst (λ (r : Option Went). StepsBy at (Through at a left) past machine r machine new) (sym none)
    (λ answer later after k. next_alike at a left past machine answer later after (subst (λ (n : PlainAttempt). GoesOn at n machine answer later after) e k))

-- ---- ends
-- nothing is held of an attempt that has ended
ended_nothing : (failure : Option Failure) (exit : Option ℤ) (new : PlainAttempt) → held_after (ended_by failure exit) new ≡ None
ended_nothing None exit new = refl
ended_nothing (Some failure) exit new = refl

pub ends : (past : Past) (machine : MachineView) (answer : Went) (new : PlainAttempt) → answer ≡ ended past → Ends past machine answer machine (held_after answer new)
ends past machine answer new e = (e, refl, ap (λ w. held_after w new) e ∙ ended_nothing past.failure past.exit new)

-- ---- failures
-- after a failure the next component comes where all members are run
pub fails_next : (at : When) (a : PlainAttempt) (part : Part) (left : List Part) (line : ℕ) (cause : Cause) (exit : Option ℤ) (machine : MachineView) (result : Option Went) (new : PlainAttempt) →
    a.action.all_members ≡ true → result ≡ None → new ≡ held_at a left coming (with_failure part line cause exit a.past) →
    StepsByFailing at a part left line cause exit machine result new
fails_next at a part left line cause exit machine result new all none e =
    steps_lead at (Through at a left) (Fails a part line cause exit (Through at a left)) (with_failure part line cause exit a.past) a.past machine machine machine result new
    (λ answer later after k. subst (λ b. after_failure b (Through at a left) (with_failure part line cause exit a.past) machine answer later after) (sym all) k)
    (next_steps at a left (with_failure part line cause exit a.past) machine result new none e)

-- otherwise the attempt has ended
pub fails_end : (at : When) (a : PlainAttempt) (part : Part) (left : List Part) (line : ℕ) (cause : Cause) (exit : Option ℤ) (machine : MachineView) (answer : Went) (new : PlainAttempt) →
    a.action.all_members ≡ false → answer ≡ ended (with_failure part line cause exit a.past) →
    StepsByFailing at a part left line cause exit machine (Some answer) new
fails_end at a part left line cause exit machine answer new stops e =
    subst (λ b. after_failure b (Through at a left) (with_failure part line cause exit a.past) machine answer machine (held_after answer new)) (sym stops)
    (ends (with_failure part line cause exit a.past) machine answer new e)

-- the failure of a component, whatever its stage was before
pub fail_from : (at : When) (before : PlainStage) (a : PlainAttempt) (part : Part) (left : List Part) (line : ℕ) (cause : Cause) (exit : Option ℤ) (machine : MachineView) (result : Option Went) (new : PlainAttempt) →
    StepsByFailing at a part left line cause exit machine result new → StepsByFailing at (with_stage before a) part left line cause exit machine result new
fail_from at before a part left line cause exit machine result new h =
    steps_lead at (Fails a part line cause exit (Through at a left)) (Fails (with_stage before a) part line cause exit (Through at (with_stage before a) left)) a.past a.past machine machine machine result new
    (λ answer later after k. fails_alike (with_stage before a) a.left a.stage a.past part line cause exit (Through at a left) (Through at (with_stage before a) left)
    (through_alike at (with_stage before a) a.left a.stage a.past left) a.past machine answer later after k) h

-- ---- what a step leaves
-- the attempt, at another stage
pub held_so : (before : PlainStage) (s a : AttemptState) (part : Part) (left : List Part) (to : Stage) (plain : PlainStage) → a ≡ s → s.left ≡ part ∷ left → shown_stage to ≡ plain →
    shown_attempt (record a { stage = to }) ≡ held_at (with_stage before (shown_attempt s)) (part ∷ left) plain s.past
held_so before s a part left to plain is e shows =
    ap (λ (x : AttemptState). shown_attempt (record x { stage = to })) is ∙ (λ i. record (shown_attempt s) { left = e i; stage = shows i })

pub same_as : (before : PlainStage) (s a : AttemptState) (left : List Part) (to : Stage) (past : Past) → a ≡ record s { left = left; stage = to; past = past } →
    SameAttempt (with_stage before (shown_attempt s)) (shown_attempt a)
same_as before s a left to past e = record {
  action = ap (λ (x : AttemptState). x.action) e;
  row = ap (λ (x : AttemptState). x.row) e;
  offset = ap (λ (x : AttemptState). x.offset) e;
}

pub same_then : (old mid new : PlainAttempt) → SameAttempt old mid → SameAttempt mid new → SameAttempt old new
same_then old mid new a b = record { action = b.action ∙ a.action; row = b.row ∙ a.row; offset = b.offset ∙ a.offset }

pub waits_coming : (started : ℕ) (at : Stage) → at ≡ stage.Coming → StageWaitsBelow started (shown_stage at)
waits_coming started at e = subst (λ (s : Stage). StageWaitsBelow started (shown_stage s)) (sym e) tt

falls_coming : (result : Option Went) (old : ℕ) (new : PlainAttempt) (a : PlainAttempt) (left : List Part) (past : Past) → new ≡ held_at a left coming past → 4 * length left + 3 < old → Falls result old (weight_of new)
falls_coming None old new a left past e below = subst (λ (n : PlainAttempt). weight_of n < old) (sym e) below
falls_coming (Some answer) old new a left past e below = tt

falls_more : (result : Option Went) (few many new : ℕ) → few < many + 1 → Falls result few new → Falls result many new
falls_more None few many new more h = omega (arith, h)
falls_more (Some answer) few many new more h = tt

-- the component is behind
first_falls : (left rest : List Part) (part : Part) (more : ℕ) → left ≡ part ∷ rest → 4 * length rest + 3 < 4 * length left + more
first_falls left rest part more e = let count : length left ≡ suc (length rest) = ap length e in omega arith

-- there is no answer where there is none
pub none_is : (result : Option Went) → ((answer : Went) → result ≢ Some answer) → result ≡ None
none_is None other = refl
none_is (Some answer) other = absurd (other answer refl)

-- without an answer there is no note
none_note : (result : Option Went) → result ≡ None → IfSome result HasNote
none_note result none = subst (λ (r : Option Went). IfSome r HasNote) (sym none) tt

-- what a step leaves of an attempt whose next component comes
pub leaves_next : (before : PlainStage) (s new : AttemptState) (part : Part) (left : List Part) (past : Past) (weight : ℕ) (result : Option Went) → result ≡ None → s.left ≡ part ∷ left →
    new ≡ record s { left = left; stage = stage.Coming; past = past } → 4 * length s.left < weight + 1 → Leaves (with_stage before (shown_attempt s)) weight result (shown_attempt new)
leaves_next before s new part left past weight result none e is enough =
    let below : 4 * length left + 3 < 4 * length s.left + 0 = first_falls s.left left part 0 e in
    record {
      note = none_note result none;
      same = same_as before s new left stage.Coming past is;
      falls = falls_coming result weight (shown_attempt new) (shown_attempt s) left past (ap shown_attempt is) (omega (arith, below, enough));
    }

-- what it leaves of one at a later stage of the same component, and of one that stays where it is
pub leaves_later : (before : PlainStage) (s a : AttemptState) (to : Stage) → a ≡ s → stage_weight (shown_stage to) < stage_weight before →
    Leaves (with_stage before (shown_attempt s)) (weight_of (with_stage before (shown_attempt s))) None (shown_attempt (record a { stage = to }))
leaves_later before s a to e less =
    let count : length a.left ≡ length s.left = ap (λ (x : AttemptState). length x.left) e in
    record {
      note = tt;
      same = same_as before s (record a { stage = to }) s.left to s.past (ap (λ (x : AttemptState). record x { stage = to }) e);
      falls = omega arith;
    }

pub leaves_there : (before : PlainStage) (s a : AttemptState) (to : Stage) (weight : ℕ) → a ≡ s → Leaves (with_stage before (shown_attempt s)) weight (Some went.Memory) (shown_attempt (record a { stage = to }))
leaves_there before s a to weight e = record {
  note = tt;
  same = same_as before s (record a { stage = to }) s.left to s.past (ap (λ (x : AttemptState). record x { stage = to }) e);
  falls = tt;
}

-- the same, whatever the stage was before, where more was left
pub leaves_more : (before : PlainStage) (old : PlainAttempt) (few many : ℕ) (answer : Option Went) (new : PlainAttempt) → few < many + 1 → Leaves old few answer new → Leaves (with_stage before old) many answer new
leaves_more before old few many answer new more h = record {
  note = h.note;
  same = record { action = h.same.action; row = h.same.row; offset = h.same.offset };
  falls = falls_more answer few many (weight_of new) more h.falls;
}

-- ---- rounds of steps
-- a step without an answer, and then the rest
pub goes_none : (at : When) (old mid new : PlainAttempt) (first before now : MachineView) (result : Option Went) → result ≡ None →
    ((answer : Went) (later : MachineView) (after : Option PlainAttempt) → GoesOn at mid before answer later after → GoesOn at old first answer later after) →
    StepsTo at mid before result now new → (answer : Went) (later : MachineView) (after : Option PlainAttempt) → GoesOn at new now answer later after → GoesOn at old first answer later after
goes_none at old mid new first before now result none leads h answer later after k =
    leads answer later after (subst (λ (r : Option Went). StepsTo at mid before r now new) none h answer later after k)

-- the last step
pub goes_some : (at : When) (old mid new : PlainAttempt) (first before now : MachineView) (answer : Went) (result : Option Went) → result ≡ Some answer →
    ((answer : Went) (later : MachineView) (after : Option PlainAttempt) → GoesOn at mid before answer later after → GoesOn at old first answer later after) →
    StepsTo at mid before result now new → GoesTo at old first answer now new
goes_some at old mid new first before now answer result some leads h =
    leads answer now (held_after answer new) (subst (λ (r : Option Went). StepsTo at mid before r now new) some h)

pub falls_none : (result : Option Went) (old new : ℕ) → result ≡ None → Falls result old new → new < old
falls_none result old new none h = subst (λ (r : Option Went). Falls r old new) none h
