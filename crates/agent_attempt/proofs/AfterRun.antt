-- What comes after a script went on, by what it came to.
use Rattle.std.proofs.Common.{◌≡◌, ℕ, ◌+◌, ◌*◌, ◌<◌, ℤ, List, ◌∷◌, length, Option, Some, None, refl, sym, ap, subst, ◌∙◌, arith}
use Rattle.std.proofs.lemmas.Option.{same_Some}
use Rattle.script_run.specs.declared.cause.Cause.{Cause}
use Rattle.script_run.specs.declared.ran.Ran.{Ran}
use Rattle.script_run.specs.declared.ran.Ran.TheVariants as ran
use Rattle.script_run.specs.declared.run.Run.{Run}
use Rattle.script_run.specs.Walks.{Walk}
use Rattle.bf_machine.specs.Views.{MachineView}
use Rattle.script_run.specs.Asking.{When}
use Rattle.script_run.specs.RunPlaces.{WaitsBelow, from, wanted_at}
use Rattle.script_run.specs.Advances as advance
use Rattle.script_run.specs.Advances.{Advances, wanted_by}
use Rattle.agent_attempt.specs.declared.went.Went.{Went}
use Rattle.agent_attempt.specs.declared.went.Went.TheVariants as went
use Rattle.agent_attempt.specs.declared.attempt.Part.{Part}
use Rattle.agent_attempt.specs.declared.attempt.Stage.{Stage}
use Rattle.agent_attempt.specs.declared.attempt.Stage.TheVariants as stage
use Rattle.agent_attempt.specs.Attempts.{PlainAttempt, PlainStage, Past, StageWaitsBelow, running, judging}
use Rattle.agent_attempt.specs.Going.{held_at, Stays, exit_at, AfterRun, FromJudging, FromStage, Through, GoesOn}
use Rattle.agent_attempt.specs.Stages.{AttemptState, IsRun, IsStage, shown_attempt, shown_stage}
use Rattle.agent_attempt.specs.AttemptSteps.{Leaves, MakesStep, StepsByFailing, StepsByRan, first_component, stage_behind, stage_weight, weight_of, with_stage}
use Rattle.agent_attempt.proofs.Alike.{judging_alike, through_alike}
use Rattle.agent_attempt.proofs.Runs.{walk_waits}
use Rattle.agent_attempt.proofs.Stepping.{fail_from, leaves_more, steps_at}

-- an answer by the file that it wants
is_wanted : (came : Ran) (digest : List ℕ) → wanted_by came ≡ Some digest → (line : ℕ) × (came ≡ ran.Wants line digest)
is_wanted (ran.Wants line own) digest e = (line, ap (ran.Wants line) (same_Some own digest e))
is_wanted came digest e = absurd (cc)

-- a script that waits for a file wants it again
wants_stays : (at : When) (a : PlainAttempt) (part : Part) (left : List Part) (past : Past) (walk further : Walk) (digest : List ℕ) (old mid : MachineView) (came : Ran) → advance.WantsAgain digest old walk came mid further →
    (answer : Went) (later : MachineView) (after : Option PlainAttempt) → AfterRun at a part left (Through at a left) came further past mid answer later after →
    Stays a (part ∷ left) (running walk (Some digest)) (went.Wants digest) past old answer later after
wants_stays at a part left past walk further digest old mid came again answer later after k =
    let is = is_wanted came digest again.wants in
    let stays : Stays a (part ∷ left) (running further (Some digest)) (went.Wants digest) past mid answer later after =
    subst (λ (r : Ran). AfterRun at a part left (Through at a left) r further past mid answer later after) is.1 k in
    (stays.0, stays.1 ∙ again.machine, stays.2 ∙ (λ i. Some (held_at a (part ∷ left) (running (again.same i) (Some digest)) past)))

-- the stage of a script that went on, by the file that it wanted
run_leads : (at : When) (a : PlainAttempt) (part : Part) (left : List Part) (past : Past) (walk further : Walk) (wanted : Option (List ℕ)) (old mid : MachineView) (came : Ran) → Advances at old walk came mid further →
    ((digest : List ℕ) → wanted ≡ Some digest → advance.WantsAgain digest old walk came mid further) →
    (answer : Went) (later : MachineView) (after : Option PlainAttempt) → AfterRun at a part left (Through at a left) came further past mid answer later after →
    FromStage at a part left (running walk wanted) past old answer later after
run_leads at a part left past walk further None old mid came advances again answer later after k = (came, mid, further, advances, k)
run_leads at a part left past walk further (Some digest) old mid came advances again answer later after k =
    wants_stays at a part left past walk further digest old mid came (again digest refl) answer later after k

-- the script went on, and then this step was made by `a`, which is the attempt at another stage
pub run_step : (at : When) (s a : AttemptState) (there : Stage) (part : Part) (left : List Part) (walk further : Walk) (wanted : Option (List ℕ)) (old mid : MachineView) (came : Ran) (result : Option Went) (new : PlainAttempt) →
    a ≡ s → s.left ≡ part ∷ left → Advances at old walk came mid further → ((digest : List ℕ) → wanted ≡ Some digest → advance.WantsAgain digest old walk came mid further) →
    StageWaitsBelow mid.started new.stage → StepsByRan at (with_stage (running walk wanted) (shown_attempt a)) part left came further mid result new →
    Leaves (shown_attempt (record a { stage = there })) (4 * length a.left + 1) result new → MakesStep at (with_stage (running walk wanted) (shown_attempt s)) old result mid new
run_step at s a there part left walk further wanted old mid came result new same e advances again waits h leaves =
    let b = with_stage (running walk wanted) (shown_attempt a) in
    let steps = steps_at at b part left (AfterRun at b part left (Through at b left) came further) a.past old mid mid result new (ap (λ (x : AttemptState). x.left) same ∙ e)
    (run_leads at b part left a.past walk further wanted old mid came advances again) h in
    subst (λ (x : AttemptState). MakesStep at (with_stage (running walk wanted) (shown_attempt x)) old result mid new) same
    (record { steps = steps; waits = waits; leaves = leaves_more (running walk wanted) (shown_attempt (record a { stage = there })) (4 * length a.left + 1) _ result new (omega arith) leaves })

-- the attempt with one stage, where another stood before
stands_at : (before plain : PlainStage) (s : AttemptState) (part : Part) (left : List Part) → s.left ≡ part ∷ left → shown_stage s.stage ≡ plain →
    shown_attempt s ≡ held_at (with_stage before (shown_attempt s)) (part ∷ left) plain s.past
stands_at before plain s part left e is = λ i. record (shown_attempt s) { left = e i; stage = is i }

shows_run : (at : Stage) (run : Run) (wanted : Option (List ℕ)) → at ≡ stage.Running run → wanted_at run.place ≡ wanted → shown_stage at ≡ running (from run) wanted
shows_run at run wanted is e = ap shown_stage is ∙ (λ i. running (from run) (e i))

pub after_held : (at : When) (before : PlainStage) (s : AttemptState) (part : Part) (left : List Part) (exit : Option ℤ) (run : Run) (machine : MachineView) (came : Ran) (line component : ℕ) → came ≡ ran.Held line →
    s.left ≡ part ∷ left → s.stage ≡ stage_behind came exit run → wanted_at run.place ≡ wanted_by came → component ≡ first_component s.left →
    StepsByRan at (with_stage before (shown_attempt s)) part left came (from run) machine (Some (went.Held component line)) (shown_attempt s)
after_held at before s part left exit run machine came line component is e =
    let P : Ran → Type 0 = λ r. s.stage ≡ stage_behind r exit run → wanted_at run.place ≡ wanted_by r → component ≡ first_component s.left → StepsByRan at (with_stage before (shown_attempt s)) part left r (from run) machine (Some (went.Held component line)) (shown_attempt s) in
    subst P (sym is) (λ stood wants there.
    let here : component ≡ part.component = there ∙ ap first_component e in
    let stays = stands_at before (running (from run) None) s part left e (shows_run s.stage run None stood wants) in
    ((λ i. went.Held (here i) line), refl, (λ i. Some (stays i))))

pub after_wants : (at : When) (before : PlainStage) (s : AttemptState) (part : Part) (left : List Part) (exit : Option ℤ) (run : Run) (machine : MachineView) (came : Ran) (line : ℕ) (digest : List ℕ) → came ≡ ran.Wants line digest →
    s.left ≡ part ∷ left → s.stage ≡ stage_behind came exit run → wanted_at run.place ≡ wanted_by came →
    StepsByRan at (with_stage before (shown_attempt s)) part left came (from run) machine (Some (went.Wants digest)) (shown_attempt s)
after_wants at before s part left exit run machine came line digest is e =
    let P : Ran → Type 0 = λ r. s.stage ≡ stage_behind r exit run → wanted_at run.place ≡ wanted_by r → StepsByRan at (with_stage before (shown_attempt s)) part left r (from run) machine (Some (went.Wants digest)) (shown_attempt s) in
    subst P (sym is) (λ stood wants.
    let stays = stands_at before (running (from run) (Some digest)) s part left e (shows_run s.stage run (Some digest) stood wants) in
    (refl, refl, (λ i. Some (stays i))))

pub after_memory : (at : When) (before : PlainStage) (s : AttemptState) (part : Part) (left : List Part) (exit : Option ℤ) (run : Run) (machine : MachineView) (came : Ran) → came ≡ ran.Memory →
    s.left ≡ part ∷ left → s.stage ≡ stage_behind came exit run → wanted_at run.place ≡ wanted_by came →
    StepsByRan at (with_stage before (shown_attempt s)) part left came (from run) machine (Some went.Memory) (shown_attempt s)
after_memory at before s part left exit run machine came is e =
    let P : Ran → Type 0 = λ r. s.stage ≡ stage_behind r exit run → wanted_at run.place ≡ wanted_by r → StepsByRan at (with_stage before (shown_attempt s)) part left r (from run) machine (Some went.Memory) (shown_attempt s) in
    subst P (sym is) (λ stood wants.
    let stays = stands_at before (running (from run) None) s part left e (shows_run s.stage run None stood wants) in
    (refl, refl, (λ i. Some (stays i))))

-- an attempt whose script is done is judged
pub after_done : (at : When) (before : PlainStage) (s : AttemptState) (part : Part) (left : List Part) (exit : Option ℤ) (run : Run) (machine : MachineView) (came : Ran) → came ≡ ran.Done →
    s.left ≡ part ∷ left → s.stage ≡ stage_behind came exit run → exit ≡ exit_at (from run) →
    StepsByRan at (with_stage before (shown_attempt s)) part left came (from run) machine None (shown_attempt s)
after_done at before s part left exit run machine came is e =
    let b = with_stage before (shown_attempt s) in
    let P : Ran → Type 0 = λ r. s.stage ≡ stage_behind r exit run → exit ≡ exit_at (from run) → StepsByRan at (with_stage before (shown_attempt s)) part left r (from run) machine None (shown_attempt s) in
    subst P (sym is) (λ stood known answer later after k.
    let there : GoesOn at (held_at b (part ∷ left) (judging exit) s.past) machine answer later after =
    subst (λ (x : PlainAttempt). GoesOn at x machine answer later after) (stands_at before (judging exit) s part left e (ap shown_stage stood)) k in
    subst (λ (x : Option ℤ). FromJudging at b part left x (Through at b left) s.past machine answer later after) known
    (judging_alike at b (part ∷ left) (judging exit) s.past part left exit _ _ (through_alike at b (part ∷ left) (judging exit) s.past left) s.past machine answer later after there))

-- a script that failed
pub after_failed : (at : When) (before : PlainStage) (s : AttemptState) (part : Part) (left : List Part) (exit : Option ℤ) (walk : Walk) (machine : MachineView) (came : Ran) (line : ℕ) (cause : Cause) (result : Option Went) (new : PlainAttempt) →
    came ≡ ran.Failed line cause → exit ≡ exit_at walk → StepsByFailing at (shown_attempt s) part left line cause exit machine result new →
    StepsByRan at (with_stage before (shown_attempt s)) part left came walk machine result new
after_failed at before s part left exit walk machine came line cause result new is known h =
    let b = with_stage before (shown_attempt s) in
    subst (λ (r : Ran). StepsByRan at b part left r walk machine result new) (sym is)
    (subst (λ (x : Option ℤ). StepsByFailing at b part left line cause x machine result new) known
    (fail_from at before (shown_attempt s) part left line cause exit machine result new h))

-- the stage behind what a script came to
pub behind_failed : (at : Stage) (exit : Option ℤ) (run : Run) (came : Ran) (line : ℕ) (cause : Cause) → came ≡ ran.Failed line cause → at ≡ stage_behind came exit run → at ≡ stage.Coming
behind_failed at exit run came line cause is = subst (λ (r : Ran). at ≡ stage_behind r exit run → at ≡ stage.Coming) (sym is) (λ e. e)

pub behind_done : (s : AttemptState) (exit : Option ℤ) (run : Run) (came : Ran) → came ≡ ran.Done → s.stage ≡ stage_behind came exit run → weight_of (shown_attempt s) < 4 * length s.left + 1
behind_done s exit run came is =
    subst (λ (r : Ran). s.stage ≡ stage_behind r exit run → weight_of (shown_attempt s) < 4 * length s.left + 1) (sym is) (λ e.
    let none : stage_weight (shown_stage s.stage) ≡ 0 = ap (λ (x : Stage). stage_weight (shown_stage x)) e in
    omega arith)

behind_run : (started : ℕ) (came : Ran) (exit : Option ℤ) (run : Run) → WaitsBelow started run.place → StageWaitsBelow started (shown_stage (stage_behind came exit run))
behind_run started (ran.Held line) exit run below = walk_waits started run below
behind_run started (ran.Wants line digest) exit run below = walk_waits started run below
behind_run started ran.Done exit run below = tt
behind_run started (ran.Failed line cause) exit run below = tt
behind_run started ran.Memory exit run below = walk_waits started run below

pub behind_waits : (started : ℕ) (at new : Stage) (came : Ran) (exit : Option ℤ) (run : Run) → new ≡ at → at ≡ stage_behind came exit run → WaitsBelow started run.place → StageWaitsBelow started (shown_stage new)
behind_waits started at new came exit run same is below = subst (λ (x : Stage). StageWaitsBelow started (shown_stage x)) (sym (same ∙ is)) (behind_run started came exit run below)

behind_stage : (left : List Part) (came : Ran) (exit : Option ℤ) (run : Run) → IsRun run → IsStage left (stage_behind came exit run)
behind_stage left (ran.Held line) exit run stood = stood
behind_stage left (ran.Wants line digest) exit run stood = stood
behind_stage left ran.Done exit run stood = tt
behind_stage left (ran.Failed line cause) exit run stood = tt
behind_stage left ran.Memory exit run stood = stood

pub behind_is : (left : List Part) (at : Stage) (came : Ran) (exit : Option ℤ) (run : Run) → at ≡ stage_behind came exit run → IsRun run → IsStage left at
behind_is left at came exit run is stood = subst (IsStage left) (sym is) (behind_stage left came exit run stood)
