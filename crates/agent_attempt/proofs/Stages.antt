-- The steps of each stage, by what came of it.
use Rattle.std.proofs.Common.{◌≡◌, ◌==◌, ℕ, ℤ, Bool, true, List, [], ◌∷◌, length, drop, inl, inr, Option, Some, None, Ok, refl, sym, ap, subst, ◌∙◌, arith}
use Rattle.std.proofs.lemmas.Bool.Decides.{nat_tests}
use Rattle.script_text.specs.Scripts.{PlainScript, IsVerdict}
use Rattle.script_run.specs.declared.run.Run.{Run}
use Rattle.script_run.specs.Walks.{Walk}
use Rattle.script_run.specs.ScriptWalks.{standing}
use Rattle.bf_machine.specs.Views.{MachineView}
use Rattle.script_run.specs.Asking.{When}
use Rattle.script_run.specs.RunPlaces.{Stands, WaitsBelow, from, wanted_at}
use Rattle.agent_attempt.specs.declared.found.Found.{Found}
use Rattle.agent_attempt.specs.declared.found.Found.TheVariants.{Yes, No, Memory}
use Rattle.agent_attempt.specs.declared.went.Went.{Went}
use Rattle.agent_attempt.specs.declared.went.Went.TheVariants as went
use Rattle.agent_attempt.specs.declared.attempt.Part.{Part}
use Rattle.agent_attempt.specs.declared.attempt.Stage.{Stage}
use Rattle.agent_attempt.specs.declared.attempt.Stage.TheVariants as stage
use Rattle.agent_attempt.specs.Relevance.{FixletIs, Succeeds}
use Rattle.agent_attempt.specs.Attempts.{PlainAttempt, Past, StageWaitsBelow, coming, starting, running, judging, issue_date}
use Rattle.agent_attempt.specs.Going.{held_at, ended, AfterComing, AfterJudging, FromRunning, FromStarting, Through, FromLeft, GoesOn, held_after}
use Rattle.agent_attempt.specs.Stages.{AttemptState, FirstHasScript, IsRun, IsStage, shown_attempt, shown_stage}
use Rattle.agent_attempt.specs.AttemptSteps.{MakesStep, StepsBy, StepsByFound, StepsTo, with_stage}
use Rattle.agent_attempt.proofs.Alike.{starting_alike, running_alike, through_alike}
use Rattle.agent_attempt.proofs.Runs.{run_waits}
use Rattle.agent_attempt.proofs.Stepping.{ends, held_so, next_steps, steps_at, steps_lead}

-- ---- coming
-- the component was asked whether it is relevant, and then this step was made
pub come_steps : (at : When) (s : AttemptState) (part : Part) (left : List Part) (old mid : MachineView) (found : Found) (result : Option Went) (new : PlainAttempt) →
    s.stage ≡ stage.Coming → s.left ≡ part ∷ left → FixletIs at part.fixlet old found mid → StepsByFound at (shown_attempt s) part left found mid result new →
    StepsTo at (with_stage coming (shown_attempt s)) old result mid new
come_steps at s part left old mid found result new comes e is h =
    let b = with_stage coming (shown_attempt s) in
    let same : shown_attempt s ≡ b = λ i. record (shown_attempt s) { stage = shown_stage (comes i) } in
    steps_at at b part left (AfterComing at b part left (Through at b left) found) s.past old mid mid result new e (λ answer later after k. (found, mid, is, k))
    (subst (λ (a : PlainAttempt). StepsByFound at a part left found mid result new) same h)

module _ (at : When) (part : Part) (left : List Part) (found : Found) (machine : MachineView) where
  -- what was found
  found_so : (a : PlainAttempt) (is : Found) (result : Option Went) (new : PlainAttempt) → found ≡ is → StepsByFound at a part left is machine result new → StepsByFound at a part left found machine result new
  found_so a is result new e h = subst (λ (f : Found). StepsByFound at a part left f machine result new) (sym e) h

  -- a relevant component starts
  pub come_starts : (s a : AttemptState) → found ≡ Yes → a ≡ s → s.left ≡ part ∷ left → StepsByFound at (shown_attempt s) part left found machine None (shown_attempt (record a { stage = stage.Starting }))
  come_starts s a relevant is e =
      let b = shown_attempt s in
      let new = shown_attempt (record a { stage = stage.Starting }) in
      found_so b Yes None new relevant
      (λ answer later after k.
      let there : GoesOn at (held_at b (part ∷ left) starting s.past) machine answer later after =
      subst (λ (x : PlainAttempt). GoesOn at x machine answer later after) (held_so (shown_stage s.stage) s a part left stage.Starting starting is e refl) k in
      starting_alike at b (part ∷ left) starting s.past part left _ _ (through_alike at b (part ∷ left) starting s.past left) s.past machine answer later after there)

  -- one that isn't relevant is passed over
  pub come_passes : (s new : AttemptState) (result : Option Went) → found ≡ No → result ≡ None → new ≡ record s { left = left; stage = stage.Coming } → StepsByFound at (shown_attempt s) part left found machine result (shown_attempt new)
  come_passes s new result isnt none is = found_so (shown_attempt s) No result (shown_attempt new) isnt (next_steps at (shown_attempt s) left s.past machine result (shown_attempt new) none (ap shown_attempt is))

  -- without memory it is asked again
  pub come_stays : (s : AttemptState) → found ≡ Memory → s.stage ≡ stage.Coming → s.left ≡ part ∷ left → StepsByFound at (shown_attempt s) part left found machine (Some went.Memory) (shown_attempt s)
  come_stays s memory comes e = found_so (shown_attempt s) Memory (Some went.Memory) (shown_attempt s) memory (refl, refl, (λ i. Some (record (shown_attempt s) { left = e i; stage = shown_stage (comes i) })))

-- ---- starting
-- the script begins, and stands before its first line, where no file is wanted
pub start_runs : (at : When) (s a : AttemptState) (part : Part) (left : List Part) (script : PlainScript) (run : Run) (machine : MachineView) → a ≡ s → s.left ≡ part ∷ left → wanted_at run.place ≡ None →
    IsVerdict part.fixlet.script (Ok script) → Stands script (issue_date (shown_attempt s)) run [] →
    StepsTo at (with_stage starting (shown_attempt s)) machine None machine (shown_attempt (record a { stage = stage.Running run }))
start_runs at s a part left script run machine is e none verdict stands =
    let b = with_stage starting (shown_attempt s) in
    let walk : Walk = from run in
    let same : walk ≡ standing script (issue_date (shown_attempt s)) = λ i more. sym (stands more) i in
    steps_at at b part left (FromStarting at b part left (Through at b left)) s.past machine machine machine None (shown_attempt (record a { stage = stage.Running run })) e (λ answer later after k. k)
    (λ answer later after k.
    let there : GoesOn at (held_at b (part ∷ left) (running walk None) s.past) machine answer later after =
    subst (λ (x : PlainAttempt). GoesOn at x machine answer later after) (held_so starting s a part left (stage.Running run) (running walk None) is e (λ i. running walk (none i))) k in
    inr (
      script,
      verdict,
      subst (λ (w : Walk). FromRunning at b part left w (Through at b left) s.past machine answer later after) same
          (running_alike at b (part ∷ left) (running walk None) s.past part left walk _ _ (through_alike at b (part ∷ left) (running walk None) s.past left) s.past machine answer later after there),
    ))

-- the script has still to begin
pub start_stays : (at : When) (s a : AttemptState) (part : Part) (left : List Part) (machine : MachineView) → a ≡ s → s.left ≡ part ∷ left →
    StepsTo at (with_stage starting (shown_attempt s)) machine (Some went.Memory) machine (shown_attempt (record a { stage = stage.Starting }))
start_stays at s a part left machine is e =
    let b = with_stage starting (shown_attempt s) in
    steps_at at b part left (FromStarting at b part left (Through at b left)) s.past machine machine machine (Some went.Memory) (shown_attempt (record a { stage = stage.Starting })) e (λ answer later after k. k)
    (inl (refl, refl, (λ i. Some (held_so starting s a part left stage.Starting starting is e refl i))))

-- ---- judging
-- the success was judged, and then this step was made
pub judge_steps : (at : When) (s : AttemptState) (part : Part) (left : List Part) (exit : Option ℤ) (old mid now : MachineView) (found : Found) (result : Option Went) (new : PlainAttempt) →
    s.left ≡ part ∷ left → Succeeds at part.fixlet part.fixlet.success old found mid →
    StepsBy at (AfterJudging (with_stage (judging exit) (shown_attempt s)) part left exit (Through at (with_stage (judging exit) (shown_attempt s)) left) found) s.past mid result now new →
    StepsTo at (with_stage (judging exit) (shown_attempt s)) old result now new
judge_steps at s part left exit old mid now found result new e succeeds h =
    let b = with_stage (judging exit) (shown_attempt s) in
    steps_at at b part left (AfterJudging b part left exit (Through at b left) found) s.past old mid now result new e (λ answer later after k. (found, mid, succeeds, k)) h

-- the attempt after the success of a component: `a` is it as it was, and its exit code is this from then on
pub passed_is : (s a new : AttemptState) (part : Part) (left : List Part) (exit : Option ℤ) → a ≡ s → s.left ≡ part ∷ left →
    ((p : Part) (l : List Part) → a.left ≡ p ∷ l → new ≡ record a { left = l; stage = stage.Coming; past = record a.past { exit = exit } }) →
    new ≡ record s { left = left; stage = stage.Coming; past = record s.past { exit = exit } }
passed_is s a new part left exit is e next =
    next part left (ap (λ (x : AttemptState). x.left) is ∙ e) ∙ ap (λ (x : AttemptState). record x { left = left; stage = stage.Coming; past = record x.past { exit = exit } }) is

pub judge_passes : (at : When) (s new : AttemptState) (part : Part) (left : List Part) (exit : Option ℤ) (machine : MachineView) (result : Option Went) → result ≡ None →
    new ≡ record s { left = left; stage = stage.Coming; past = record s.past { exit = exit } } →
    StepsBy at (AfterJudging (with_stage (judging exit) (shown_attempt s)) part left exit (Through at (with_stage (judging exit) (shown_attempt s)) left) Yes) s.past machine result machine (shown_attempt new)
judge_passes at s new part left exit machine result none is =
    let b = with_stage (judging exit) (shown_attempt s) in
    let past : Past = record s.past { exit = exit } in
    steps_lead at (Through at b left) (AfterJudging b part left exit (Through at b left) Yes) past s.past machine machine machine result (shown_attempt new) (λ answer later after k. k)
    (next_steps at b left past machine result (shown_attempt new) none (ap shown_attempt is))

-- ---- any stage
-- without a component that is left the attempt has ended
pub steps_end : (at : When) (s : AttemptState) (machine : MachineView) (answer : Went) (new : PlainAttempt) → s.left ≡ [] → answer ≡ ended s.past → StepsTo at (shown_attempt s) machine (Some answer) machine new
steps_end at s machine answer new none e =
    subst (λ l. FromLeft at (shown_attempt s) l s.past machine answer machine (held_after answer new)) (sym none) (ends s.past machine answer new e)

-- nothing is left where the list has no length
is_zero : (count : ℕ) (empty : Bool) → empty ≡ (count == 0) → empty ≡ true → count ≡ 0
is_zero count empty e so = grind (arith, nat_tests)

pub none_left : (left : List Part) (count : ℕ) (empty : Bool) → count ≡ length left → empty ≡ (count == 0) → empty ≡ true → left ≡ []
none_left [] count empty is e so = refl
none_left (part ∷ left) count empty is e so =
    let zero : count ≡ 0 = is_zero count empty e so in
    absurd (omega arith)

-- a step of the attempt `s`, of which `a` is another name, whose stage is taken out
pub staged_step : (at : When) (s a : AttemptState) (own there : Stage) (old now : MachineView) (result : Option Went) (new : PlainAttempt) → a ≡ s → a.stage ≡ own →
    MakesStep at (with_stage (shown_stage own) (shown_attempt (record a { stage = there }))) old result now new → MakesStep at (shown_attempt s) old result now new
staged_step at s a own there old now result new same is h =
    let whole : with_stage (shown_stage own) (shown_attempt (record a { stage = there })) ≡ shown_attempt s = (λ i. record (shown_attempt a) { stage = shown_stage (sym is i) }) ∙ ap shown_attempt same in
    subst (λ (p : PlainAttempt). MakesStep at p old result now new) whole h

-- a run that is taken out
pub staged_run : (left : List Part) (own : Stage) (run : Run) → own ≡ stage.Running run → IsStage left own → IsRun run
staged_run left own run is h = subst (IsStage left) is h

-- a script that has still to begin
pub staged_script : (left : List Part) (own : Stage) → own ≡ stage.Starting → IsStage left own → FirstHasScript left
staged_script left own is h = subst (IsStage left) is h

pub staged_waits : (started : ℕ) (s a : AttemptState) (run : Run) → a ≡ s → a.stage ≡ stage.Running run → StageWaitsBelow started (shown_stage s.stage) → WaitsBelow started run.place
staged_waits started s a run same is h =
    run_waits started run (subst (λ (x : Stage). StageWaitsBelow started (shown_stage x)) (sym (ap (λ (x : AttemptState). x.stage) same) ∙ is) h)

-- the next component comes, where `a` is another name of the attempt
pub next_is : (s a : AttemptState) (part : Part) (left rest : List Part) → a ≡ s → s.left ≡ part ∷ left → s.stage ≡ stage.Coming → rest ≡ drop 1 a.left → record a { left = rest } ≡ record s { left = left; stage = stage.Coming }
next_is s a part left rest same e comes is =
    let behind : rest ≡ left = is ∙ ap (λ (x : AttemptState). drop 1 x.left) same ∙ ap (drop 1) e in
    (λ i. record a { left = behind i }) ∙ ap (λ (x : AttemptState). record x { left = left }) same ∙ (λ i. record s { left = left; stage = comes i })

pub coming_is : (left : List Part) (own : Stage) → own ≡ stage.Coming → IsStage left own
coming_is left own is = subst (IsStage left) (sym is) tt
