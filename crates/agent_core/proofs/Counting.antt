-- The machine counts at least the faults that turns tell.
use Rattle.std.proofs.Common.{ℕ, ℤ, ◌≡◌, ◌≢◌, ◌+◌, ◌-◌, ◌^◌, ◌≤◌, max, min, Bool, true, false, List, [], ◌∷◌, ◌++◌, inl, inr, Option, Some, None, refl, sym, ap, subst, ◌∙◌, arith, append_assoc, append-nil}
use Rattle.std.specs.Prelude.{IfSome, ◌⊎◌, ⊤}
use Rattle.desk_base.specs.Counts.{Rose}
use Rattle.act_rules.specs.declared.row.Note.{Note}
use Rattle.bf_machine.specs.Rises.{RoseBy}
use Rattle.bf_machine.specs.Views.{MachineView}
use Rattle.bf_machine.proofs.Telling.{RoseBy-later, RoseBy-more, RoseBy-none}
use Rattle.rel_sources.specs.declared.pair.Pair.{Pair}
use Rattle.report_text.specs.declared.answer.Verdict.{Verdict}
use Rattle.report_text.specs.declared.answer.Verdict.TheVariants as verdict
use Rattle.script_text.specs.Scripts.{PlainScript}
use Rattle.script_run.specs.declared.cause.Cause.{Cause}
use Rattle.script_run.specs.declared.cause.Cause.TheVariants as cause
use Rattle.script_run.specs.declared.ran.Ran.{Ran}
use Rattle.script_run.specs.declared.ran.Ran.TheVariants as ran
use Rattle.script_run.specs.Advances.{Advances}
use Rattle.script_run.specs.Asking.{When}
use Rattle.script_run.specs.RunSteps.{Holds}
use Rattle.script_run.specs.ScriptWalks.{after, next, standing}
use Rattle.script_run.specs.Walks.{Fails as FailsAt, Known, Next, Pauses, Polls, Settled, Walk, Wants, is_midway, supplied}
use Rattle.agent_attempt.specs.declared.attempt.Failure.{Failure}
use Rattle.agent_attempt.specs.declared.attempt.Part.{Part}
use Rattle.agent_attempt.specs.declared.found.Found.{Found}
use Rattle.agent_attempt.specs.declared.found.Found.TheVariants as found
use Rattle.agent_attempt.specs.declared.went.Fail.{Fail}
use Rattle.agent_attempt.specs.declared.went.Went.{Went}
use Rattle.agent_attempt.specs.declared.went.Went.TheVariants as went
use Rattle.agent_attempt.specs.ActionContents.{Content, group, single}
use Rattle.agent_attempt.specs.Attempts.{PlainAttempt, PlainStage, Past, coming, first_stage, issue_date, judging, running, starting}
use Rattle.agent_attempt.specs.Going.{AfterComing, AfterJudging, AfterRun, Ends, Fails, FromComing, FromJudging, FromLeft, FromRunning, FromStage, FromStarting, Going, GoesOn, Stays, Through, after_failure, ended_by, first_failure, with_failure}
use Rattle.agent_attempt.specs.Relevance.{HasAsked}
use Rattle.agent_attempt.specs.Supplies.{StageTakes, Supplies, wanted_of}
use Rattle.agent_attempt.proofs.Lasting.{advances_later}
use Rattle.agent_attempt.proofs.Quiet.{content_quiet, due_quiet, fixlet_quiet, succeeds_quiet}
use Rattle.agent_core.specs.declared.turned.Turned.{Turned}
use Rattle.agent_core.specs.declared.turned.Turned.TheVariants as turned
use Rattle.agent_core.specs.Agents.{AgentState, shown_state}
use Rattle.agent_core.specs.Calls.{Call, Point, gathers, restarts, settles, supplies, turns}
use Rattle.agent_core.specs.Devices.{Devices}
use Rattle.agent_core.specs.declared.opening.Opened.TheVariants as opened
use Rattle.agent_core.specs.Opens.{OpensAgent}
use Rattle.agent_core.specs.ToldFaults.{DoAllCounted, fault_of, fault_told, faults_told}
use Rattle.agent_core.specs.Turns.{Turn, outcome_of}
use Rattle.agent_state.specs.Changes.{DropsState, SettlesState, SuppliesHeld}
use Rattle.agent_state.specs.States.{State}
use Rattle.agent_core.proofs.FewerWants.{same_attempt}
use Rattle.agent_core.proofs.OverCalls.{gathered_same, opened_bare}
use Rattle.agent_core.proofs.TurnPoints.{Keeps, turn_keeps, with_machine}

-- ---- faults of scripts
-- the law of faults in scripts
pub record ScriptFaults : Type 0 where
  pub counted : (at : When) (script : PlainScript) (given : List Pair) (settled : List Settled) (old : MachineView) (line : ℕ) (new : MachineView) (left : Walk)
      → Advances at old (after script given settled) (ran.Failed line cause.MachineFault) new left → Rose old.faults new.faults ⊎ (next script given settled ≡ FailsAt line true cause.MachineFault)
  pub begins : (script : PlainScript) (given : List Pair) (line : ℕ) → next script given [] ≢ FailsAt line true cause.MachineFault
  pub files : (script : PlainScript) (given : List Pair) (settled : List Settled) (wanting : ℕ) (digest : List ℕ) (bytes : Option (List ℕ)) (line : ℕ)
      → next script given settled ≡ Wants wanting digest → next script given (settled ++ supplied bytes ∷ []) ≢ FailsAt line true cause.MachineFault

-- the walk is that of a script after some results
record IsOfScript (walk : Walk) : Type 0 where
  script : PlainScript
  given : List Pair
  settled : List Settled
  same : walk ≡ after script given settled

-- what comes next is no fault of the machine
abbrev NoFault : Next → Type 0
NoFault comes = (line : ℕ) → comes ≢ FailsAt line true cause.MachineFault

-- a script that runs has no fault next, and what it wanted with its last answer comes next
record IsReady (rest : Walk) : Type 0 where
  of : IsOfScript rest
  ready : NoFault (rest []).next

record IsWaiting (rest : Walk) (digest : List ℕ) : Type 0 where
  of : IsOfScript rest
  line : ℕ
  waits : (rest []).next ≡ Wants line digest

abbrev IsRegular : PlainStage → Type 0
IsRegular (running rest None) = IsReady rest
IsRegular (running rest (Some digest)) = IsWaiting rest digest
IsRegular stage = ⊤

abbrev AreRegular : Option PlainAttempt → Type 0
AreRegular held = IfSome held (λ attempt. IsRegular attempt.stage)

next_of : (walk : Walk) (of : IsOfScript walk) → next of.script of.given of.settled ≡ (walk []).next
next_of walk of = ap (λ l. (standing of.script of.given l).next) (sym (append-nil of.settled)) ∙ ap (λ (w : Walk). (w []).next) (sym of.same)

-- further results of it
abbrev further_of : (walk further : Walk) (results : List Settled) → IsOfScript walk → ((more : List Settled) → further more ≡ walk (results ++ more)) → IsOfScript further
further_of walk further results of same = record {
  script = of.script;
  given = of.given;
  settled = of.settled ++ results;
  same = λ i more. (same more ∙ ap (λ (w : Walk). w (results ++ more)) of.same ∙ ap (λ l. standing of.script of.given l) (sym (append_assoc of.settled results more))) i;
}

holds_ready : (at : When) (known : Known) (comes : Next) (line : ℕ) (old new : MachineView) → Holds at known comes line old new → NoFault comes
holds_ready at known (Pauses own text) line old new h n e = cc
holds_ready at known (Polls own process) line old new h n e = cc
holds_ready at known comes line old new h n e = absurd h

not_midway : (comes : Next) → is_midway comes ≡ false → NoFault comes
not_midway comes isnt n e = let both : true ≡ false = sym (ap is_midway e) ∙ isnt in cc

module _ (at : When) (old : MachineView) (walk : Walk) (new : MachineView) (further : Walk) (of : IsOfScript walk) where
  gone_on : (came : Ran) → Advances at old walk came new further → IsOfScript further
  gone_on came h = further_of walk further h.results of h.same

  stopped : (came : Ran) (h : Advances at old walk came new further) → (further []).next ≡ (walk (h.results ++ [])).next
  stopped came h = ap (λ stop. stop.next) (h.same [])

  held_ready : (line : ℕ) → Advances at old walk (ran.Held line) new further → IsReady further
  held_ready line h = record {
    of = gone_on (ran.Held line) h;
    ready = λ n e. holds_ready at (walk (h.results ++ [])).known (walk (h.results ++ [])).next line h.between new h.stops n (sym (stopped (ran.Held line) h) ∙ e);
  }

  memory_ready : Advances at old walk ran.Memory new further → IsReady further
  memory_ready h = record { of = gone_on ran.Memory h; ready = not_midway (further []).next (h.before refl) }

  wants_waiting : (line : ℕ) (digest : List ℕ) → Advances at old walk (ran.Wants line digest) new further → IsWaiting further digest
  wants_waiting line digest h = record { of = gone_on (ran.Wants line digest) h; line = line; waits = stopped (ran.Wants line digest) h ∙ h.stops.0 }

  failed_rose : ScriptFaults → (line : ℕ) → NoFault (walk []).next → Advances at old walk (ran.Failed line cause.MachineFault) new further → Rose old.faults new.faults
  failed_rose law line ready h = by_law (law.counted at of.script of.given of.settled old line new further (subst (λ w. Advances at old w (ran.Failed line cause.MachineFault) new further) of.same h))
    where
      by_law : Rose old.faults new.faults ⊎ (next of.script of.given of.settled ≡ FailsAt line true cause.MachineFault) → Rose old.faults new.faults
      by_law (inl rose) = rose
      by_law (inr is) = absurd (ready line (sym (next_of walk of) ∙ is))

  -- a line that failed counted its fault, if it was one
  failed_counted : ScriptFaults → (line : ℕ) (why : Cause) → NoFault (walk []).next → Advances at old walk (ran.Failed line why) new further → RoseBy (fault_of why) old.faults new.faults
  failed_counted law line cause.MachineFault ready h = failed_rose law line ready h
  failed_counted law line other ready h = RoseBy-none old.faults new.faults (advances_later at old walk (ran.Failed line other) new further h).faults

-- ---- faults that are kept
abbrev failure_fault : Option Failure → ℕ
failure_fault None = 0
failure_fault (Some failure) = fault_of failure.fail.cause

abbrev kept_fault : Option PlainAttempt → ℕ
kept_fault None = 0
kept_fault (Some attempt) = failure_fault attempt.past.failure

abbrev fail_fault : Option Fail → ℕ
fail_fault None = 0
fail_fault (Some fail) = fault_of fail.cause

abbrev went_fault : Went → ℕ
went_fault (went.Ended fail note) = fail_fault fail
went_fault answer = 0

ended_fault : (failure : Option Failure) (exit : Option ℤ) → went_fault (ended_by failure exit) ≡ failure_fault failure
ended_fault None exit = refl
ended_fault (Some failure) exit = refl

first_fault : (before : Option Failure) (failure : Failure) → failure_fault (first_failure before failure) ≤ failure_fault before + fault_of failure.fail.cause
first_fault None failure = omega arith
first_fault (Some first) failure = omega arith

-- ---- an attempt goes on
-- What is told and kept after it is no more than what was kept before it and its rise.
record Counted (kept : ℕ) (old : MachineView) (answer : Went) (new : MachineView) (held : Option PlainAttempt) : Type 0 where
  rise : ℕ
  rose : RoseBy rise old.faults new.faults
  told : went_fault answer + kept_fault held ≤ kept + rise
  regular : AreRegular held

-- behind a stretch in which the count rose so
behind : (kept before rise : ℕ) (old between : MachineView) (answer : Went) (new : MachineView) (held : Option PlainAttempt) → RoseBy rise old.faults between.faults → kept ≤ before + rise
    → Counted kept between answer new held → Counted before old answer new held
behind kept before rise old between answer new held rose le c =
    let told = c.told in
    record { rise = rise + c.rise; rose = RoseBy-more rise c.rise old.faults between.faults new.faults rose c.rose; told = omega (arith, told, le); regular = c.regular }

behind_none : (kept : ℕ) (old between : MachineView) (answer : Went) (new : MachineView) (held : Option PlainAttempt) → old.faults ≤ between.faults → Counted kept between answer new held → Counted kept old answer new held
behind_none kept old between answer new held later c = behind kept kept 0 old between answer new held (RoseBy-none old.faults between.faults later) (omega arith) c

abbrev Counting : Going → Type 0
Counting go = (past : Past) (old : MachineView) (answer : Went) (new : MachineView) (held : Option PlainAttempt) → go past old answer new held → Counted (failure_fault past.failure) old answer new held

ends_count : Counting Ends
ends_count past old answer new held h =
    let told : went_fault answer ≡ failure_fault past.failure = ap went_fault h.0 ∙ ended_fault past.failure past.exit in
    let kept : kept_fault held ≡ 0 = ap kept_fault h.2 in
    let same : new.faults ≡ old.faults = ap (λ (v : MachineView). v.faults) h.1 in
    record { rise = 0; rose = RoseBy-none old.faults new.faults (omega (arith, same)); told = omega (arith, told, kept); regular = subst AreRegular (sym h.2) tt }

module _ (law : ScriptFaults) (at : When) (a : PlainAttempt) where
  stays_count : (left : List Part) (stage : PlainStage) (would : Went) → went_fault would ≡ 0 → IsRegular stage → Counting (Stays a left stage would)
  stays_count left stage would none regular past old answer new held h =
      let told : went_fault answer ≡ 0 = ap went_fault h.0 ∙ none in
      let kept : kept_fault held ≡ failure_fault past.failure = ap kept_fault h.2 in
      let same : new.faults ≡ old.faults = ap (λ (v : MachineView). v.faults) h.1 in
      record { rise = 0; rose = RoseBy-none old.faults new.faults (omega (arith, same)); told = omega (arith, told, kept); regular = subst AreRegular (sym h.2) regular }

  failure_counts : (all : Bool) (rest : Going) → Counting rest → Counting (after_failure all rest)
  failure_counts true rest counts = counts
  failure_counts false rest counts = ends_count

  -- a failure, behind a stretch that counted it where it is a fault
  fails_count : (part : Part) (line : ℕ) (why : Cause) (exit : Option ℤ) (rest : Going) → Counting rest → (past : Past) (old between : MachineView) (answer : Went) (new : MachineView) (held : Option PlainAttempt)
      → RoseBy (fault_of why) old.faults between.faults → Fails a part line why exit rest past between answer new held → Counted (failure_fault past.failure) old answer new held
  fails_count part line why exit rest counts past old between answer new held rose h =
      let later = with_failure part line why exit past in
      behind (failure_fault later.failure) (failure_fault past.failure) (fault_of why) old between answer new held rose
      (first_fault past.failure (record { fail = record { component = part.component; line = line; cause = why }; exit = exit }))
      (failure_counts a.action.all_members rest counts later between answer new held h)

  -- ---- judging
  after_judging_counts : (part : Part) (left : List Part) (exit : Option ℤ) (rest : Going) → Counting rest → (f : Found) (past : Past) (old between : MachineView) (answer : Went) (new : MachineView) (held : Option PlainAttempt)
      → HasAsked old f between → AfterJudging a part left exit rest f past between answer new held → Counted (failure_fault past.failure) old answer new held
  after_judging_counts part left exit rest counts found.Yes past old between answer new held quiet h =
      behind_none (failure_fault past.failure) old between answer new held quiet.only.later (counts (record past { exit = exit }) between answer new held h)
  after_judging_counts part left exit rest counts found.No past old between answer new held quiet h =
      fails_count part 0 cause.NotMet exit rest counts past old between answer new held (RoseBy-none old.faults between.faults quiet.only.later) h
  after_judging_counts part left exit rest counts found.Failed past old between answer new held quiet h =
      fails_count part 0 cause.MachineFault exit rest counts past old between answer new held (quiet.counts.rose refl) h
  after_judging_counts part left exit rest counts found.Memory past old between answer new held quiet h =
      behind_none (failure_fault past.failure) old between answer new held quiet.only.later (stays_count (part ∷ left) (judging exit) went.Memory refl tt past between answer new held h)

  judging_counts : (part : Part) (left : List Part) (exit : Option ℤ) (rest : Going) → Counting rest → Counting (FromJudging at a part left exit rest)
  judging_counts part left exit rest counts past old answer new held (f, between, succeeds, h) =
      after_judging_counts part left exit rest counts f past old between answer new held (succeeds_quiet at part.fixlet part.fixlet.success old f between succeeds) h

  -- ---- running
  after_run_counts : (part : Part) (left : List Part) (rest : Going) → Counting rest → (walk : Walk) → IsReady walk → (came : Ran) (further : Walk) (past : Past) (old between : MachineView) (answer : Went) (new : MachineView) (held : Option PlainAttempt)
      → Advances at old walk came between further → AfterRun at a part left rest came further past between answer new held → Counted (failure_fault past.failure) old answer new held
  after_run_counts part left rest counts walk ready (ran.Held line) further past old between answer new held advances h =
      behind_none (failure_fault past.failure) old between answer new held (advances_later at old walk (ran.Held line) between further advances).faults
      (stays_count (part ∷ left) (running further None) (went.Held part.component line) refl (held_ready at old walk between further ready.of line advances) past between answer new held h)
  after_run_counts part left rest counts walk ready (ran.Wants line digest) further past old between answer new held advances h =
      behind_none (failure_fault past.failure) old between answer new held (advances_later at old walk (ran.Wants line digest) between further advances).faults
      (stays_count (part ∷ left) (running further (Some digest)) (went.Wants digest) refl (wants_waiting at old walk between further ready.of line digest advances) past between answer new held h)
  after_run_counts part left rest counts walk ready ran.Done further past old between answer new held advances h =
      behind_none (failure_fault past.failure) old between answer new held (advances_later at old walk ran.Done between further advances).faults
      (judging_counts part left _ rest counts past between answer new held h)
  after_run_counts part left rest counts walk ready (ran.Failed line why) further past old between answer new held advances h =
      fails_count part line why _ rest counts past old between answer new held (failed_counted at old walk between further ready.of law line why ready.ready advances) h
  after_run_counts part left rest counts walk ready ran.Memory further past old between answer new held advances h =
      behind_none (failure_fault past.failure) old between answer new held (advances_later at old walk ran.Memory between further advances).faults
      (stays_count (part ∷ left) (running further None) went.Memory refl (memory_ready at old walk between further ready.of advances) past between answer new held h)

  running_counts : (part : Part) (left : List Part) (walk : Walk) (rest : Going) → Counting rest → IsReady walk → Counting (FromRunning at a part left walk rest)
  running_counts part left walk rest counts ready past old answer new held (came, between, further, advances, h) =
      after_run_counts part left rest counts walk ready came further past old between answer new held advances h

  -- ---- starting
  starts_ready : (script : PlainScript) → IsReady (standing script (issue_date a))
  starts_ready script = record { of = record { script = script; given = issue_date a; settled = []; same = refl }; ready = law.begins script (issue_date a) }

  starting_counts : (part : Part) (left : List Part) (rest : Going) → Counting rest → Counting (FromStarting at a part left rest)
  starting_counts part left rest counts past old answer new held (inl h) = stays_count (part ∷ left) starting went.Memory refl tt past old answer new held h
  starting_counts part left rest counts past old answer new held (inr (script, verdict, h)) = running_counts part left (standing script (issue_date a)) rest counts (starts_ready script) past old answer new held h

  -- ---- coming
  after_coming_counts : (part : Part) (left : List Part) (rest : Going) → Counting rest → (f : Found) (past : Past) (old between : MachineView) (answer : Went) (new : MachineView) (held : Option PlainAttempt)
      → HasAsked old f between → AfterComing at a part left rest f past between answer new held → Counted (failure_fault past.failure) old answer new held
  after_coming_counts part left rest counts found.Yes past old between answer new held quiet h =
      behind_none (failure_fault past.failure) old between answer new held quiet.only.later (starting_counts part left rest counts past between answer new held h)
  after_coming_counts part left rest counts found.No past old between answer new held quiet h =
      behind_none (failure_fault past.failure) old between answer new held quiet.only.later (counts past between answer new held h)
  after_coming_counts part left rest counts found.Failed past old between answer new held quiet h =
      fails_count part 0 cause.MachineFault None rest counts past old between answer new held (quiet.counts.rose refl) h
  after_coming_counts part left rest counts found.Memory past old between answer new held quiet h =
      behind_none (failure_fault past.failure) old between answer new held quiet.only.later (stays_count (part ∷ left) coming went.Memory refl tt past between answer new held h)

  coming_counts : (part : Part) (left : List Part) (rest : Going) → Counting rest → Counting (FromComing at a part left rest)
  coming_counts part left rest counts past old answer new held (f, between, is, h) =
      after_coming_counts part left rest counts f past old between answer new held (fixlet_quiet at part.fixlet old f between is) h

  -- ---- the whole
  through_counts : (left : List Part) → Counting (Through at a left)
  through_counts [] = ends_count
  through_counts (part ∷ left) = coming_counts part left (Through at a left) (through_counts left)

  stage_counts : (part : Part) (left : List Part) (stage : PlainStage) → IsRegular stage → Counting (FromStage at a part left stage)
  stage_counts part left coming regular = coming_counts part left (Through at a left) (through_counts left)
  stage_counts part left starting regular = starting_counts part left (Through at a left) (through_counts left)
  stage_counts part left (running walk None) regular = running_counts part left walk (Through at a left) (through_counts left) regular
  stage_counts part left (running walk (Some digest)) regular = stays_count (part ∷ left) (running walk (Some digest)) (went.Wants digest) refl regular
  stage_counts part left (judging exit) regular = judging_counts part left exit (Through at a left) (through_counts left)

  left_counts : (left : List Part) → IsRegular a.stage → Counting (FromLeft at a left)
  left_counts [] regular = ends_count
  left_counts (part ∷ left) regular = stage_counts part left a.stage regular

  going_counts : IsRegular a.stage → (old : MachineView) (answer : Went) (new : MachineView) (held : Option PlainAttempt) → GoesOn at a old answer new held → Counted (failure_fault a.past.failure) old answer new held
  going_counts regular old answer new held h = left_counts a.left regular a.past old answer new held h

-- ---- a turn
-- What is told and kept after it is no more than what was kept before it and the rise of the machine's count.
record Total (kept before : ℕ) (answer : Turned) (held : Option PlainAttempt) (now : ℕ) : Type 0 where
  rise : ℕ
  rose : RoseBy rise before now
  told : fault_told answer + kept_fault held ≤ kept + rise
  regular : AreRegular held

none_less : (n : ℕ) → 0 ≤ n
none_less n = omega arith

regular_first : (content : Content) → IsRegular (first_stage content)
regular_first (single fixlet) = tt
regular_first (group relevance components) = tt

ended_told : (id : ℕ) (began : Bool) (fail : Option Fail) → fault_told (turned.Ended id began (outcome_of fail) fail) ≡ fail_fault fail
ended_told id began None = refl
ended_told id began (Some fail) = refl

regular_held : (held : Option PlainAttempt) (attempt : PlainAttempt) → held ≡ Some attempt → AreRegular held → IsRegular attempt.stage
regular_held None attempt is regular = absurd (cc)
regular_held (Some own) attempt is regular = subst (λ (x : PlainAttempt). IsRegular x.stage) (same_attempt own attempt is) regular

module _ (law : ScriptFaults) (at : When) (start : Option PlainAttempt) (regular : AreRegular start) (before : ℕ) where
  abbrev kept : ℕ
  kept = kept_fault start

  -- nothing has gone on yet
  record Stood (s : State) (d : Devices) : Type 0 where
    held : s.held ≡ start
    faults : d.machine.faults ≡ before

  -- no attempt is held
  record Tried (s : State) (d : Devices) : Type 0 where
    held : s.held ≡ None
    later : before ≤ d.machine.faults

  record Underway (attempt : PlainAttempt) (d : Devices) : Type 0 where
    few : failure_fault attempt.past.failure ≤ kept
    stage : IsRegular attempt.stage
    later : before ≤ d.machine.faults

  abbrev Came : Turned → State → Devices → Type 0
  Came answer s d = Total kept before answer s.held d.machine.faults

  still : (would : Turned) (s : State) (d : Devices) → fault_told would ≡ 0 → Stood s d → Came would s d
  still would s d none stood =
      let faults = stood.faults in
      let same : kept_fault s.held ≡ kept = ap kept_fault stood.held in
      record { rise = 0; rose = RoseBy-none before d.machine.faults (omega (arith, faults)); told = omega (arith, none, same); regular = subst AreRegular (sym stood.held) regular }

  free : (would : Turned) (s : State) (d : Devices) → fault_told would ≡ 0 → Tried s d → Came would s d
  free would s d none tried =
      let same : kept_fault s.held ≡ 0 = ap kept_fault tried.held in
      record { rise = 0; rose = RoseBy-none before d.machine.faults tried.later; told = omega (arith, none, same); regular = subst AreRegular (sym tried.held) tt }

  -- a look failed
  faulty : (s : State) (d : Devices) (machine : MachineView) → Tried s d → HasAsked d.machine found.Failed machine → Total kept before turned.MachineFault s.held machine.faults
  faulty s d machine tried quiet =
      let same : kept_fault s.held ≡ 0 = ap kept_fault tried.held in
      record { rise = 1; rose = RoseBy-later 1 before d.machine.faults machine.faults tried.later (quiet.counts.rose refl); told = omega (arith, same); regular = subst AreRegular (sym tried.held) tt }

  asked : (s : State) (d : Devices) (f : Found) (machine : MachineView) → Tried s d → HasAsked d.machine f machine → Tried s (with_machine machine d)
  asked s d f machine tried quiet = record { held = tried.held; later = omega (arith, tried.later, quiet.only.later) }

  -- an attempt went on, and this is told of it
  went_on : (attempt : PlainAttempt) (d : Devices) (answer : Went) (machine : MachineView) (held : Option PlainAttempt) (would : Turned) → Underway attempt d → fault_told would ≡ went_fault answer
      → GoesOn at attempt d.machine answer machine held → Total kept before would held machine.faults
  went_on attempt d answer machine held would underway same goes =
      let c = going_counts law at attempt underway.stage d.machine answer machine held goes in
      let told = c.told in
      let few = underway.few in
      record { rise = c.rise; rose = RoseBy-later c.rise before d.machine.faults machine.faults underway.later c.rose; told = omega (arith, same, told, few); regular = c.regular }

  -- it ended, and none is held
  ended : (attempt : PlainAttempt) (d : Devices) (fail : Option Fail) (note : Note) (machine : MachineView) (held : Option PlainAttempt) (would : Turned) → Underway attempt d → fault_told would ≡ fail_fault fail
      → GoesOn at attempt d.machine (went.Ended fail note) machine held → Total kept before would None machine.faults
  ended attempt d fail note machine held would underway same goes =
      let t = went_on attempt d (went.Ended fail note) machine held would underway same goes in
      let told = t.told in
      record { rise = t.rise; rose = t.rose; told = omega (arith, told); regular = tt }

  -- another answer in its place, that tells none
  instead : (would other : Turned) (held : Option PlainAttempt) (now : ℕ) → fault_told other ≡ 0 → Total kept before would held now → Total kept before other held now
  instead would other held now none t =
      let told = t.told in
      record { rise = t.rise; rose = t.rose; told = omega (arith, told, none); regular = t.regular }

  keeps_total : Keeps at (λ s d. Stood s d) (λ marks s d. Tried s d) (λ began attempt s d. Underway attempt d) (λ changed would s d. Came would s d) (λ a s d. Came a s d)
  keeps_total = record {
    memory = λ s d a. still turned.Memory s d refl a;
    broken_done = λ s d id pocket a broken saves. still (turned.Interrupted id) s d refl a;
    broken_failed = λ s d id pocket a broken saves. still turned.PocketFault s d refl a;
    broken_memory = λ s d id pocket a broken saves. still turned.Memory s d refl a;
    resumes = λ s d attempt a none is.
        let own : start ≡ Some attempt = sym a.held ∙ is in
        let same : kept ≡ failure_fault attempt.past.failure = ap kept_fault own in
        let faults = a.faults in
        record { few = omega (arith, same); stage = regular_held start attempt own regular; later = omega (arith, faults) };
    held = λ began attempt s d component line machine after g goes. went_on attempt d (went.Held component line) machine after (turned.Held attempt.action.id began component line) g refl goes;
    wants = λ began attempt s d digest machine after g goes. went_on attempt d (went.Wants digest) machine after (turned.Wants attempt.action.id began digest) g refl goes;
    ends = λ began attempt s d fail note machine after g goes. ended attempt d fail note machine after (turned.Ended attempt.action.id began (outcome_of fail) fail) g (ended_told attempt.action.id began fail) goes;
    lacks = λ began attempt s d machine after g goes. went_on attempt d went.Memory machine after turned.Memory g refl goes;
    tries = λ s d a none is. let faults = a.faults in record { held = is; later = omega (arith, faults) };
    tested = λ marks s d action machine m may asks. asked s d _ machine m (content_quiet at _ d.machine _ machine asks);
    marked = λ marks s d action machine m may asks. asked s d _ machine m (content_quiet at _ d.machine _ machine asks);
    test_failed = λ marks s d action machine m asks. faulty s d machine m (content_quiet at _ d.machine _ machine asks);
    test_memory = λ marks s d action machine m asks. free turned.Memory s (with_machine machine d) refl (asked s d _ machine m (content_quiet at _ d.machine _ machine asks));
    passed = λ marks s d action machine m asks. asked s d _ machine m (due_quiet at _ action _ _ d.machine _ machine asks);
    try_failed = λ marks s d action machine m asks. faulty s d machine m (due_quiet at _ action _ _ d.machine _ machine asks);
    try_memory = λ marks s d action machine m asks. free turned.Memory s (with_machine machine d) refl (asked s d _ machine m (due_quiet at _ action _ _ d.machine _ machine asks));
    begun_done = λ marks s d action content machine pocket m due there among saves.
        let now = asked s d _ machine m (due_quiet at _ action _ _ d.machine _ machine due) in
        record { few = none_less kept; stage = regular_first content; later = now.later };
    begun_failed = λ marks s d action machine pocket m due among saves. free turned.PocketFault s (with_machine machine d) refl (asked s d _ machine m (due_quiet at _ action _ _ d.machine _ machine due));
    begun_memory = λ marks s d action machine pocket m due saves. free turned.Memory s (with_machine machine d) refl (asked s d _ machine m (due_quiet at _ action _ _ d.machine _ machine due));
    no_memory = λ marks s d m. free turned.Memory s d refl m;
    idle = λ marks s d m. free turned.Idle s d refl m;
    reported_done = λ changed would s d pocket b can saves. b;
    reported_failed = λ changed would s d pocket b can saves. instead would turned.PocketFault s.held d.machine.faults refl b;
    reported_memory = λ changed would s d pocket b can saves. instead would turned.Memory s.held d.machine.faults refl b;
    changed_done = λ would s d pocket b saves. b;
    changed_failed = λ would s d pocket b saves. instead would turned.PocketFault s.held d.machine.faults refl b;
    changed_memory = λ would s d pocket b saves. instead would turned.Memory s.held d.machine.faults refl b;
    unchanged = λ would s d b. b;
  }

turn_total : ScriptFaults → (at : When) (s s2 : State) (d d2 : Devices) (answer : Turned) → AreRegular s.held → Turn at s d answer s2 d2 → Total (kept_fault s.held) d.machine.faults answer s2.held d2.machine.faults
turn_total law at s s2 d d2 answer regular turn =
    let start = s.held in
    let before = d.machine.faults in
    turn_keeps at (λ s d. Stood law at start regular before s d) (λ marks s d. Tried law at start regular before s d) (λ began attempt s d. Underway law at start regular before attempt d) (λ changed would s d. Came law at start regular before would s d) (λ a s d. Came law at start regular before a s d)
    (keeps_total law at start regular before) answer s2 d2 s d
    (λ clean. record { held = refl; faults = refl }) (λ pocket saves. record { held = refl; faults = refl })
    (λ pocket saves. still law at start regular before turned.PocketFault s d refl (record { held = refl; faults = refl }))
    (λ pocket saves. still law at start regular before turned.Memory s d refl (record { held = refl; faults = refl })) turn

-- ---- calls that make no turn
-- no more is kept than before
record Leaves (old new : Option PlainAttempt) : Type 0 where
  few : kept_fault new ≤ kept_fault old
  regular : AreRegular new

leaves_same : (old new : Option PlainAttempt) → new ≡ old → AreRegular old → Leaves old new
leaves_same old new same regular =
    let kept : kept_fault new ≡ kept_fault old = ap kept_fault same in
    record { few = omega (arith, kept); regular = subst AreRegular (sym same) regular }

dropped_held : (seq : ℕ) (answer : Bool) (s s2 : State) → DropsState seq s answer s2 → s2.held ≡ s.held
dropped_held seq true s s2 h = ap (λ (x : State). x.held) h.1
dropped_held seq false s s2 h = ap (λ (x : State). x.held) h.1

settled_held : (seq : ℕ) (v : Verdict) (answer : Bool) (s s2 : State) → SettlesState seq v s answer s2 → s2.held ≡ s.held
settled_held seq verdict.Stored answer s s2 h = dropped_held seq answer s s2 h
settled_held seq verdict.Carried answer s s2 h = ap (λ (x : State). x.held) h.1
settled_held seq (verdict.Conflict digest) answer s s2 h = ap (λ (x : State). x.held) h.1
settled_held seq (verdict.Full limit) answer s s2 h = ap (λ (x : State). x.held) h.1

-- a file that comes is no fault
not_wanted : (digest : List ℕ) (o : Option (List ℕ)) → o ≡ None → o ≡ Some digest → ⊥
not_wanted digest o none e = cc

supplied_ready : ScriptFaults → (rest further : Walk) (digest : List ℕ) (bytes : Option (List ℕ)) → IsWaiting rest digest → ((more : List Settled) → further more ≡ rest (supplied bytes ∷ more)) → IsReady further
supplied_ready law rest further digest bytes waiting same =
    let of = waiting.of in
    let on : IsOfScript further = further_of rest further (supplied bytes ∷ []) of same in
    record {
      of = on;
      ready = λ n e. law.files of.script of.given of.settled waiting.line digest bytes n (next_of rest of ∙ waiting.waits) (next_of further on ∙ e);
    }

stage_supplied : ScriptFaults → (old new : PlainStage) (digest : List ℕ) (bytes : Option (List ℕ)) → wanted_of old ≡ Some digest → StageTakes old bytes new → IsRegular old → IsRegular new
stage_supplied law (running rest (Some wanted)) (running further later) digest bytes wants takes waiting =
    subst (λ o. IsRegular (running further o)) (sym takes.0) (supplied_ready law rest further wanted bytes waiting takes.1)
stage_supplied law (running rest None) new digest bytes wants takes regular = absurd (not_wanted digest None refl wants)
stage_supplied law coming new digest bytes wants takes regular = absurd (not_wanted digest None refl wants)
stage_supplied law starting new digest bytes wants takes regular = absurd (not_wanted digest None refl wants)
stage_supplied law (judging exit) new digest bytes wants takes regular = absurd (not_wanted digest None refl wants)
stage_supplied law (running rest wanted) new digest bytes wants takes regular = absurd takes

attempt_supplied : ScriptFaults → (old new : PlainAttempt) (digest : List ℕ) (bytes : Option (List ℕ)) (answer : Bool) → Supplies old digest bytes answer new → IsRegular old.stage → Leaves (Some old) (Some new)
attempt_supplied law old new digest bytes true gives regular =
    let kept : kept_fault (Some new) ≡ kept_fault (Some old) = ap (λ (x : PlainAttempt). failure_fault x.past.failure) gives.1.0 in
    record { few = omega (arith, kept); regular = stage_supplied law old.stage new.stage digest bytes (gives.0.0 refl) gives.1.1 regular }
attempt_supplied law old new digest bytes false gives regular = leaves_same (Some old) (Some new) (ap (λ (x : PlainAttempt). Some x) gives.1) regular

held_supplied : ScriptFaults → (old new : Option PlainAttempt) (digest : List ℕ) (bytes : Option (List ℕ)) (answer : Bool) → SuppliesHeld old digest bytes answer new → AreRegular old → Leaves old new
held_supplied law None new digest bytes answer gives regular = leaves_same None new gives.1 regular
held_supplied law (Some old) None digest bytes answer gives regular = absurd gives
held_supplied law (Some old) (Some new) digest bytes answer gives regular = attempt_supplied law old new digest bytes answer gives regular

-- ---- each call, and all of them
record Summed (old : Point) (told : ℕ) (new : Point) : Type 0 where
  rise : ℕ
  rose : RoseBy rise old.faults new.faults
  few : told + kept_fault new.state.held ≤ kept_fault old.state.held + rise

after_leaving : (old between : Point) (told : ℕ) (new : Point) → between.faults ≡ old.faults → Leaves old.state.held between.state.held → Summed between told new → Summed old told new
after_leaving old between told new same leaves sum =
    let few = leaves.few in
    let more = sum.few in
    record { rise = sum.rise; rose = subst (λ n. RoseBy sum.rise n new.faults) same sum.rose; few = omega (arith, few, more) }

after_turn : (old between : Point) (answer : Turned) (answers : List Turned) (new : Point) → Total (kept_fault old.state.held) old.faults answer between.state.held between.faults → Summed between (faults_told answers) new
    → Summed old (faults_told (answer ∷ answers)) new
after_turn old between answer answers new turn sum =
    let told = turn.told in
    let more = sum.few in
    let whole : faults_told (answer ∷ answers) ≡ fault_told answer + faults_told answers = refl in
    record { rise = turn.rise + sum.rise; rose = RoseBy-more turn.rise sum.rise old.faults between.faults new.faults turn.rose sum.rose; few = omega (arith, told, more, whole) }

-- an agent that is opened holds nothing
restarted_held : (computer : List ℕ) (agent : AgentState) (s : State) (told : Option (Option (List ℕ))) → OpensAgent computer told (opened.Agent agent) → s ≡ shown_state agent → s.held ≡ None
restarted_held computer agent s told opens same = ap (λ (x : State). x.held) same ∙ (opened_bare computer opens.0 (shown_state agent) opens.2).1

calls_sum : ScriptFaults → (calls : List Call) (old : Point) (answers : List Turned) (new : Point) → AreRegular old.state.held → DoAllCounted calls old answers new → Summed old (faults_told answers) new
calls_sum law [] old answers new regular (none, same) =
    let told : faults_told answers ≡ 0 = ap faults_told none in
    subst (Summed old (faults_told answers)) (sym same) (record { rise = 0; rose = RoseBy-none old.faults old.faults (omega arith); few = omega (arith, told) })
calls_sum law (turns at ∷ calls) old [] new regular done = absurd done
calls_sum law (turns at ∷ calls) old (answer ∷ answers) new regular (between, made, rest) =
    let turn = turn_total law at old.state between.state made.before made.after answer regular made.turn in
    let from = subst (λ n. Total (kept_fault old.state.held) n answer between.state.held made.after.machine.faults) made.faults_before turn in
    let to = subst (λ n. Total (kept_fault old.state.held) old.faults answer between.state.held n) made.faults_after from in
    after_turn old between answer answers new to (calls_sum law calls between answers new to.regular rest)
calls_sum law (gathers site ∷ calls) old answers new regular (between, (does, same), rest) =
    let leaves = leaves_same old.state.held between.state.held (gathered_same site does.0 old.state between.state does.1).1 regular in
    after_leaving old between (faults_told answers) new same leaves (calls_sum law calls between answers new leaves.regular rest)
calls_sum law (supplies digest bytes ∷ calls) old answers new regular (between, (does, same), rest) =
    let leaves = held_supplied law old.state.held between.state.held digest bytes does.0 does.1.1 regular in
    after_leaving old between (faults_told answers) new same leaves (calls_sum law calls between answers new leaves.regular rest)
calls_sum law (settles seq v ∷ calls) old answers new regular (between, (does, same), rest) =
    let leaves = leaves_same old.state.held between.state.held (settled_held seq v does.0 old.state between.state does.1) regular in
    after_leaving old between (faults_told answers) new same leaves (calls_sum law calls between answers new leaves.regular rest)
calls_sum law (restarts ∷ calls) old answers new regular (between, (does, same), rest) =
    let none = restarted_held old.state.computer does.0 between.state (Some old.saved) does.1 does.2 in
    let kept : kept_fault between.state.held ≡ 0 = ap kept_fault none in
    let leaves : Leaves old.state.held between.state.held = record { few = omega (arith, kept); regular = subst AreRegular (sym none) tt } in
    after_leaving old between (faults_told answers) new same leaves (calls_sum law calls between answers new leaves.regular rest)

fewer_rose : (few rise x y : ℕ) → few ≤ rise → RoseBy rise x y → RoseBy few x y
fewer_rose few rise x y le p = rises (2 ^ 64 - 1) few rise x y le p
  where
    rises : (last few rise x y : ℕ) → few ≤ rise → max x (min (x + rise) last) ≤ y → max x (min (x + few) last) ≤ y
    rises last few rise x y le p = grind arith

pub opened_counts : ScriptFaults → (calls : List Call) (computer : List ℕ) (told : Option (Option (List ℕ))) (agent : AgentState) (old new : Point) (answers : List Turned)
    → OpensAgent computer told (opened.Agent agent) → old.state ≡ shown_state agent → DoAllCounted calls old answers new → RoseBy (faults_told answers) old.faults new.faults
opened_counts law calls computer told agent old new answers opens same done =
    let none : old.state.held ≡ None = restarted_held computer agent old.state told opens same in
    let sum = calls_sum law calls old answers new (subst AreRegular (sym none) tt) done in
    let kept : kept_fault old.state.held ≡ 0 = ap kept_fault none in
    let few = sum.few in
    fewer_rose (faults_told answers) sum.rise old.faults new.faults (omega (arith, few, kept)) sum.rose
