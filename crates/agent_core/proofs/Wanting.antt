-- After the answer Wants the held attempt wants the file of the answer.
use Rattle.std.proofs.Common.{ℕ, ℤ, ◌≡◌, Bool, true, false, List, [], ◌∷◌, inl, inr, Option, Some, None, refl, sym, ap, subst, ◌∙◌}
use Rattle.std.specs.Prelude.{IfSome, IsSomeAnd, ⊤}
use Rattle.bf_machine.specs.Views.{MachineView}
use Rattle.script_run.specs.declared.cause.Cause.{Cause}
use Rattle.script_run.specs.declared.ran.Ran.{Ran}
use Rattle.script_run.specs.declared.ran.Ran.TheVariants as ran
use Rattle.script_run.specs.Asking.{When}
use Rattle.script_run.specs.Walks.{Walk}
use Rattle.fix_site.specs.declared.action.Action.{Action}
use Rattle.agent_attempt.specs.declared.attempt.Failure.{Failure}
use Rattle.agent_attempt.specs.declared.attempt.Part.{Part}
use Rattle.agent_attempt.specs.declared.found.Found.{Found}
use Rattle.agent_attempt.specs.declared.found.Found.TheVariants as found
use Rattle.agent_attempt.specs.declared.went.Went.{Went}
use Rattle.agent_attempt.specs.declared.went.Went.TheVariants as went
use Rattle.agent_attempt.specs.Attempts.{PlainAttempt, PlainStage, Past, coming, starting, running, judging}
use Rattle.agent_attempt.specs.Going.{AfterComing, AfterJudging, AfterRun, Ends, Fails, FromComing, FromJudging, FromLeft, FromRunning, FromStage, FromStarting, Going, GoesOn, SameAttempt, Stays, Through, after_failure, ended_by, with_failure}
use Rattle.agent_attempt.specs.Supplies.{wanted_of}
use Rattle.agent_attempt.proofs.GoingPoints.{going_same}
use Rattle.agent_core.specs.declared.turned.Turned.{Turned}
use Rattle.agent_core.specs.declared.turned.Turned.TheVariants as turned
use Rattle.agent_core.specs.Devices.{Devices}
use Rattle.agent_core.specs.Turns.{Turn}
use Rattle.agent_state.specs.States.{State}
use Rattle.agent_core.proofs.TurnPoints.{Keeps, turn_keeps}

-- an attempt is held that wants this file
abbrev WantsFile : List ℕ → Option PlainAttempt → Type 0
WantsFile digest after = IsSomeAnd after (λ attempt. wanted_of attempt.stage ≡ Some digest)

abbrev Wanting : Going → Type 0
Wanting go = (past : Past) (old : MachineView) (digest : List ℕ) (new : MachineView) (after : Option PlainAttempt) → go past old (went.Wants digest) new after → WantsFile digest after

-- an attempt that has ended wants none
ended_other : (failure : Option Failure) (exit : Option ℤ) (digest : List ℕ) → went.Wants digest ≡ ended_by failure exit → ⊥
ended_other None exit digest e = cc
ended_other (Some failure) exit digest e = cc

ends_want : Wanting Ends
ends_want past old digest new after h = absurd (ended_other past.failure past.exit digest h.0)

same_file : (digest wanted : List ℕ) → went.Wants digest ≡ went.Wants wanted → wanted ≡ digest
same_file digest wanted e = cc

module _ (at : When) (a : PlainAttempt) where
  stays_want : (left : List Part) (stage : PlainStage) (would : Went) → ((digest : List ℕ) → went.Wants digest ≡ would → ⊥) → Wanting (Stays a left stage would)
  stays_want left stage would other past old digest new after h = absurd (other digest h.0)

  file_wanted : (left : List Part) (walk : Walk) (wanted : List ℕ) → Wanting (Stays a left (running walk (Some wanted)) (went.Wants wanted))
  file_wanted left walk wanted past old digest new after h = subst (WantsFile digest) (sym h.2) (ap (λ d. Some d) (same_file digest wanted h.0))

  failure_wants : (all : Bool) (rest : Going) → Wanting rest → Wanting (after_failure all rest)
  failure_wants true rest wants = wants
  failure_wants false rest wants = ends_want

  fails_want : (part : Part) (line : ℕ) (cause : Cause) (exit : Option ℤ) (rest : Going) → Wanting rest → Wanting (Fails a part line cause exit rest)
  fails_want part line cause exit rest wants = λ past. failure_wants a.action.all_members rest wants (with_failure part line cause exit past)

  after_judging_wants : (part : Part) (left : List Part) (exit : Option ℤ) (rest : Going) → Wanting rest → (f : Found) → Wanting (AfterJudging a part left exit rest f)
  after_judging_wants part left exit rest wants found.Yes = λ past. wants (record past { exit = exit })
  after_judging_wants part left exit rest wants found.No = fails_want part 0 _ exit rest wants
  after_judging_wants part left exit rest wants found.Failed = fails_want part 0 _ exit rest wants
  after_judging_wants part left exit rest wants found.Memory = stays_want (part ∷ left) (judging exit) went.Memory (λ digest e. cc)

  judging_wants : (part : Part) (left : List Part) (exit : Option ℤ) (rest : Going) → Wanting rest → Wanting (FromJudging at a part left exit rest)
  judging_wants part left exit rest wants past old digest new after (f, between, succeeds, h) = after_judging_wants part left exit rest wants f past between digest new after h

  after_run_wants : (part : Part) (left : List Part) (rest : Going) → Wanting rest → (came : Ran) (walk : Walk) → Wanting (AfterRun at a part left rest came walk)
  after_run_wants part left rest wants (ran.Held line) walk = stays_want (part ∷ left) (running walk None) (went.Held part.component line) (λ digest e. cc)
  after_run_wants part left rest wants (ran.Wants line wanted) walk = file_wanted (part ∷ left) walk wanted
  after_run_wants part left rest wants ran.Done walk = judging_wants part left _ rest wants
  after_run_wants part left rest wants (ran.Failed line cause) walk = fails_want part line cause _ rest wants
  after_run_wants part left rest wants ran.Memory walk = stays_want (part ∷ left) (running walk None) went.Memory (λ digest e. cc)

  running_wants : (part : Part) (left : List Part) (walk : Walk) (rest : Going) → Wanting rest → Wanting (FromRunning at a part left walk rest)
  running_wants part left walk rest wants past old digest new after (came, between, further, advances, h) = after_run_wants part left rest wants came further past between digest new after h

  starting_wants : (part : Part) (left : List Part) (rest : Going) → Wanting rest → Wanting (FromStarting at a part left rest)
  starting_wants part left rest wants past old digest new after (inl h) = stays_want (part ∷ left) starting went.Memory (λ digest e. cc) past old digest new after h
  starting_wants part left rest wants past old digest new after (inr (script, verdict, h)) = running_wants part left _ rest wants past old digest new after h

  after_coming_wants : (part : Part) (left : List Part) (rest : Going) → Wanting rest → (f : Found) → Wanting (AfterComing at a part left rest f)
  after_coming_wants part left rest wants found.Yes = starting_wants part left rest wants
  after_coming_wants part left rest wants found.No = wants
  after_coming_wants part left rest wants found.Failed = fails_want part 0 _ _ rest wants
  after_coming_wants part left rest wants found.Memory = stays_want (part ∷ left) coming went.Memory (λ digest e. cc)

  coming_wants : (part : Part) (left : List Part) (rest : Going) → Wanting rest → Wanting (FromComing at a part left rest)
  coming_wants part left rest wants past old digest new after (f, between, is, h) = after_coming_wants part left rest wants f past between digest new after h

  through_wants : (left : List Part) → Wanting (Through at a left)
  through_wants [] = ends_want
  through_wants (part ∷ left) = coming_wants part left (Through at a left) (through_wants left)

  stage_wants : (part : Part) (left : List Part) (stage : PlainStage) → Wanting (FromStage at a part left stage)
  stage_wants part left coming = coming_wants part left (Through at a left) (through_wants left)
  stage_wants part left starting = starting_wants part left (Through at a left) (through_wants left)
  stage_wants part left (running walk None) = running_wants part left walk (Through at a left) (through_wants left)
  stage_wants part left (running walk (Some wanted)) = file_wanted (part ∷ left) walk wanted
  stage_wants part left (judging exit) = judging_wants part left exit (Through at a left) (through_wants left)

  left_wants : (left : List Part) → Wanting (FromLeft at a left)
  left_wants [] = ends_want
  left_wants (part ∷ left) = stage_wants part left a.stage

  going_wants : (old : MachineView) (digest : List ℕ) (new : MachineView) (after : Option PlainAttempt) → GoesOn at a old (went.Wants digest) new after → WantsFile digest after
  going_wants old digest new after h = left_wants a.left a.past old digest new after h

-- ---- the turn
-- the attempt of this action is held, and wants the file
abbrev pub HoldsWanting : ℕ → List ℕ → Option PlainAttempt → Type 0
HoldsWanting id digest held = IsSomeAnd held (λ attempt. (attempt.action.id ≡ id) × (wanted_of attempt.stage ≡ Some digest))

abbrev Answered : Turned → State → Type 0
Answered a s = (id : ℕ) (began : Bool) (digest : List ℕ) → a ≡ turned.Wants id began digest → HoldsWanting id digest s.held

same_id : (id other : ℕ) (began now : Bool) (digest next : List ℕ) → turned.Wants id began digest ≡ turned.Wants other now next → (id ≡ other) × (digest ≡ next)
same_id id other began now digest next e = (cc, cc)

held_wanting : (attempt : PlainAttempt) (after : Option PlainAttempt) (id : ℕ) (digest next : List ℕ) → WantsFile digest after → IfSome after (SameAttempt attempt) → (attempt.action.id ≡ id) × (digest ≡ next) → HoldsWanting id next after
held_wanting attempt None id digest next wants same e = absurd wants
held_wanting attempt (Some then) id digest next wants same e = (ap (λ (x : Action). x.id) same.action ∙ e.0, wants ∙ ap (λ d. Some d) e.1)

keeps_wanting : (at : When) → Keeps at (λ s d. ⊤) (λ marks s d. ⊤) (λ began attempt s d. ⊤) (λ changed would s d. Answered would s) (λ a s d. Answered a s)
keeps_wanting at = record {
  memory = λ s d a id began digest e. absurd (cc);
  broken_done = λ s d broken pocket a is saves id began digest e. absurd (cc);
  broken_failed = λ s d broken pocket a is saves id began digest e. absurd (cc);
  broken_memory = λ s d broken pocket a is saves id began digest e. absurd (cc);
  resumes = λ s d attempt a none is. tt;
  held = λ began attempt s d component line machine after g goes id began' digest e. absurd (cc);
  wants = λ began attempt s d digest machine after g goes id began' next e.
      held_wanting attempt after id digest next (going_wants at attempt d.machine digest machine after goes) (going_same at attempt d.machine (went.Wants digest) machine after goes) (same_id attempt.action.id id began began' digest next e);
  ends = λ began attempt s d fail note machine after g goes id began' digest e. absurd (cc);
  lacks = λ began attempt s d machine after g goes id began' digest e. absurd (cc);
  tries = λ s d a none is. tt;
  tested = λ marks s d action machine m may asks. tt;
  marked = λ marks s d action machine m may asks. tt;
  test_failed = λ marks s d action machine m asks id began digest e. absurd (cc);
  test_memory = λ marks s d action machine m asks id began digest e. absurd (cc);
  passed = λ marks s d action machine m asks. tt;
  try_failed = λ marks s d action machine m asks id began digest e. absurd (cc);
  try_memory = λ marks s d action machine m asks id began digest e. absurd (cc);
  begun_done = λ marks s d action content machine pocket m due there among saves. tt;
  begun_failed = λ marks s d action machine pocket m due among saves id began digest e. absurd (cc);
  begun_memory = λ marks s d action machine pocket m due saves id began digest e. absurd (cc);
  no_memory = λ marks s d m id began digest e. absurd (cc);
  idle = λ marks s d m id began digest e. absurd (cc);
  reported_done = λ changed would s d pocket b can saves. b;
  reported_failed = λ changed would s d pocket b can saves id began digest e. absurd (cc);
  reported_memory = λ changed would s d pocket b can saves id began digest e. absurd (cc);
  changed_done = λ would s d pocket b saves. b;
  changed_failed = λ would s d pocket b saves id began digest e. absurd (cc);
  changed_memory = λ would s d pocket b saves id began digest e. absurd (cc);
  unchanged = λ would s d b. b;
}

pub turn_wanting : (at : When) (s s2 : State) (d d2 : Devices) (id : ℕ) (began : Bool) (digest : List ℕ) → Turn at s d (turned.Wants id began digest) s2 d2 → HoldsWanting id digest s2.held
turn_wanting at s s2 d d2 id began digest turn =
    turn_keeps at (λ s d. ⊤) (λ marks s d. ⊤) (λ began attempt s d. ⊤) (λ changed would s d. Answered would s) (λ a s d. Answered a s) (keeps_wanting at) (turned.Wants id began digest) s2 d2 s d
    (λ e. tt) (λ pocket saves. tt) (λ pocket saves id began digest e. absurd (cc)) (λ pocket saves id began digest e. absurd (cc)) turn id began digest refl
