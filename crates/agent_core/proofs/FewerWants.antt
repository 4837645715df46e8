-- An attempt that was given the file that came next wants fewer from then on.
use Rattle.std.proofs.Common.{◌≡◌, ℕ, ◌+◌, ◌-◌, ◌<◌, ◌≤◌, ℤ, Bool, true, false, List, [], ◌∷◌, ◌++◌, length, inl, inr, Option, Some, None, refl, sym, ap, subst, ◌∙◌, arith}
use Rattle.std.specs.Prelude.{sum_by, ⊤}
use Rattle.std.specs.Option.{option_map}
use Rattle.std.proofs.lemmas.List.Sums.{sum_by-cons}
use Rattle.script_run.specs.declared.cause.Cause.{Cause}
use Rattle.script_run.specs.declared.ran.Ran.{Ran}
use Rattle.script_run.specs.declared.ran.Ran.TheVariants as ran
use Rattle.script_run.specs.Asking.{When, known_in}
use Rattle.bf_machine.specs.Views.{MachineView}
use Rattle.script_run.specs.RunPlaces.{around, place_walk, wanted_at}
use Rattle.script_run.specs.ScriptWalks.{given_known, standing}
use Rattle.script_run.specs.Walks.{Known, Rest, Settled, Walk, Wants, supplied}
use Rattle.script_run.specs.declared.place.Place.{Place}
use Rattle.script_run.specs.declared.place.Place.TheVariants.{Ready, Wanting, Supplied, Placing, Doing, Waiting, Testing, Asking, Done, Failed}
use Rattle.agent_attempt.specs.declared.found.Found.{Found}
use Rattle.agent_attempt.specs.declared.found.Found.TheVariants as found
use Rattle.agent_attempt.specs.declared.went.Went.{Went}
use Rattle.agent_attempt.specs.declared.went.Went.TheVariants as went
use Rattle.agent_attempt.specs.declared.attempt.Part.{Part}
use Rattle.agent_attempt.specs.declared.attempt.Stage.{Stage}
use Rattle.agent_attempt.specs.declared.attempt.Stage.TheVariants as of_stage
use Rattle.agent_attempt.specs.Attempts.{PlainAttempt, PlainStage, Past, coming, starting, running, judging, issue_date}
use Rattle.script_run.specs.Advances.{Advances}
use Rattle.agent_attempt.specs.Going.{AfterComing, AfterJudging, AfterRun, Ends, Fails, FromJudging, FromLeft, FromRunning, FromStage, FromStarting, Going, GoesOn, Stays, Through, after_failure, exit_at, held_at, with_failure}
use Rattle.agent_attempt.specs.Stages.{AttemptState, shown_attempt, shown_stage}
use Rattle.agent_attempt.specs.Supplies.{StageTakes, Supplies, wanted_of}
use Rattle.agent_core.specs.declared.turned.Turned.{Turned}
use Rattle.agent_core.specs.declared.turned.Turned.TheVariants as turned
use Rattle.agent_core.specs.Agents.{AgentState, shown_state}
use Rattle.agent_core.specs.Wants.{AllFetchAtMost, AttemptWantsAtMost, FetchesAtMost, StageWantsAtMost, WantsAtMost, tail_of, want_in, wants_in}
use Rattle.agent_state.specs.Changes.{SuppliesHeld}
use Rattle.agent_state.specs.States.{State}
use Rattle.agent_core.specs.Devices.{Devices}
use Rattle.agent_core.specs.Turns.{Turn}
use Rattle.agent_core.proofs.FewWants.{script_few}
use Rattle.agent_core.proofs.TurnPoints.{Keeps, turn_keeps}

-- the file that a script wanted with its last answer comes next
abbrev pub WantsNext : PlainStage → Type 0
WantsNext (running rest (Some digest)) = (line : ℕ) × ((rest []).next ≡ Wants line digest)
WantsNext stage = ⊤

-- ---- walks
wants_later : (walk : Walk) (results more : List Settled) → wants_in (λ later. walk (results ++ later)) more ≤ wants_in walk (results ++ more)
wants_later walk [] more = omega arith
wants_later walk (result ∷ results) more = let later = wants_later (λ later. walk (result ∷ later)) results more in omega (arith, later)

wants_alike : (f g : Walk) → ((more : List Settled) → f more ≡ g more) → (results : List Settled) → wants_in f results ≡ wants_in g results
wants_alike f g same [] = ap (λ stop. want_in stop.next) (same [])
wants_alike f g same (result ∷ results) =
    let first : want_in (f []).next ≡ want_in (g []).next = ap (λ stop. want_in stop.next) (same []) in
    let later = wants_alike (λ more. f (result ∷ more)) (λ more. g (result ∷ more)) (λ more. same (result ∷ more)) results in
    omega (arith, first, later)

advanced_few : (at : When) (old : MachineView) (walk : Walk) (came : Ran) (new : MachineView) (left : Walk) (most : ℕ) → Advances at old walk came new left → WantsAtMost walk most → WantsAtMost left most
advanced_few at old walk came new left most p few more =
    let same = wants_alike left (λ later. walk (p.results ++ later)) p.same more in
    let later = wants_later walk p.results more in
    let whole = few (p.results ++ more) in
    omega (arith, same, later, whole)

-- a file was wanted, and one came: of what was left one is behind
supplied_few : (rest further : Walk) (line : ℕ) (digest : List ℕ) (bytes : Option (List ℕ)) (most : ℕ) → (rest []).next ≡ Wants line digest → ((more : List Settled) → further more ≡ rest (supplied bytes ∷ more)) → WantsAtMost rest most
    → (fewer : ℕ) × (most ≡ fewer + 1) × WantsAtMost further fewer
supplied_few rest further line digest bytes most next same few =
    let one : want_in (rest []).next ≡ 1 = ap want_in next in
    let now = few [] in (
      most - 1,
      omega (arith, one, now),
      λ results.
          let alike = wants_alike further (λ more. rest (supplied bytes ∷ more)) same results in
          let whole = few (supplied bytes ∷ results) in
          omega (arith, one, alike, whole),
    )

-- ---- what is left to want
abbrev total : List ℕ → ℕ
total mosts = sum_by (λ n. n) mosts

-- where a file is wanted, no more files than so many are left to want
abbrev Leaves : ℕ → Going → Type 0
Leaves most go = (past : Past) (old : MachineView) (digest : List ℕ) (new : MachineView) (then : PlainAttempt) → go past old (went.Wants digest) new (Some then) → (fewer : ℕ) × (fewer ≤ most) × AttemptWantsAtMost then fewer

weaker : (go : Going) (few most : ℕ) → few ≤ most → Leaves few go → Leaves most go
weaker go few most le leaves past old digest new then h =
    let x = leaves past old digest new then h in
    let below = x.1 in
    (x.0, omega (arith, le, below), x.2)

none_held : (then : PlainAttempt) → Some then ≡ None → ⊥
none_held then e = cc

pub same_attempt : (a b : PlainAttempt) → Some a ≡ Some b → a ≡ b
same_attempt a b e = cc

ends_leave : (most : ℕ) → Leaves most Ends
ends_leave most past old digest new then h = absurd (none_held then h.2)

module _ (at : When) (a : PlainAttempt) where
  -- the attempt stays where it is, and wants no file
  stays_leave : (left : List Part) (stage : PlainStage) (would : Went) (most : ℕ) → ((digest : List ℕ) → went.Wants digest ≡ would → ⊥) → Leaves most (Stays a left stage would)
  stays_leave left stage would most other past old digest new then h = absurd (other digest h.0)

  failure_leaves : (all : Bool) (rest : Going) (most : ℕ) → Leaves most rest → Leaves most (after_failure all rest)
  failure_leaves true rest most leaves = leaves
  failure_leaves false rest most leaves = ends_leave most

  fails_leave : (part : Part) (line : ℕ) (cause : Cause) (exit : Option ℤ) (rest : Going) (most : ℕ) → Leaves most rest → Leaves most (Fails a part line cause exit rest)
  fails_leave part line cause exit rest most leaves = λ past. failure_leaves a.action.all_members rest most leaves (with_failure part line cause exit past)

  after_judging_leaves : (part : Part) (left : List Part) (exit : Option ℤ) (rest : Going) (most : ℕ) → Leaves most rest → (f : Found) → Leaves most (AfterJudging a part left exit rest f)
  after_judging_leaves part left exit rest most leaves found.Yes = λ past. leaves (record past { exit = exit })
  after_judging_leaves part left exit rest most leaves found.No = fails_leave part 0 _ exit rest most leaves
  after_judging_leaves part left exit rest most leaves found.Failed = fails_leave part 0 _ exit rest most leaves
  after_judging_leaves part left exit rest most leaves found.Memory = stays_leave (part ∷ left) (judging exit) went.Memory most (λ digest e. cc)

  judging_leaves : (part : Part) (left : List Part) (exit : Option ℤ) (rest : Going) (most : ℕ) → Leaves most rest → Leaves most (FromJudging at a part left exit rest)
  judging_leaves part left exit rest most leaves past old digest new then (f, between, succeeds, h) = after_judging_leaves part left exit rest most leaves f past between digest new then h

  -- a file is wanted here
  wants_leave : (part : Part) (left : List Part) (walk : Walk) (wanted : List ℕ) (first : ℕ) (mosts : List ℕ) → WantsAtMost walk first → AllFetchAtMost left mosts
      → Leaves (first + total mosts) (Stays a (part ∷ left) (running walk (Some wanted)) (went.Wants wanted))
  wants_leave part left walk wanted first mosts few all past old digest new then h = (
    first + total mosts,
    omega arith,
    subst (λ x. AttemptWantsAtMost x (first + total mosts)) (sym (same_attempt then (held_at a (part ∷ left) (running walk (Some wanted)) past) h.2)) (first, mosts, few, all, refl),
  )

  after_run_leaves : (part : Part) (left : List Part) (rest : Going) (first : ℕ) (mosts : List ℕ) → AllFetchAtMost left mosts → Leaves (total mosts) rest → (came : Ran) (walk : Walk) → WantsAtMost walk first
      → Leaves (first + total mosts) (AfterRun at a part left rest came walk)
  after_run_leaves part left rest first mosts all leaves (ran.Held line) walk few = stays_leave (part ∷ left) (running walk None) (went.Held part.component line) (first + total mosts) (λ digest e. cc)
  after_run_leaves part left rest first mosts all leaves (ran.Wants line wanted) walk few = wants_leave part left walk wanted first mosts few all
  after_run_leaves part left rest first mosts all leaves ran.Done walk few = weaker (FromJudging at a part left (exit_at walk) rest) (total mosts) (first + total mosts) (omega arith) (judging_leaves part left (exit_at walk) rest (total mosts) leaves)
  after_run_leaves part left rest first mosts all leaves (ran.Failed line cause) walk few =
      weaker (Fails a part line cause (exit_at walk) rest) (total mosts) (first + total mosts) (omega arith) (fails_leave part line cause (exit_at walk) rest (total mosts) leaves)
  after_run_leaves part left rest first mosts all leaves ran.Memory walk few = stays_leave (part ∷ left) (running walk None) went.Memory (first + total mosts) (λ digest e. cc)

  running_leaves : (part : Part) (left : List Part) (walk : Walk) (rest : Going) (first : ℕ) (mosts : List ℕ) → AllFetchAtMost left mosts → Leaves (total mosts) rest → WantsAtMost walk first → Leaves (first + total mosts) (FromRunning at a part left walk rest)
  running_leaves part left walk rest first mosts all leaves few past old digest new then (came, between, further, advances, h) =
      after_run_leaves part left rest first mosts all leaves came further (advanced_few at old walk came between further first advances few) past between digest new then h

  starting_leaves : (part : Part) (left : List Part) (rest : Going) (first : ℕ) (mosts : List ℕ) → AllFetchAtMost left mosts → Leaves (total mosts) rest → FetchesAtMost part first → Leaves (first + total mosts) (FromStarting at a part left rest)
  starting_leaves part left rest first mosts all leaves fetches past old digest new then (inl h) = absurd (let e = h.0 in cc)
  starting_leaves part left rest first mosts all leaves fetches past old digest new then (inr (script, verdict, h)) =
      let few : length script.prefetches ≤ first = fetches script verdict in
      running_leaves part left (standing script (issue_date a)) rest first mosts all leaves
      (λ results. let all = script_few script (given_known (issue_date a)) results in omega (arith, few, all)) past old digest new then h

  after_coming_leaves : (part : Part) (left : List Part) (rest : Going) (first : ℕ) (mosts : List ℕ) → AllFetchAtMost left mosts → Leaves (total mosts) rest → FetchesAtMost part first → (f : Found) → Leaves (first + total mosts) (AfterComing at a part left rest f)
  after_coming_leaves part left rest first mosts all leaves fetches found.Yes = starting_leaves part left rest first mosts all leaves fetches
  after_coming_leaves part left rest first mosts all leaves fetches found.No = weaker rest (total mosts) (first + total mosts) (omega arith) leaves
  after_coming_leaves part left rest first mosts all leaves fetches found.Failed = weaker (Fails a part 0 _ None rest) (total mosts) (first + total mosts) (omega arith) (fails_leave part 0 _ None rest (total mosts) leaves)
  after_coming_leaves part left rest first mosts all leaves fetches found.Memory = stays_leave (part ∷ left) coming went.Memory (first + total mosts) (λ digest e. cc)

  through_leaves : (left : List Part) (mosts : List ℕ) → AllFetchAtMost left mosts → Leaves (total mosts) (Through at a left)
  through_leaves [] mosts all past old digest new then h = ends_leave (total mosts) past old digest new then h
  through_leaves (part ∷ left) [] all past old digest new then h = absurd all
  through_leaves (part ∷ left) (first ∷ mosts) (fetches, all) past old digest new then (f, between, is, h) =
      let sum : total (first ∷ mosts) ≡ first + total mosts = sum_by-cons (λ (n : ℕ). n) first mosts in
      let x = after_coming_leaves part left (Through at a left) first mosts all (through_leaves left mosts all) fetches f past between digest new then h in
      let below = x.1 in
      (x.0, omega (arith, sum, below), x.2)

-- ---- the attempt that was given a file
-- fewer files are left to want than so many
abbrev Fewer : ℕ → PlainAttempt → Type 0
Fewer most then = (fewer : ℕ) × (fewer < most) × AttemptWantsAtMost then fewer

going_fewer : (at : When) (given : PlainAttempt) (part : Part) (left : List Part) (walk : Walk) (first most : ℕ) (mosts : List ℕ) → given.left ≡ part ∷ left → given.stage ≡ running walk None
    → WantsAtMost walk first → AllFetchAtMost left mosts → most ≡ (first + 1) + total mosts
    → (old : MachineView) (digest : List ℕ) (new : MachineView) (then : PlainAttempt) → GoesOn at given old (went.Wants digest) new (Some then) → Fewer most then
going_fewer at given part left walk first most mosts parts stage few all sum old digest new then h =
    let staged : FromStage at given part left given.stage given.past old (went.Wants digest) new (Some then) = subst (λ l. FromLeft at given l given.past old (went.Wants digest) new (Some then)) parts h in
    let runs : FromRunning at given part left walk (Through at given left) given.past old (went.Wants digest) new (Some then) = subst (λ x. FromStage at given part left x given.past old (went.Wants digest) new (Some then)) stage staged in
    let x = running_leaves at given part left walk (Through at given left) first mosts all (through_leaves at given left mosts all) few given.past old digest new then runs in
    let below = x.1 in
    (x.0, omega (arith, sum, below), x.2)

not_wanted : (digest : List ℕ) (o : Option (List ℕ)) → o ≡ None → o ≡ Some digest → ⊥
not_wanted digest o none e = cc

module _ (at : When) (given : PlainAttempt) (digest : List ℕ) (bytes : Option (List ℕ)) (first most : ℕ) (mosts : List ℕ) (sum : most ≡ first + total mosts)
    (old : MachineView) (next : List ℕ) (new : MachineView) (then : PlainAttempt) (goes : GoesOn at given old (went.Wants next) new (Some then)) where
  stage_fewer : (stage now : PlainStage) (left : List Part) → given.stage ≡ now → given.left ≡ left → wanted_of stage ≡ Some digest → StageTakes stage bytes now → WantsNext stage → StageWantsAtMost left stage first → AllFetchAtMost (tail_of left) mosts → Fewer most then
  stage_fewer (running rest (Some wanted)) (running further later) [] is parts wants takes comes few all =
      absurd (none_held then (subst (λ l. FromLeft at given l given.past old (went.Wants next) new (Some then)) parts goes).2)
  stage_fewer (running rest (Some wanted)) (running further later) (part ∷ left) is parts wants takes comes few all =
      let x = supplied_few rest further comes.0 wanted bytes first comes.1 takes.1 few in
      let one : first ≡ x.0 + 1 = x.1 in
      going_fewer at given part left further x.0 most mosts parts (is ∙ ap (λ o. running further o) takes.0) x.2 all (omega (arith, one, sum)) old next new then goes
  stage_fewer (running rest None) now left is parts wants takes comes few all = absurd (not_wanted digest None refl wants)
  stage_fewer coming now left is parts wants takes comes few all = absurd (not_wanted digest None refl wants)
  stage_fewer starting now left is parts wants takes comes few all = absurd (not_wanted digest None refl wants)
  stage_fewer (judging exit) now left is parts wants takes comes few all = absurd (not_wanted digest None refl wants)
  stage_fewer (running rest wanted) now left is parts wants takes comes few all = absurd takes

supplied_fewer : (at : When) (attempt given : PlainAttempt) (digest : List ℕ) (bytes : Option (List ℕ)) (most : ℕ) → AttemptWantsAtMost attempt most → WantsNext attempt.stage → Supplies attempt digest bytes true given
    → (old : MachineView) (next : List ℕ) (new : MachineView) (then : PlainAttempt) → GoesOn at given old (went.Wants next) new (Some then) → Fewer most then
supplied_fewer at attempt given digest bytes most (first, mosts, few, all, sum) comes supplies old next new then goes =
    stage_fewer at given digest bytes first most mosts sum old next new then goes attempt.stage given.stage attempt.left refl (ap (λ (x : PlainAttempt). x.left) supplies.1.0) (supplies.0.0 refl) supplies.1.1 comes few all

-- ---- the turn
-- where a file is wanted, the attempt that is held has fewer left to want
abbrev WantsFewer : ℕ → Turned → State → Type 0
WantsFewer most a s = (id : ℕ) (began : Bool) (digest : List ℕ) (then : PlainAttempt) → a ≡ turned.Wants id began digest → s.held ≡ Some then → Fewer most then

keeps_fewer : (at : When) (given : PlainAttempt) (most : ℕ)
    → ((old : MachineView) (next : List ℕ) (new : MachineView) (then : PlainAttempt) → GoesOn at given old (went.Wants next) new (Some then) → Fewer most then)
    → Keeps at (λ s d. s.held ≡ Some given) (λ marks s d. ⊥) (λ began attempt s d. attempt ≡ given) (λ changed would s d. WantsFewer most would s) (λ a s d. WantsFewer most a s)
keeps_fewer at given most fewer = record {
  memory = λ s d held id began digest then e is. absurd (cc);
  broken_done = λ s d broken pocket held is saves id began digest then e now. absurd (cc);
  broken_failed = λ s d broken pocket held is saves id began digest then e now. absurd (cc);
  broken_memory = λ s d broken pocket held is saves id began digest then e now. absurd (cc);
  resumes = λ s d attempt held none is. same_attempt attempt given (sym is ∙ held);
  held = λ began attempt s d component line machine after g goes id began' digest then e now. absurd (cc);
  wants = λ began attempt s d digest machine after g goes id began' digest' then e now.
      fewer d.machine digest machine then (subst (λ o. GoesOn at given d.machine (went.Wants digest) machine o) now (subst (λ x. GoesOn at x d.machine (went.Wants digest) machine after) g goes));
  ends = λ began attempt s d fail note machine after g goes id began' digest then e now. absurd (cc);
  lacks = λ began attempt s d machine after g goes id began' digest then e now. absurd (cc);
  tries = λ s d held none is. none_held given (sym held ∙ is);
  tested = λ marks s d action machine none may asks. none;
  marked = λ marks s d action machine none may asks. none;
  test_failed = λ marks s d action machine none asks. absurd none;
  test_memory = λ marks s d action machine none asks. absurd none;
  passed = λ marks s d action machine none asks. none;
  try_failed = λ marks s d action machine none asks. absurd none;
  try_memory = λ marks s d action machine none asks. absurd none;
  begun_done = λ marks s d action content machine pocket none due there among saves. absurd none;
  begun_failed = λ marks s d action machine pocket none due among saves. absurd none;
  begun_memory = λ marks s d action machine pocket none due saves. absurd none;
  no_memory = λ marks s d none. absurd none;
  idle = λ marks s d none. absurd none;
  reported_done = λ changed would s d pocket b can saves. b;
  reported_failed = λ changed would s d pocket b can saves id began digest then e now. absurd (cc);
  reported_memory = λ changed would s d pocket b can saves id began digest then e now. absurd (cc);
  changed_done = λ would s d pocket b saves. b;
  changed_failed = λ would s d pocket b saves id began digest then e now. absurd (cc);
  changed_memory = λ would s d pocket b saves id began digest then e now. absurd (cc);
  unchanged = λ would s d b. b;
}

held_supplied : (attempt : PlainAttempt) (digest : List ℕ) (bytes : Option (List ℕ)) (held : Option PlainAttempt) → SuppliesHeld (Some attempt) digest bytes true held → (given : PlainAttempt) × (held ≡ Some given) × Supplies attempt digest bytes true given
held_supplied attempt digest bytes None h = absurd h
held_supplied attempt digest bytes (Some given) h = (given, refl, h)

pub turn_wants_fewer : (at : When) (s given s2 : State) (d d2 : Devices) (attempt then : PlainAttempt) (bytes : Option (List ℕ)) (id : ℕ) (digest next : List ℕ) (began : Bool) (most : ℕ) → s.held ≡ Some attempt
    → AttemptWantsAtMost attempt most → WantsNext attempt.stage → SuppliesHeld s.held digest bytes true given.held → Turn at given d (turned.Wants id began next) s2 d2 → s2.held ≡ Some then → Fewer most then
turn_wants_fewer at s given s2 d d2 attempt then bytes id digest next began most held few comes supplies turn now =
    let x = held_supplied attempt digest bytes given.held (subst (λ o. SuppliesHeld o digest bytes true given.held) held supplies) in
    turn_keeps at (λ s d. s.held ≡ Some x.0) (λ marks s d. ⊥) (λ began attempt s d. attempt ≡ x.0) (λ changed would s d. WantsFewer most would s) (λ a s d. WantsFewer most a s)
    (keeps_fewer at x.0 most (supplied_fewer at attempt x.0 digest bytes most few comes x.2)) (turned.Wants id began next) s2 d2 given d
    (λ e. x.1) (λ pocket saves. x.1) (λ pocket saves id began digest then e is. absurd (cc)) (λ pocket saves id began digest then e is. absurd (cc)) turn id began next then refl now

-- ---- attempts of the code
-- what the place of a run wants comes next
place_next : (place : Place) (rest : Rest) (known : Known) → WantsNext (running (place_walk place rest known) (wanted_at place))
place_next (Wanting fetch) rest known = (fetch.line, refl)
place_next Ready rest known = tt
place_next (Supplied fetch bytes) rest known = tt
place_next (Placing line name bytes) rest known = tt
place_next (Doing line what) rest known = tt
place_next (Waiting line process) rest known = tt
place_next (Testing arms other) rest known = tt
place_next (Asking arm arms other) rest known = tt
place_next Done rest known = tt
place_next (Failed line midway cause) rest known = tt

stage_next : (stage : Stage) → WantsNext (shown_stage stage)
stage_next of_stage.Coming = tt
stage_next of_stage.Starting = tt
stage_next (of_stage.Running run) = place_next run.place (around run) (known_in run.kept.scene)
stage_next (of_stage.Judging exit) = tt

held_next : (held : Option AttemptState) (attempt : PlainAttempt) → option_map shown_attempt held ≡ Some attempt → WantsNext attempt.stage
held_next None attempt is = absurd (cc)
held_next (Some own) attempt is = subst (λ (x : PlainAttempt). WantsNext x.stage) (same_attempt (shown_attempt own) attempt is) (stage_next own.stage)

-- the same of an agent's attempt
pub agent_wants_fewer : (at : When) (agent : AgentState) (given s2 : State) (d d2 : Devices) (attempt then : PlainAttempt) (bytes : Option (List ℕ)) (id : ℕ) (digest next : List ℕ) (began : Bool) (most : ℕ) → (shown_state agent).held ≡ Some attempt
    → AttemptWantsAtMost attempt most → SuppliesHeld (shown_state agent).held digest bytes true given.held → Turn at given d (turned.Wants id began next) s2 d2 → s2.held ≡ Some then → Fewer most then
agent_wants_fewer at agent given s2 d d2 attempt then bytes id digest next began most held few supplies turn now =
    turn_wants_fewer at (shown_state agent) given s2 d d2 attempt then bytes id digest next began most held few (held_next agent.held attempt held) supplies turn now
