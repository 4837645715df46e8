-- How many files are still asked for: the attempt that wants one can want fewer each time.
use Rattle.std.proofs.Common.{◌≡◌, ℕ, ◌+◌, ◌-◌, ◌<◌, ◌≤◌, Bool, true, List, [], ◌∷◌, length, Option, Some, None, refl, sym, ap, subst, ◌∙◌, arith, length-append}
use Rattle.std.specs.Prelude.{⊤, IsSomeAnd}
use Rattle.script_run.specs.Asking.{When}
use Rattle.agent_attempt.specs.Attempts.{PlainAttempt}
use Rattle.agent_attempt.specs.Supplies.{wanted_of}
use Rattle.agent_state.specs.Changes.{SuppliesHeld, SuppliesState}
use Rattle.agent_state.specs.States.{State}
use Rattle.agent_core.specs.declared.turned.Turned.{Turned}
use Rattle.agent_core.specs.declared.turned.Turned.TheVariants.{Idle, Interrupted, Held, Wants, Ended, MachineFault, PocketFault, Memory}
use Rattle.agent_core.specs.Agents.{AgentState, shown_state}
use Rattle.agent_core.specs.Devices.{Devices}
use Rattle.agent_core.specs.Turns.{Turn}
use Rattle.agent_core.specs.Wants.{AttemptWantsAtMost}
use Rattle.agent_core.proofs.Bounded.{agent_bounded}
use Rattle.turn_lines.specs.declared.giver.FileAsked.{FileAsked}
use Rattle.turn_lines.specs.declared.giver.Given.{Given}
use Rattle.turn_lines.specs.declared.with_files.Fetched.TheVariants as fetched
use Rattle.turn_lines.specs.Fetching.{FetchesFile}
use Rattle.turn_lines.specs.Givers.{Gives, GivesFile, GiverView, file}
use Rattle.turn_lines.specs.TurnsWithFiles.{given_of, with_begun}

-- ---- the laws on what attempts want
-- after a turn that wants a file the held attempt wants that one
abbrev pub WantsThat : Type 0
WantsThat = (at : When) (s s2 : State) (d d2 : Devices) (id : ℕ) (began : Bool) (digest : List ℕ) → Turn at s d (Wants id began digest) s2 d2
    → IsSomeAnd s2.held (λ (attempt : PlainAttempt). (attempt.action.id ≡ id) × (wanted_of attempt.stage ≡ Some digest))

-- one that was given its file and wants one again can want fewer from then on
abbrev pub WantsFewer : Type 0
WantsFewer = (at : When) (agent : AgentState) (given s2 : State) (d d2 : Devices) (attempt then : PlainAttempt) (bytes : Option (List ℕ)) (id : ℕ) (digest next : List ℕ) (began : Bool) (most : ℕ) → (shown_state agent).held ≡ Some attempt
    → AttemptWantsAtMost attempt most → SuppliesHeld (shown_state agent).held digest bytes true given.held → Turn at given d (Wants id began next) s2 d2 → s2.held ≡ Some then
    → (fewer : ℕ) × (fewer < most) × AttemptWantsAtMost then fewer

-- ---- a bound of an agent
bound_by : (agent : AgentState) (held : Option PlainAttempt) → (shown_state agent).held ≡ held → ℕ
bound_by agent None is = 0
bound_by agent (Some attempt) is = (agent_bounded agent attempt is).0

pub bound_of : AgentState → ℕ
bound_of agent = bound_by agent (shown_state agent).held refl

same_attempt : (a b : PlainAttempt) → Some a ≡ Some b → a ≡ b
same_attempt a b e = cc

bounded_by : (agent : AgentState) (held : Option PlainAttempt) (is : (shown_state agent).held ≡ held) (attempt : PlainAttempt) → held ≡ Some attempt → AttemptWantsAtMost attempt (bound_by agent held is)
unfolding bound_by
bounded_by agent None is attempt e = absurd (cc)
bounded_by agent (Some own) is attempt e =
    subst (λ x. AttemptWantsAtMost x (agent_bounded agent own is).0) (same_attempt own attempt e) (agent_bounded agent own is).1

bound_holds : (agent : AgentState) (attempt : PlainAttempt) → (shown_state agent).held ≡ Some attempt → AttemptWantsAtMost attempt (bound_of agent)
unfolding bound_of bound_by
bound_holds agent attempt held = bounded_by agent (shown_state agent).held refl attempt held

-- ---- what is left
-- Where a turn wants a file, and so many were asked for before, the held attempt wants that file, and it and those that were asked for are
-- no more than so many.
abbrev pub Few : ℕ → ℕ → Turned → State → Type 0
Few most asked (Wants id began digest) s =
    (attempt : PlainAttempt) × (s.held ≡ Some attempt) × (wanted_of attempt.stage ≡ Some digest) × (left : ℕ) × AttemptWantsAtMost attempt left × (left + asked ≤ most)
Few most asked answer s = ⊤

wanting : (held : Option PlainAttempt) (id : ℕ) (digest : List ℕ) → IsSomeAnd held (λ (attempt : PlainAttempt). (attempt.action.id ≡ id) × (wanted_of attempt.stage ≡ Some digest))
    → (attempt : PlainAttempt) × (held ≡ Some attempt) × (wanted_of attempt.stage ≡ Some digest)
wanting None id digest h = absurd h
wanting (Some attempt) id digest h = (attempt, refl, h.1)

pub few_first : (wants : WantsThat) (at : When) (s : State) (d : Devices) (a : Turned) (agent : AgentState) (d2 : Devices) (asked : ℕ) → Turn at s d a (shown_state agent) d2 → Few (bound_of agent + asked) asked a (shown_state agent)
few_first wants at s d (Wants id began digest) agent d2 asked turn =
    let x = wanting (shown_state agent).held id digest (wants at s (shown_state agent) d d2 id began digest turn) in
    (x.0, x.1, x.2, bound_of agent, bound_holds agent x.0 x.1, omega arith)
few_first wants at s d (Held id began component line) agent d2 asked turn = tt
few_first wants at s d (Ended id began outcome fail) agent d2 asked turn = tt
few_first wants at s d Idle agent d2 asked turn = tt
few_first wants at s d (Interrupted id) agent d2 asked turn = tt
few_first wants at s d MachineFault agent d2 asked turn = tt
few_first wants at s d PocketFault agent d2 asked turn = tt
few_first wants at s d Memory agent d2 asked turn = tt

-- what comes for the file that the held attempt wants is taken
held_takes : (held new : Option PlainAttempt) (attempt : PlainAttempt) (digest : List ℕ) (bytes : Option (List ℕ)) (taken : Bool) → held ≡ Some attempt → wanted_of attempt.stage ≡ Some digest → SuppliesHeld held digest bytes taken new → taken ≡ true
held_takes None new attempt digest bytes taken held wants h = absurd (cc)
held_takes (Some own) None attempt digest bytes taken held wants h = absurd h
held_takes (Some own) (Some new) attempt digest bytes taken held wants h =
    h.0.1 (subst (λ (x : PlainAttempt). wanted_of x.stage ≡ Some digest) (sym (same_attempt own attempt held)) wants)

few_taken : (most asked id : ℕ) (began : Bool) (digest : List ℕ) (s : State) (bytes : Option (List ℕ)) (taken : Bool) (s2 : State) → Few most asked (Wants id began digest) s → SuppliesState s digest bytes taken s2 → taken ≡ true
few_taken most asked id began digest s bytes taken s2 few h = held_takes s.held s2.held few.0 digest bytes taken few.1 few.2 h.1

few_next : (wants : WantsThat) (fewer : WantsFewer) (most asked id : ℕ) (began : Bool) (digest : List ℕ) (agent : AgentState) (bytes : Option (List ℕ)) (given : State) → Few most asked (Wants id began digest) (shown_state agent) → SuppliesState (shown_state agent) digest bytes true given
    → (at : When) (d : Devices) (next : ℕ) (now : Bool) (file : List ℕ) (s3 : State) (d3 : Devices) → Turn at given d (Wants next now file) s3 d3
    → (attempt : PlainAttempt) × (s3.held ≡ Some attempt) × (wanted_of attempt.stage ≡ Some file) × (left : ℕ) × AttemptWantsAtMost attempt left × (left + (asked + 1) ≤ most)
few_next wants fewer most asked id began digest agent bytes given few supplies at d next now file s3 d3 turn =
    let x = wanting s3.held next file (wants at given s3 d d3 next now file turn) in
    let less = fewer at agent given s3 d d3 few.0 x.0 bytes next digest file now few.3 few.1 few.4 supplies.1 turn x.1 in
    let below : less.0 < few.3 = less.1 in
    let all : few.3 + asked ≤ most = few.5 in
    (x.0, x.1, x.2, less.0, less.2, omega (arith, below, all))

few_more : (wants : WantsThat) (fewer : WantsFewer) (most asked id : ℕ) (began : Bool) (digest : List ℕ) (agent : AgentState) (bytes : Option (List ℕ)) (given : State) → Few most asked (Wants id began digest) (shown_state agent) → SuppliesState (shown_state agent) digest bytes true given
    → (at : When) (d : Devices) (a : Turned) (s3 : State) (d3 : Devices) → Turn at given d a s3 d3 → Few most (asked + 1) (with_begun began a) s3
few_more wants fewer most asked id began digest agent bytes given few supplies at d (Wants next now file) s3 d3 turn =
    few_next wants fewer most asked id began digest agent bytes given few supplies at d next now file s3 d3 turn
few_more wants fewer most asked id began digest agent bytes given few supplies at d (Held next now component line) s3 d3 turn = tt
few_more wants fewer most asked id began digest agent bytes given few supplies at d (Ended next now outcome fail) s3 d3 turn = tt
few_more wants fewer most asked id began digest agent bytes given few supplies at d Idle s3 d3 turn = tt
few_more wants fewer most asked id began digest agent bytes given few supplies at d (Interrupted next) s3 d3 turn = tt
few_more wants fewer most asked id began digest agent bytes given few supplies at d MachineFault s3 d3 turn = tt
few_more wants fewer most asked id began digest agent bytes given few supplies at d PocketFault s3 d3 turn = tt
few_more wants fewer most asked id began digest agent bytes given few supplies at d Memory s3 d3 turn = tt

-- one more was asked for
asked_more : {S : Type 0} (gives : Gives S) (digest : List ℕ) (g1 : GiverView S) (answer : Given) (g2 : GiverView S) → GivesFile gives digest g1 answer g2 → length g2.asked ≡ length g1.asked + 1
asked_more gives digest g1 answer g2 gave =
    ap (λ (l : List FileAsked). length l) gave.asked ∙ length-append g1.asked (file digest answer ∷ [])

-- what came for the file of a turn that wants one is taken
pub came_taken : {S : Type 0} (gives : Gives S) (most asked : ℕ) (a : Turned) (id : ℕ) (began : Bool) (digest : List ℕ) (s : State) (g1 : GiverView S) (s2 : State) (g2 : GiverView S) → a ≡ Wants id began digest
    → Few most asked a s → FetchesFile gives digest s g1 fetched.Came s2 g2
    → (bytes : Option (List ℕ)) × GivesFile gives digest g1 (given_of bytes) g2 × SuppliesState s digest bytes true s2
came_taken gives most asked a id began digest s g1 s2 g2 is few came =
    let wanting = subst (λ x. Few most asked x s) is few in
    let taken = few_taken most asked id began digest s came.0 came.1 s2 wanting came.3 in
    (came.0, came.2, subst (λ t. SuppliesState s digest came.0 t s2) taken came.3)

pub few_came : {S : Type 0} (gives : Gives S) (wants : WantsThat) (fewer : WantsFewer) (most : ℕ) (a : Turned) (id : ℕ) (began : Bool) (digest : List ℕ) (agent : AgentState) (g1 : GiverView S) (given : State) (g2 : GiverView S) → a ≡ Wants id began digest
    → Few most (length g1.asked) a (shown_state agent) → FetchesFile gives digest (shown_state agent) g1 fetched.Came given g2
    → (at : When) (d : Devices) (next now : Turned) (s3 : State) (d3 : Devices) → Turn at given d next s3 d3 → now ≡ with_begun began next → Few most (length g2.asked) now s3
few_came gives wants fewer most a id began digest agent g1 given g2 is few came at d next now s3 d3 turn e =
    let all = came_taken gives most (length g1.asked) a id began digest (shown_state agent) g1 given g2 is few came in
    let wanting = subst (λ x. Few most (length g1.asked) x (shown_state agent)) is few in
    let more = few_more wants fewer most (length g1.asked) id began digest agent all.0 given wanting all.2 at d next s3 d3 turn in
    subst (λ n. Few most n now s3) (sym (asked_more gives digest g1 (given_of all.0) g2 all.1)) (subst (λ x. Few most (length g1.asked + 1) x s3) (sym e) more)

-- fewer are left where one more was asked for
pub fewer_left : {S : Type 0} (gives : Gives S) (most : ℕ) (a : Turned) (id : ℕ) (began : Bool) (digest : List ℕ) (s : State) (g1 : GiverView S) (s2 : State) (g2 : GiverView S) → a ≡ Wants id began digest
    → Few most (length g1.asked) a s → FetchesFile gives digest s g1 fetched.Came s2 g2 → most + 1 - length g2.asked < most + 1 - length g1.asked
fewer_left gives most a id began digest s g1 s2 g2 is few came =
    let wanting = subst (λ x. Few most (length g1.asked) x s) is few in
    let all : wanting.3 + length g1.asked ≤ most = wanting.5 in
    let more : length g2.asked ≡ length g1.asked + 1 = asked_more gives digest g1 (given_of came.0) g2 came.2 in
    omega (arith, all, more)
