-- Where nothing fails and memory lasts, a script and an attempt go on in one way on a machine that tells its world.
use Rattle.std.proofs.Common.{◌≡◌, ◌≢◌, ℕ, ◌-◌, ◌^◌, ◌<◌, ℤ, Bool, true, false, List, [], ◌∷◌, ◌++◌, inl, inr, Option, Some, None, refl, sym, ap, subst, ◌∙◌, arith}
use Rattle.std.specs.Prelude.{Ok, Result}
use Rattle.bf_world.specs.declared.command.Polled.{Polled}
use Rattle.bf_world.specs.declared.command.Polled.TheVariants as of_poll
use Rattle.rel_eval.specs.declared.told.Truth.TheVariants as truth
use Rattle.script_text.specs.declared.error.ScriptError.{ScriptError}
use Rattle.script_text.specs.Scripts.{IsVerdict, PlainScript}
use Rattle.script_run.specs.declared.cause.Cause.{Cause}
use Rattle.script_run.specs.declared.ran.Ran.{Ran}
use Rattle.script_run.specs.declared.ran.Ran.TheVariants as ran
use Rattle.script_run.specs.Walks.{Known, Settled, said, judged, acted, polled, Next, Wants, Says, Tests, Pauses, Does, Polls, Ends, Fails, Walk}
use Rattle.script_run.specs.ScriptWalks.{standing}
use Rattle.bf_machine.specs.Views.{IsLater, MachineView}
use Rattle.script_run.specs.Asking.{When, scene_of}
use Rattle.script_run.specs.RunSteps.{Any, Comes, Holds, Settles, Stops}
use Rattle.agent_attempt.specs.declared.found.Found.{Found}
use Rattle.agent_attempt.specs.declared.found.Found.TheVariants as found
use Rattle.agent_attempt.specs.declared.went.Went.{Went}
use Rattle.agent_attempt.specs.declared.went.Went.TheVariants as went
use Rattle.agent_attempt.specs.declared.attempt.Part.{Part}
use Rattle.agent_attempt.specs.Attempts.{PlainAttempt, PlainStage, Past, coming, starting, running, judging, issue_date}
use Rattle.script_run.specs.Advances.{Advances}
use Rattle.agent_attempt.specs.Going.{AfterComing, AfterJudging, AfterRun, Ends as AttemptEnds, Fails as AttemptFails, FromComing, FromJudging, FromLeft, FromRunning, FromStage, FromStarting, Going, GoesOn, Stays, Through, after_failure, exit_at, with_failure}
use Rattle.agent_attempt.proofs.GoingPoints.{Later, later_points, after_coming_leads, after_judging_leads, after_run_leads, through_leads}
use Rattle.agent_attempt.proofs.Lasting.{advances_later, comes_later, settles_later, stops_later}
use Rattle.agent_core.proofs.OneAsking.{fixlet_once, succeeds_once}
use Rattle.agent_core.proofs.OneLook.{Calm, OnePlan, SameView, acts_same, judges_same, polls_same, says_same}
use Rattle.agent_attempt.proofs.Quiet.{fixlet_quiet, succeeds_quiet}

-- the law of lines that are scripts
abbrev pub OneVerdict : Type 0
OneVerdict = (lines : List (List ℕ)) (x y : Result PlainScript ScriptError) → IsVerdict lines x → IsVerdict lines y → x ≡ y

-- ---- one stop
abbrev stop_at : Next → Ran
stop_at (Wants n digest) = ran.Wants n digest
stop_at (Pauses n text) = ran.Held n
stop_at (Polls n process) = ran.Held n
stop_at Ends = ran.Done
stop_at (Fails n midway cause) = ran.Failed n cause
stop_at _ = ran.Memory

held_as : (at : When) (known : Known) (next : Next) (n : ℕ) (old new : MachineView) → Holds at known next n old new → ran.Held n ≡ stop_at next
held_as at known (Pauses own text) n old new h = ap ran.Held h.0
held_as at known (Polls own process) n old new h = ap ran.Held h.0
held_as at known next n old new h = absurd h

stops_as : (at : When) (old : MachineView) (f : Walk) (a : Ran) (new : MachineView) → Stops at old f a new → a ≢ ran.Memory → a ≡ stop_at (f []).next
stops_as at old f (ran.Held n) new h ample = held_as at (f []).known (f []).next n old new h
stops_as at old f (ran.Wants n digest) new h ample = sym (ap stop_at h.0)
stops_as at old f ran.Done new h ample = sym (ap stop_at h.0)
stops_as at old f (ran.Failed n cause) new h ample = sym (ap stop_at h.1)
stops_as at old f ran.Memory new h ample = absurd (ample refl)

same_ok : (x y : PlainScript) (a b : Result PlainScript ScriptError) → a ≡ Ok x → b ≡ Ok y → a ≡ b → x ≡ y
same_ok x y a b is is' e = cc

module _ (plan : OnePlan) (verdict : OneVerdict) (faults : ℕ) (low : faults < 2 ^ 64 - 1) (at : When) where
  abbrev Same : MachineView → MachineView → Type 0
  Same new other = SameView plan faults low new other

  settles_same : (known : Known) (next : Next) (old : MachineView) (r s : Settled) (new other : MachineView) → Calm faults old → Settles at known next old r new → Settles at known next old s other → new.faults ≡ faults → other.faults ≡ faults
      → (r ≡ s) × Same new other
  settles_same known (Says n midway text) old (said a) (said b) new other calm p q e e' = let same = says_same plan faults low (scene_of at known) text old a b new other calm p.1 q.1 e e' p.0 q.0 in (ap said same.0, same.1)
  settles_same known (Says n midway text) old (said a) s new other calm p q e e' = absurd q
  settles_same known (Tests n text) old (judged a) (judged b) new other calm p q e e' = let same = judges_same plan faults low (scene_of at known) text old a b new other calm p.1 q.1 e e' p.0 q.0 in (ap judged same.0, same.1)
  settles_same known (Tests n text) old (judged a) s new other calm p q e e' = absurd q
  settles_same known (Pauses n text) old (judged a) (judged b) new other calm p q e e' = let same = judges_same plan faults low (scene_of at known) text old a b new other calm p.2 q.2 e e' p.0 q.0 in (ap judged same.0, same.1)
  settles_same known (Pauses n text) old (judged a) s new other calm p q e e' = absurd q
  settles_same known (Does n midway command) old (acted a) (acted b) new other calm p q e e' = let same = acts_same plan faults low at.moment command old a b new other calm p.1 q.1 e e' p.0 q.0 in (ap acted same.0, same.1)
  settles_same known (Does n midway command) old (acted a) s new other calm p q e e' = absurd q
  settles_same known (Polls n process) old (polled a) (polled b) new other calm p q e e' = let same = polls_same plan faults low process old a b new other calm p.1 q.1 e e' in (ap polled same.0, same.1)
  settles_same known (Polls n process) old (polled a) s new other calm p q e e' = absurd q
  settles_same known next old r s new other calm p q e e' = absurd p

  holds_same : (known : Known) (next : Next) (n : ℕ) (old new other : MachineView) → Calm faults old → Holds at known next n old new → Holds at known next n old other → new.faults ≡ faults → other.faults ≡ faults → Same new other
  holds_same known (Pauses own text) n old new other calm p q e e' = (judges_same plan faults low (scene_of at known) text old truth.True truth.True new other calm p.1 q.1 e e' (λ m. absurd (cc)) (λ m. absurd (cc))).1
  holds_same known (Polls own process) n old new other calm p q e e' = (polls_same plan faults low process old of_poll.Running of_poll.Running new other calm p.1 q.1 e e').1
  holds_same known next n old new other calm p q e e' = absurd p

  left_same : (old new other : MachineView) → Calm faults old → new ≡ old → other ≡ old → Same new other
  left_same old new other calm p q = (p ∙ sym q, subst (Calm faults) (sym p) calm)

  stops_view : (f : Walk) (a : Ran) (old new other : MachineView) → Calm faults old → Stops at old f a new → Stops at old f a other → new.faults ≡ faults → other.faults ≡ faults → a ≢ ran.Memory → Same new other
  stops_view f (ran.Held n) old new other calm p q e e' ample = holds_same (f []).known (f []).next n old new other calm p q e e'
  stops_view f (ran.Wants n digest) old new other calm p q e e' ample = left_same old new other calm p.1 q.1
  stops_view f ran.Done old new other calm p q e e' ample = left_same old new other calm p.1 q.1
  stops_view f (ran.Failed n cause) old new other calm p q e e' ample = left_same old new other calm p.2 q.2
  stops_view f ran.Memory old new other calm p q e e' ample = absurd (ample refl)

  stops_same : (f : Walk) (a b : Ran) (old new other : MachineView) → Calm faults old → Stops at old f a new → Stops at old f b other → new.faults ≡ faults → other.faults ≡ faults → a ≢ ran.Memory → b ≢ ran.Memory → (a ≡ b) × Same new other
  stops_same f a b old new other calm p q e e' ample ample' =
      let same : a ≡ b = stops_as at old f a new p ample ∙ sym (stops_as at old f b other q ample') in
      (same, stops_view f a old new other calm p (subst (λ x. Stops at old f x other) (sym same) q) e e' ample)

  -- what holds a line doesn't come to a result
  polled_as : (a : Polled) → polled a ≡ polled of_poll.Running → a ≡ of_poll.Running
  polled_as a e = cc

  held_or_settled : (known : Known) (next : Next) (n : ℕ) (old : MachineView) (r : Settled) (new other : MachineView) → Calm faults old → Settles at known next old r new → Holds at known next n old other → new.faults ≡ faults → other.faults ≡ faults → ⊥
  held_or_settled known (Pauses own text) n old (judged a) new other calm p q e e' =
      p.1 (judges_same plan faults low (scene_of at known) text old a truth.True new other calm p.2 q.1 e e' p.0 (λ m. absurd (cc))).0
  held_or_settled known (Polls own process) n old (polled a) new other calm p q e e' = p.0 (polls_same plan faults low process old a of_poll.Running new other calm p.1 q.1 e e').0
  held_or_settled known (Says own midway text) n old r new other calm p q e e' = absurd q
  held_or_settled known (Tests own text) n old r new other calm p q e e' = absurd q
  held_or_settled known (Does own midway command) n old r new other calm p q e e' = absurd q
  held_or_settled known next n old r new other calm p q e e' = absurd p

  stopped_or_settled : (f : Walk) (old : MachineView) (r : Settled) (new : MachineView) (a : Ran) (other : MachineView) → Calm faults old → Settles at (f []).known (f []).next old r new → Stops at old f a other → new.faults ≡ faults → other.faults ≡ faults
      → a ≢ ran.Memory → ⊥
  stopped_or_settled f old r new (ran.Held n) other calm p q e e' ample = held_or_settled (f []).known (f []).next n old r new other calm p q e e'
  stopped_or_settled f old r new (ran.Wants n digest) other calm p q e e' ample = let S : Next → Type 0 = λ x. Settles at (f []).known x old r new in subst S q.0 p
  stopped_or_settled f old r new ran.Done other calm p q e e' ample = let S : Next → Type 0 = λ x. Settles at (f []).known x old r new in subst S q.0 p
  stopped_or_settled f old r new (ran.Failed n cause) other calm p q e e' ample = let S : Next → Type 0 = λ x. Settles at (f []).known x old r new in subst S q.1 p
  stopped_or_settled f old r new ran.Memory other calm p q e e' ample = ample refl

  -- ---- one advance
  abbrev SameAdvance : List Settled → List Settled → Ran → Ran → MachineView → MachineView → Type 0
  SameAdvance xs ys a b new other = (xs ≡ ys) × (a ≡ b) × Same new other

  comes_same : (f : Walk) (old : MachineView) (xs ys : List Settled) (mid far : MachineView) (a b : Ran) (new other : MachineView) → Calm faults old → Comes Any at old f xs mid → Comes Any at old f ys far
      → Stops at mid (λ more. f (xs ++ more)) a new → Stops at far (λ more. f (ys ++ more)) b other → new.faults ≡ faults → other.faults ≡ faults → a ≢ ran.Memory → b ≢ ran.Memory → SameAdvance xs ys a b new other
  comes_same f old [] [] mid far a b new other calm c d s t e e' ample ample' =
      let same = stops_same f a b old new other calm (subst (λ v. Stops at v f a new) c s) (subst (λ v. Stops at v f b other) d t) e e' ample ample' in (refl, same.0, same.1)
  comes_same f old [] (y ∷ ys) mid far a b new other calm c (any, (between, settles, rest)) s t e e' ample ample' =
      let one = (settles_later at (f []).known (f []).next old y between settles).faults in
      let two = (comes_later Any at (λ more. f (y ∷ more)) between ys far rest).faults in
      let three = (stops_later at far (λ more. f (y ∷ (ys ++ more))) b other t).faults in
      let start = calm.count in
      absurd (stopped_or_settled f old y between a new calm settles (subst (λ v. Stops at v f a new) c s) (omega (arith, one, two, three, start, e')) e ample)
  comes_same f old (x ∷ xs) [] mid far a b new other calm (any, (between, settles, rest)) d s t e e' ample ample' =
      let one = (settles_later at (f []).known (f []).next old x between settles).faults in
      let two = (comes_later Any at (λ more. f (x ∷ more)) between xs mid rest).faults in
      let three = (stops_later at mid (λ more. f (x ∷ (xs ++ more))) a new s).faults in
      let start = calm.count in
      absurd (stopped_or_settled f old x between b other calm settles (subst (λ v. Stops at v f b other) d t) (omega (arith, one, two, three, start, e)) e' ample')
  comes_same f old (x ∷ xs) (y ∷ ys) mid far a b new other calm (any, (between, settles, rest)) (any', (between', settles', rest')) s t e e' ample ample' =
      let one = (settles_later at (f []).known (f []).next old x between settles).faults in
      let two = (comes_later Any at (λ more. f (x ∷ more)) between xs mid rest).faults in
      let three = (stops_later at mid (λ more. f (x ∷ (xs ++ more))) a new s).faults in
      let one' = (settles_later at (f []).known (f []).next old y between' settles').faults in
      let two' = (comes_later Any at (λ more. f (y ∷ more)) between' ys far rest').faults in
      let three' = (stops_later at far (λ more. f (y ∷ (ys ++ more))) b other t).faults in
      let start = calm.count in
      let same = settles_same (f []).known (f []).next old x y between between' calm settles settles' (omega (arith, one, two, three, start, e)) (omega (arith, one', two', three', start, e')) in
      let R : Settled → MachineView → Type 0 = λ z v. Comes Any at v (λ more. f (z ∷ more)) ys far in
      let T : Settled → Type 0 = λ z. Stops at far (λ more. f (z ∷ (ys ++ more))) b other in
      let later = comes_same (λ more. f (x ∷ more)) between xs ys mid far a b new other same.1.1 rest (subst (λ z. R z between) (sym same.0) (subst (R y) (sym same.1.0) rest')) s (subst T (sym same.0) t) e e' ample ample' in
      (ap (λ z. z ∷ xs) same.0 ∙ ap (λ l. y ∷ l) later.0, later.1, later.2)

  advances_same : (f : Walk) (old : MachineView) (a b : Ran) (new other : MachineView) (left further : Walk) → Calm faults old → Advances at old f a new left → Advances at old f b other further → new.faults ≡ faults → other.faults ≡ faults
      → a ≢ ran.Memory → b ≢ ran.Memory → (a ≡ b) × Same new other × (left ≡ further)
  advances_same f old a b new other left further calm p q e e' ample ample' =
      let same = comes_same f old p.results q.results p.between q.between a b new other calm p.comes q.comes p.stops q.stops e e' ample ample' in
      let stands : (more : List Settled) → left more ≡ further more = λ more. p.same more ∙ ap (λ l. f (l ++ more)) same.0 ∙ sym (q.same more) in
      (same.1, same.2, λ j more. stands more j)

  -- ---- one way on
  -- the two come to one answer and one view, and the same is held
  abbrev SameWay : Went → Went → MachineView → MachineView → Option PlainAttempt → Option PlainAttempt → Type 0
  SameWay answer would new other after then = (answer ≡ would) × Same new other × (after ≡ then)

  abbrev Once : Going → Type 0
  Once go = (past : Past) (old : MachineView) (answer would : Went) (new other : MachineView) (after then : Option PlainAttempt) → Calm faults old → go past old answer new after → go past old would other then
      → new.faults ≡ faults → other.faults ≡ faults → answer ≢ went.Memory → would ≢ went.Memory → SameWay answer would new other after then

  ends_once : Once AttemptEnds
  ends_once past old answer would new other after then calm p q e e' ample ample' = (p.0 ∙ sym q.0, left_same old new other calm p.1 q.1, p.2 ∙ sym q.2)

  stays_once : (a : PlainAttempt) (left : List Part) (stage : PlainStage) (would : Went) → Once (Stays a left stage would)
  stays_once a left stage says past old answer would new other after then calm p q e e' ample ample' = (p.0 ∙ sym q.0, left_same old new other calm p.1 q.1, p.2 ∙ sym q.2)

  failure_once : (all : Bool) (rest : Going) → Once rest → Once (after_failure all rest)
  failure_once true rest once = once
  failure_once false rest once = ends_once

  fails_once : (a : PlainAttempt) (part : Part) (line : ℕ) (cause : Cause) (exit : Option ℤ) (rest : Going) → Once rest → Once (AttemptFails a part line cause exit rest)
  fails_once a part line cause exit rest once = λ past. failure_once a.action.all_members rest once (with_failure part line cause exit past)

  after_judging_once : (a : PlainAttempt) (part : Part) (left : List Part) (exit : Option ℤ) (rest : Going) → Once rest → (f : Found) → Once (AfterJudging a part left exit rest f)
  after_judging_once a part left exit rest once found.Yes = λ past. once (record past { exit = exit })
  after_judging_once a part left exit rest once found.No = fails_once a part 0 _ exit rest once
  after_judging_once a part left exit rest once found.Failed = fails_once a part 0 _ exit rest once
  after_judging_once a part left exit rest once found.Memory = stays_once a (part ∷ left) (judging exit) _

  -- what comes later doesn't lower the machine's counts
  abbrev Lasts : Going → Type 0
  Lasts go = (past : Past) (old : MachineView) (answer : Went) (new : MachineView) (after : Option PlainAttempt) → go past old answer new after → IsLater old new

  judging_once : (a : PlainAttempt) (part : Part) (left : List Part) (exit : Option ℤ) (rest : Going) → Lasts rest → Once rest → Once (FromJudging at a part left exit rest)
  judging_once a part left exit rest lasts once past old answer would new other after then calm (f, mid, p, h) (g, far, q, k) e e' ample ample' =
      let one = (succeeds_quiet at part.fixlet part.fixlet.success old f mid p).only.later in
      let two = (after_judging_leads at a Later (later_points at a) part left exit rest lasts f past mid answer new after h).faults in
      let one' = (succeeds_quiet at part.fixlet part.fixlet.success old g far q).only.later in
      let two' = (after_judging_leads at a Later (later_points at a) part left exit rest lasts g past far would other then k).faults in
      let start = calm.count in
      let same = succeeds_once plan faults low at part.fixlet part.fixlet.success old f g mid far calm p q (omega (arith, one, two, start, e)) (omega (arith, one', two', start, e'))
      (λ m. ample (subst (λ x. AfterJudging a part left exit rest x past mid answer new after) m h).0) (λ m. ample' (subst (λ x. AfterJudging a part left exit rest x past far would other then) m k).0) in
      after_judging_once a part left exit rest once f past mid answer would new other after then same.1.1 h
      (subst (λ x. AfterJudging a part left exit rest x past mid would other then) (sym same.0) (subst (λ v. AfterJudging a part left exit rest g past v would other then) (sym same.1.0) k)) e e' ample ample'

  after_run_once : (a : PlainAttempt) (part : Part) (left : List Part) (rest : Going) → Lasts rest → Once rest → (came : Ran) (walk : Walk) → Once (AfterRun at a part left rest came walk)
  after_run_once a part left rest lasts once (ran.Held line) walk = stays_once a (part ∷ left) (running walk None) _
  after_run_once a part left rest lasts once (ran.Wants line digest) walk = stays_once a (part ∷ left) (running walk (Some digest)) _
  after_run_once a part left rest lasts once ran.Done walk = judging_once a part left (exit_at walk) rest lasts once
  after_run_once a part left rest lasts once (ran.Failed line cause) walk = fails_once a part line cause (exit_at walk) rest once
  after_run_once a part left rest lasts once ran.Memory walk = stays_once a (part ∷ left) (running walk None) _

  running_once : (a : PlainAttempt) (part : Part) (left : List Part) (walk : Walk) (rest : Going) → Lasts rest → Once rest → Once (FromRunning at a part left walk rest)
  running_once a part left walk rest lasts once past old answer would new other after then calm (x, mid, one_left, p, h) (y, far, other_left, q, k) e e' ample ample' =
      let ample_x : x ≢ ran.Memory = λ m. ample (subst (λ z. AfterRun at a part left rest z one_left past mid answer new after) m h).0 in
      let ample_y : y ≢ ran.Memory = λ m. ample' (subst (λ z. AfterRun at a part left rest z other_left past far would other then) m k).0 in
      let one = (advances_later at old walk x mid one_left p).faults in
      let two = (after_run_leads at a Later (later_points at a) part left rest lasts x one_left past mid answer new after h).faults in
      let one' = (advances_later at old walk y far other_left q).faults in
      let two' = (after_run_leads at a Later (later_points at a) part left rest lasts y other_left past far would other then k).faults in
      let start = calm.count in
      let same = advances_same walk old x y mid far one_left other_left calm p q (omega (arith, one, two, start, e)) (omega (arith, one', two', start, e')) ample_x ample_y in
      let met : AfterRun at a part left rest y one_left past far would other then = subst (λ w. AfterRun at a part left rest y w past far would other then) (sym same.2) k in
      after_run_once a part left rest lasts once x one_left past mid answer would new other after then same.1.1 h
      (subst (λ z. AfterRun at a part left rest z one_left past mid would other then) (sym same.0) (subst (λ v. AfterRun at a part left rest y one_left past v would other then) (sym same.1.0) met)) e e' ample ample'

  starting_once : (a : PlainAttempt) (part : Part) (left : List Part) (rest : Going) → Lasts rest → Once rest → Once (FromStarting at a part left rest)
  starting_once a part left rest lasts once past old answer would new other after then calm (inl p) q e e' ample ample' = absurd (ample p.0)
  starting_once a part left rest lasts once past old answer would new other after then calm (inr p) (inl q) e e' ample ample' = absurd (ample' q.0)
  starting_once a part left rest lasts once past old answer would new other after then calm (inr (x, is, p)) (inr (y, is', q)) e e' ample ample' =
      let same : x ≡ y = same_ok x y (Ok x) (Ok y) refl refl (verdict part.fixlet.script (Ok x) (Ok y) is is') in
      running_once a part left (standing x (issue_date a)) rest lasts once past old answer would new other after then calm p
      (subst (λ z. FromRunning at a part left (standing z (issue_date a)) rest past old would other then) (sym same) q) e e' ample ample'

  after_coming_once : (a : PlainAttempt) (part : Part) (left : List Part) (rest : Going) → Lasts rest → Once rest → (f : Found) → Once (AfterComing at a part left rest f)
  after_coming_once a part left rest lasts once found.Yes = starting_once a part left rest lasts once
  after_coming_once a part left rest lasts once found.No = once
  after_coming_once a part left rest lasts once found.Failed = fails_once a part 0 _ _ rest once
  after_coming_once a part left rest lasts once found.Memory = stays_once a (part ∷ left) coming _

  coming_once : (a : PlainAttempt) (part : Part) (left : List Part) (rest : Going) → Lasts rest → Once rest → Once (FromComing at a part left rest)
  coming_once a part left rest lasts once past old answer would new other after then calm (f, mid, p, h) (g, far, q, k) e e' ample ample' =
      let one = (fixlet_quiet at part.fixlet old f mid p).only.later in
      let two = (after_coming_leads at a Later (later_points at a) part left rest lasts f past mid answer new after h).faults in
      let one' = (fixlet_quiet at part.fixlet old g far q).only.later in
      let two' = (after_coming_leads at a Later (later_points at a) part left rest lasts g past far would other then k).faults in
      let start = calm.count in
      let same = fixlet_once plan faults low at part.fixlet old f g mid far calm p q (omega (arith, one, two, start, e)) (omega (arith, one', two', start, e'))
      (λ m. ample (subst (λ x. AfterComing at a part left rest x past mid answer new after) m h).0) (λ m. ample' (subst (λ x. AfterComing at a part left rest x past far would other then) m k).0) in
      after_coming_once a part left rest lasts once f past mid answer would new other after then same.1.1 h
      (subst (λ x. AfterComing at a part left rest x past mid would other then) (sym same.0) (subst (λ v. AfterComing at a part left rest g past v would other then) (sym same.1.0) k)) e e' ample ample'

  through_lasts : (a : PlainAttempt) (left : List Part) → Lasts (Through at a left)
  through_lasts a left = through_leads at a Later (later_points at a) left

  through_once : (a : PlainAttempt) (left : List Part) → Once (Through at a left)
  through_once a [] = ends_once
  through_once a (part ∷ left) = coming_once a part left (Through at a left) (through_lasts a left) (through_once a left)

  stage_once : (a : PlainAttempt) (part : Part) (left : List Part) (stage : PlainStage) → Once (FromStage at a part left stage)
  stage_once a part left coming = coming_once a part left (Through at a left) (through_lasts a left) (through_once a left)
  stage_once a part left starting = starting_once a part left (Through at a left) (through_lasts a left) (through_once a left)
  stage_once a part left (running walk None) = running_once a part left walk (Through at a left) (through_lasts a left) (through_once a left)
  stage_once a part left (running walk (Some digest)) = stays_once a (part ∷ left) (running walk (Some digest)) _
  stage_once a part left (judging exit) = judging_once a part left exit (Through at a left) (through_lasts a left) (through_once a left)

  left_once : (a : PlainAttempt) (left : List Part) → Once (FromLeft at a left)
  left_once a [] = ends_once
  left_once a (part ∷ left) = stage_once a part left a.stage

  pub going_once : (a : PlainAttempt) (old : MachineView) (answer would : Went) (new other : MachineView) (after then : Option PlainAttempt) → Calm faults old → GoesOn at a old answer new after → GoesOn at a old would other then
      → new.faults ≡ faults → other.faults ≡ faults → answer ≢ went.Memory → would ≢ went.Memory → SameWay answer would new other after then
  going_once a old answer would new other after then calm p q e e' ample ample' = left_once a a.left a.past old answer would new other after then calm p q e e' ample ample'
