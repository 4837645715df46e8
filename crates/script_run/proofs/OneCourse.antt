-- Where nothing fails and memory lasts, a run's course is one.
use Rattle.std.proofs.Common.{◌≡◌, ◌≢◌, ℕ, ◌+◌, ℤ, true, false, List, [], ◌∷◌, ◌++◌, Option, Some, None, refl, sym, ap, subst, ◌∙◌, arith}
use Rattle.bf_world.specs.declared.command.Command.{Command}
use Rattle.bf_world.specs.declared.command.Acted.{Acted}
use Rattle.bf_world.specs.declared.command.Acted.TheVariants as of_act
use Rattle.bf_world.specs.declared.command.Polled.{Polled}
use Rattle.bf_world.specs.declared.command.Polled.TheVariants as of_poll
use Rattle.bf_world.specs.Worlds.{WorldState}
use Rattle.bf_world.specs.Done.{Outcome, done}
use Rattle.bf_world.specs.Polled.{PollOutcome, polled as poll_of}
use Rattle.bf_machine.specs.Told.{Told}
use Rattle.bf_machine.specs.Acts.{Acts}
use Rattle.bf_machine.specs.Polls.{Polls as PollAnswers}
use Rattle.bf_machine.specs.Views.{MachineView}
use Rattle.bf_machine.specs.Acts.{ActsOn}
use Rattle.bf_machine.specs.Polls.{PollsOn}
use Rattle.rel_sources.specs.declared.pair.Pair.{Pair}
use Rattle.rel_eval.specs.declared.told.Truth.TheVariants as truth
use Rattle.script_text.specs.Scripts.{PlainScript}
use Rattle.script_run.specs.declared.ran.Ran.{Ran}
use Rattle.script_run.specs.declared.ran.Ran.TheVariants as of_run
use Rattle.script_run.specs.Walks.{Known, Settled, supplied, said, judged, acted, polled, fault_in, faults_in, Next, Wants, Says, Tests, Pauses, Does, Polls, Ends, Fails, Walk}
use Rattle.script_run.specs.ScriptWalks.{after}
use Rattle.script_run.specs.Asking.{When, scene_of}
use Rattle.script_run.specs.RunSteps.{Settles, Comes, Any, Holds, Stops}
use Rattle.script_run.specs.Advances.{wanted_by}
use Rattle.script_run.specs.Courses.{Call, Going, Supplying, Reply, ran, taken, Point, beginning, Goes, Replies, Course, IsAmple}
use Rattle.script_run.proofs.OneAnswer.{says_once, judges_once}

-- ---- one result
some_once : {T : Type 0} (a b : T) → Some a ≡ Some b → a ≡ b
some_once a b e = cc

-- what was told of a world
told_from : (u new : Option WorldState) (w : WorldState) (P : WorldState → WorldState → Type 0) → u ≡ Some w → Told u new P → (v : WorldState) × (new ≡ Some v) × P w v
told_from None new w P is h = absurd (cc)
told_from (Some x) None w P is h = absurd h
told_from (Some x) (Some v) w P is h = let Q : WorldState → Type 0 = λ y. P y v in (v, refl, subst Q (some_once x w is) h)

-- the two are one, and a world is left
abbrev SameEnd : Settled → Settled → MachineView → MachineView → Type 0
SameEnd r s new other = (r ≡ s) × ((v : WorldState) × (new.world ≡ Some v) × (other.world ≡ Some v))

acted_as : (w v : WorldState) (command : Command) (moment : ℤ) (a : Acted) → Acts w v command moment a → a ≢ of_act.Memory → fault_in (acted a) ≡ 0 → done w command moment ≡ record { answer = a; after = v }
acted_as w v command moment of_act.Done h ample none = h
acted_as w v command moment (of_act.Started process) h ample none = h
acted_as w v command moment (of_act.Refused reason) h ample none = h
acted_as w v command moment of_act.Failed h ample none = absurd (omega (arith, none))
acted_as w v command moment of_act.Memory h ample none = absurd (ample refl)

acts_once : (w : WorldState) (command : Command) (moment : ℤ) (old past : MachineView) (a b : Acted) (new other : MachineView) → old.world ≡ Some w → past.world ≡ Some w →
    ActsOn moment command old a new → ActsOn moment command past b other → a ≢ of_act.Memory → b ≢ of_act.Memory → fault_in (acted a) ≡ 0 → fault_in (acted b) ≡ 0 → SameEnd (acted a) (acted b) new other
acts_once w command moment old past a b new other is is' p q ample ample' none none' =
    let x = told_from old.world new.world w (λ before now. Acts before now command moment a) is p.world in
    let y = told_from past.world other.world w (λ before now. Acts before now command moment b) is' q.world in
    let same = sym (acted_as w x.0 command moment a x.2 ample none) ∙ acted_as w y.0 command moment b y.2 ample' none' in
    (ap (λ (o : Outcome). acted o.answer) same, (y.0, x.1 ∙ ap (λ (o : Outcome). Some o.after) same, y.1))

polled_as : (w v : WorldState) (process : ℕ) (a : Polled) → PollAnswers w v process a → fault_in (polled a) ≡ 0 → poll_of w process ≡ Some (record { answer = a; after = v })
polled_as w v process of_poll.Running h none = h
polled_as w v process (of_poll.Exited code) h none = h
polled_as w v process of_poll.Failed h none = absurd (omega (arith, none))

polls_once : (w : WorldState) (process : ℕ) (old past : MachineView) (a b : Polled) (new other : MachineView) → old.world ≡ Some w → past.world ≡ Some w →
    PollsOn process old a new → PollsOn process past b other → fault_in (polled a) ≡ 0 → fault_in (polled b) ≡ 0 → SameEnd (polled a) (polled b) new other
polls_once w process old past a b new other is is' p q none none' =
    let x = told_from old.world new.world w (λ before now. PollAnswers before now process a) is p.world in
    let y = told_from past.world other.world w (λ before now. PollAnswers before now process b) is' q.world in
    let one : PollOutcome = record { answer = a; after = x.0 } in
    let two : PollOutcome = record { answer = b; after = y.0 } in
    let same : one ≡ two = some_once one two (sym (polled_as w x.0 process a x.2 none) ∙ polled_as w y.0 process b y.2 none') in
    (ap (λ (o : PollOutcome). polled o.answer) same, (y.0, x.1 ∙ ap (λ (o : PollOutcome). Some o.after) same, y.1))

-- what comes next comes to one result
settles_once : (at : When) (known : Known) (next : Next) (w : WorldState) (old past : MachineView) (r s : Settled) (new other : MachineView) → old.world ≡ Some w → past.world ≡ Some w →
    Settles at known next old r new → Settles at known next past s other → fault_in r ≡ 0 → fault_in s ≡ 0 → SameEnd r s new other
settles_once at known (Says n midway text) w old past (said a) (said b) new other is is' p q none none' =
    (ap said (says_once w (scene_of at known) text old past a b new other is is' p.1 q.1 none none' p.0 q.0), (w, p.1.only.world ∙ is, q.1.only.world ∙ is'))
settles_once at known (Says n midway text) w old past (said a) s new other is is' p q none none' = absurd q
settles_once at known (Tests n text) w old past (judged a) (judged b) new other is is' p q none none' =
    (ap judged (judges_once w (scene_of at known) text old past a b new other is is' p.1 q.1 none none' p.0 q.0), (w, p.1.only.world ∙ is, q.1.only.world ∙ is'))
settles_once at known (Tests n text) w old past (judged a) s new other is is' p q none none' = absurd q
settles_once at known (Pauses n text) w old past (judged a) (judged b) new other is is' p q none none' =
    (ap judged (judges_once w (scene_of at known) text old past a b new other is is' p.2 q.2 none none' p.0 q.0), (w, p.2.only.world ∙ is, q.2.only.world ∙ is'))
settles_once at known (Pauses n text) w old past (judged a) s new other is is' p q none none' = absurd q
settles_once at known (Does n midway command) w old past (acted a) (acted b) new other is is' p q none none' =
    acts_once w command at.moment old past a b new other is is' p.1 q.1 p.0 q.0 none none'
settles_once at known (Does n midway command) w old past (acted a) s new other is is' p q none none' = absurd q
settles_once at known (Polls n process) w old past (polled a) (polled b) new other is is' p q none none' =
    polls_once w process old past a b new other is is' p.1 q.1 none none'
settles_once at known (Polls n process) w old past (polled a) s new other is is' p q none none' = absurd q
settles_once at known next w old past r s new other is is' p q none none' = absurd p

-- ---- one stop
-- how an advance stops at what comes next, where memory lasts
abbrev stop_at : Next → Ran
stop_at (Wants n digest) = of_run.Wants n digest
stop_at (Pauses n text) = of_run.Held n
stop_at (Polls n process) = of_run.Held n
stop_at Ends = of_run.Done
stop_at (Fails n midway cause) = of_run.Failed n cause
stop_at _ = of_run.Memory

held_at : (at : When) (known : Known) (next : Next) (n : ℕ) (old new : MachineView) → Holds at known next n old new → of_run.Held n ≡ stop_at next
held_at at known (Pauses own text) n old new h = ap of_run.Held h.0
held_at at known (Polls own process) n old new h = ap of_run.Held h.0
held_at at known next n old new h = absurd h

stops_once : (at : When) (old : MachineView) (f : Walk) (a : Ran) (new : MachineView) → Stops at old f a new → a ≢ of_run.Memory → a ≡ stop_at (f []).next
stops_once at old f (of_run.Held n) new h ample = held_at at (f []).known (f []).next n old new h
stops_once at old f (of_run.Wants n digest) new h ample = sym (ap stop_at h.0)
stops_once at old f of_run.Done new h ample = sym (ap stop_at h.0)
stops_once at old f (of_run.Failed n cause) new h ample = sym (ap stop_at h.1)
stops_once at old f of_run.Memory new h ample = absurd (ample refl)

-- a line that is held doesn't come to a result
held_or_settled : (at : When) (known : Known) (next : Next) (w : WorldState) (n : ℕ) (old past : MachineView) (r : Settled) (new other : MachineView) → old.world ≡ Some w → past.world ≡ Some w →
    Settles at known next old r new → Holds at known next n past other → fault_in r ≡ 0 → ⊥
held_or_settled at known (Pauses own text) w n old past (judged a) new other is is' p q none =
    p.1 (judges_once w (scene_of at known) text old past a truth.True new other is is' p.2 q.1 none refl p.0 (λ e. absurd (cc)))
held_or_settled at known (Polls own process) w n old past (polled a) new other is is' p q none =
    p.0 (polls_answer a (polls_once w process old past a of_poll.Running new other is is' p.1 q.1 none refl).0)
  where
    polls_answer : (b : Polled) → polled b ≡ polled of_poll.Running → b ≡ of_poll.Running
    polls_answer b e = cc
held_or_settled at known (Says own midway text) w n old past r new other is is' p q none = absurd q
held_or_settled at known (Tests own text) w n old past r new other is is' p q none = absurd q
held_or_settled at known (Does own midway command) w n old past r new other is is' p q none = absurd q
held_or_settled at known next w n old past r new other is is' p q none = absurd p

-- what stops an advance doesn't come to a result
stopped_or_settled : (at : When) (w : WorldState) (f : Walk) (old past : MachineView) (r : Settled) (new : MachineView) (a : Ran) (other : MachineView) → old.world ≡ Some w → past.world ≡ Some w →
    Settles at (f []).known (f []).next old r new → Stops at past f a other → fault_in r ≡ 0 → a ≢ of_run.Memory → ⊥
stopped_or_settled at w f old past r new (of_run.Held n) other is is' p q none ample = held_or_settled at (f []).known (f []).next w n old past r new other is is' p q none
stopped_or_settled at w f old past r new (of_run.Wants n digest) other is is' p q none ample = let S : Next → Type 0 = λ x. Settles at (f []).known x old r new in subst S q.0 p
stopped_or_settled at w f old past r new of_run.Done other is is' p q none ample = let S : Next → Type 0 = λ x. Settles at (f []).known x old r new in subst S q.0 p
stopped_or_settled at w f old past r new (of_run.Failed n cause) other is is' p q none ample = let S : Next → Type 0 = λ x. Settles at (f []).known x old r new in subst S q.1 p
stopped_or_settled at w f old past r new of_run.Memory other is is' p q none ample = ample refl

-- ---- one advance
comes_once : (at : When) (w : WorldState) (f : Walk) (old past : MachineView) (xs ys : List Settled) (mid far : MachineView) (a b : Ran) (new other : MachineView) → old.world ≡ Some w → past.world ≡ Some w →
    Comes Any at old f xs mid → Comes Any at past f ys far → Stops at mid (λ more. f (xs ++ more)) a new → Stops at far (λ more. f (ys ++ more)) b other →
    faults_in xs ≡ 0 → faults_in ys ≡ 0 → a ≢ of_run.Memory → b ≢ of_run.Memory → (xs ≡ ys) × (a ≡ b)
comes_once at w f old past [] [] mid far a b new other is is' c d s t none none' ample ample' =
    (refl, stops_once at mid f a new s ample ∙ sym (stops_once at far f b other t ample'))
comes_once at w f old past [] (y ∷ ys) mid far a b new other is is' c (p, (between, settles, rest)) s t none none' ample ample' =
    absurd (stopped_or_settled at w f past mid y between a new is' (ap (λ (v : MachineView). v.world) c ∙ is) settles s (omega (arith, none')) ample)
comes_once at w f old past (x ∷ xs) [] mid far a b new other is is' (p, (between, settles, rest)) d s t none none' ample ample' =
    absurd (stopped_or_settled at w f old far x between b other is (ap (λ (v : MachineView). v.world) d ∙ is') settles t (omega (arith, none)) ample')
comes_once at w f old past (x ∷ xs) (y ∷ ys) mid far a b new other is is' (p, (between, settles, rest)) (p', (between', settles', rest')) s t none none' ample ample' =
    let one = settles_once at (f []).known (f []).next w old past x y between between' is is' settles settles' (omega (arith, none)) (omega (arith, none')) in
    let R : Settled → Type 0 = λ z. Comes Any at between' (λ more. f (z ∷ more)) ys far in
    let T : Settled → Type 0 = λ z. Stops at far (λ more. f (z ∷ (ys ++ more))) b other in
    let later = comes_once at one.1.0 (λ more. f (x ∷ more)) between between' xs ys mid far a b new other one.1.1 one.1.2 rest (subst R (sym one.0) rest') s (subst T (sym one.0) t) (omega (arith, none)) (omega (arith, none')) ample ample' in
    (ap (λ z. z ∷ xs) one.0 ∙ ap (λ l. y ∷ l) later.0, later.1)

-- ---- calls
faults_in_more : (xs ys : List Settled) → faults_in (xs ++ ys) ≡ faults_in xs + faults_in ys
faults_in_more [] ys = omega arith
faults_in_more (x ∷ xs) ys = let e : faults_in (xs ++ ys) ≡ faults_in xs + faults_in ys = faults_in_more xs ys in omega (arith, e)

-- no fault among the first results, nor among further ones
none_before : (xs ys : List Settled) → faults_in (xs ++ ys) ≡ 0 → faults_in xs ≡ 0
none_before xs ys none = let e : faults_in (xs ++ ys) ≡ faults_in xs + faults_in ys = faults_in_more xs ys in omega (arith, e, none)

none_later : (xs ys : List Settled) → faults_in (xs ++ ys) ≡ 0 → faults_in ys ≡ 0
none_later xs ys none = let e : faults_in (xs ++ ys) ≡ faults_in xs + faults_in ys = faults_in_more xs ys in omega (arith, e, none)

goes_once : (at : When) (w : WorldState) (script : PlainScript) (given : List Pair) (old : Point) (a b : Ran) (x y : Point) → Goes at w script given old a x → Goes at w script given old b y →
    faults_in x.settled ≡ 0 → faults_in y.settled ≡ 0 → a ≢ of_run.Memory → b ≢ of_run.Memory → (ran a ≡ ran b) × (x ≡ y)
goes_once at w script given old a b x y p q none none' ample ample' =
    let first : faults_in (old.settled ++ p.results) ≡ 0 = sym (ap (λ (z : Point). faults_in z.settled) p.point) ∙ none in
    let second : faults_in (old.settled ++ q.results) ≡ 0 = sym (ap (λ (z : Point). faults_in z.settled) q.point) ∙ none' in
    let one = comes_once at w (after script given old.settled) p.before q.before p.results q.results p.between q.between a b p.left q.left p.told q.told p.comes q.comes p.stops q.stops
    (none_later old.settled p.results first) (none_later old.settled q.results second) ample ample' in
    let P : List Settled → Ran → Point = λ l r. record { settled = old.settled ++ l; wanted = wanted_by r } in
    (ap ran one.1, p.point ∙ ap (λ l. P l a) one.0 ∙ ap (λ r. P q.results r) one.1 ∙ sym q.point)

ran_ample : (a : Ran) → ran a ≢ ran of_run.Memory → a ≢ of_run.Memory
ran_ample a ample is = ample (ap ran is)

replies_once : (script : PlainScript) (given : List Pair) (old : Point) (call : Call) (r s : Reply) (x y : Point) → Replies script given old call r x → Replies script given old call s y →
    faults_in x.settled ≡ 0 → faults_in y.settled ≡ 0 → r ≢ ran of_run.Memory → s ≢ ran of_run.Memory → (r ≡ s) × (x ≡ y)
replies_once script given old (Going at w) (ran a) (ran b) x y p q none none' ample ample' = goes_once at w script given old a b x y p q none none' (ran_ample a ample) (ran_ample b ample')
replies_once script given old (Going at w) (ran a) (taken b) x y p q none none' ample ample' = absurd q
replies_once script given old (Going at w) (taken a) s x y p q none none' ample ample' = absurd p
replies_once script given old (Supplying digest bytes) (taken true) (taken true) x y p q none none' ample ample' = (refl, p.1 ∙ sym q.1)
replies_once script given old (Supplying digest bytes) (taken true) (taken false) x y p q none none' ample ample' = absurd (q.0 p.0)
replies_once script given old (Supplying digest bytes) (taken false) (taken true) x y p q none none' ample ample' = absurd (p.0 q.0)
replies_once script given old (Supplying digest bytes) (taken false) (taken false) x y p q none none' ample ample' = (refl, p.1 ∙ sym q.1)
replies_once script given old (Supplying digest bytes) (taken a) (ran b) x y p q none none' ample ample' = absurd q
replies_once script given old (Supplying digest bytes) (ran a) s x y p q none none' ample ample' = absurd p

-- where there is no fault behind a call there is none before it
reply_grows : (script : PlainScript) (given : List Pair) (old : Point) (call : Call) (r : Reply) (new : Point) → Replies script given old call r new → faults_in new.settled ≡ 0 → faults_in old.settled ≡ 0
reply_grows script given old (Going at w) (ran a) new p none = none_before old.settled p.results (sym (ap (λ (z : Point). faults_in z.settled) p.point) ∙ none)
reply_grows script given old (Supplying digest bytes) (taken true) new p none = none_before old.settled (supplied bytes ∷ []) (sym (ap (λ (z : Point). faults_in z.settled) p.1) ∙ none)
reply_grows script given old (Supplying digest bytes) (taken false) new p none = sym (ap (λ (z : Point). faults_in z.settled) p.1) ∙ none
reply_grows script given old (Going at w) (taken a) new p none = absurd p
reply_grows script given old (Supplying digest bytes) (ran a) new p none = absurd p

course_grows : (script : PlainScript) (given : List Pair) (old : Point) (calls : List Call) (replies : List Reply) (new : Point) → Course script given old calls replies new → faults_in new.settled ≡ 0 → faults_in old.settled ≡ 0
course_grows script given old [] [] new p none = sym (ap (λ (z : Point). faults_in z.settled) p) ∙ none
course_grows script given old (call ∷ calls) (reply ∷ replies) new (between, p, rest) none =
    reply_grows script given old call reply between p (course_grows script given between calls replies new rest none)
course_grows script given old [] (reply ∷ replies) new p none = absurd p
course_grows script given old (call ∷ calls) [] new p none = absurd p

course_once : (script : PlainScript) (given : List Pair) (old : Point) (calls : List Call) (xs ys : List Reply) (x y : Point) → Course script given old calls xs x → Course script given old calls ys y →
    faults_in x.settled ≡ 0 → faults_in y.settled ≡ 0 → IsAmple xs → IsAmple ys → (xs ≡ ys) × (x ≡ y)
course_once script given old [] [] [] x y p q none none' ample ample' = (refl, p ∙ sym q)
course_once script given old [] [] (s ∷ ys) x y p q none none' ample ample' = absurd q
course_once script given old [] (r ∷ xs) ys x y p q none none' ample ample' = absurd p
course_once script given old (call ∷ calls) [] ys x y p q none none' ample ample' = absurd p
course_once script given old (call ∷ calls) (r ∷ xs) [] x y p q none none' ample ample' = absurd q
course_once script given old (call ∷ calls) (r ∷ xs) (s ∷ ys) x y (between, p, rest) (between', q, rest') none none' ample ample' =
    let one = replies_once script given old call r s between between' p q (course_grows script given between calls xs x rest none) (course_grows script given between' calls ys y rest' none') ample.0 ample'.0 in
    let C : Point → Type 0 = λ z. Course script given z calls ys y in
    let later = course_once script given between calls xs ys x y rest (subst C (sym one.1) rest') none none' ample.1 ample'.1 in
    (ap (λ z. z ∷ xs) one.0 ∙ ap (λ l. s ∷ l) later.0, later.1)

pub courses_are_one : (script : PlainScript) (given : List Pair) (calls : List Call) (xs ys : List Reply) (x y : Point) → Course script given beginning calls xs x → Course script given beginning calls ys y →
    faults_in x.settled ≡ 0 → faults_in y.settled ≡ 0 → IsAmple xs → IsAmple ys → (xs ≡ ys) × (x ≡ y)
courses_are_one script given calls xs ys x y p q none none' ample ample' = course_once script given beginning calls xs ys x y p q none none' ample ample'
