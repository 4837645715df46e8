-- Where no look, command or poll fails and memory lasts, what is asked and done on a machine that tells its world has one answer and
-- leaves one view.
use Rattle.std.proofs.Common.{◌≡◌, ◌≢◌, ℕ, ◌-◌, ◌^◌, ◌<◌, ℤ, Bool, true, false, List, [], ◌∷◌, ◌++◌, IsSome, Option, Some, None, refl, sym, ap, subst, ◌∙◌, inl, inr, arith}
use Rattle.desk_base.specs.Counts.{CountsIf, Rose}
use Rattle.bf_world.specs.declared.command.Command.{Command}
use Rattle.bf_world.specs.declared.command.Acted.{Acted}
use Rattle.bf_world.specs.declared.command.Acted.TheVariants as of_act
use Rattle.bf_world.specs.declared.command.Polled.{Polled}
use Rattle.bf_world.specs.declared.command.Polled.TheVariants as of_poll
use Rattle.bf_world.specs.declared.key.Key.{Key}
use Rattle.bf_world.specs.Done.{Outcome, done}
use Rattle.bf_world.specs.Polled.{PollOutcome, polled as poll_of}
use Rattle.bf_world.specs.Worlds.{WorldState}
use Rattle.bf_machine.specs.Acts.{Acts, ActsOn, CountsStarted, commands_added}
use Rattle.bf_machine.specs.Polls.{Polls as PollAnswers, PollsOn, numbers_added}
use Rattle.bf_machine.specs.Told.{Grows, Told}
use Rattle.rel_value.specs.Plain.{boolean, words, booleans}
use Rattle.rel_sources.specs.declared.scene.Scene.{Scene}
use Rattle.rel_types.specs.Plans.{PlainNode, is_plural, kind_of}
use Rattle.rel_types.specs.Alike.{same_kind}
use Rattle.rel_trace.specs.Trace.{Error, Event, Look, Turn, Give, Trace, Ends, After, one}
use Rattle.rel_nodes.specs.Spans.{span_of_node}
use Rattle.rel_nodes.specs.Steps.{prepend, gives, keys}
use Rattle.rel_eval.specs.declared.told.OneText.{OneText}
use Rattle.rel_eval.specs.declared.told.OneText.TheVariants as one_text
use Rattle.rel_eval.specs.declared.told.Truth.{Truth}
use Rattle.rel_eval.specs.declared.told.Truth.TheVariants as truth
use Rattle.rel_eval.specs.Cuts.{meaning}
use Rattle.rel_eval.specs.Pulls.{Skips}
use Rattle.rel_eval.specs.Questions.{Reading, Reads, question, refused, undefined}
use Rattle.rel_eval.specs.Singles.{one_text_of, truth_of, TellsText, TellsTruth, text_has_failed, truth_has_failed}
use Rattle.script_run.specs.Walks.{said, judged, fault_in}
use Rattle.bf_machine.specs.Views.{MachineView, OnlyLooks}
use Rattle.script_run.specs.Asking.{SaysQuestion, SaysReading, SaysText, SaysOn, JudgesKind, JudgesQuestion, JudgesReading, JudgesText, JudgesOn}
use Rattle.script_run.proofs.OneAnswer.{says_once, judges_once}

-- the law of texts that are questions
abbrev pub OnePlan : Type 0
OnePlan = (text : List ℕ) (x y : Reading) → Reads text x → Reads text y → x ≡ y

-- the machine tells all, and its count of faults stands here
pub record Calm (faults : ℕ) (v : MachineView) : Type 0 where
  pub world : IsSome v.world
  pub looked : IsSome v.looked
  pub acted : IsSome v.acted
  pub polled : IsSome v.polled
  pub count : v.faults ≡ faults

some_of : {T : Type 0} (o : Option T) → IsSome o → (x : T) × (o ≡ Some x)
some_of None is = absurd (cc)
some_of (Some x) is = (x, refl)

some_same : {T : Type 0} (a b : T) → Some a ≡ Some b → a ≡ b
some_same a b e = cc

pub same_view : (x y : MachineView) → x.world ≡ y.world → x.looked ≡ y.looked → x.acted ≡ y.acted → x.polled ≡ y.polled → x.started ≡ y.started → x.faults ≡ y.faults → x.holds ≡ y.holds → x ≡ y
same_view x y w l a p s f h = λ j. record { world = w j; looked = l j; acted = a j; polled = p j; started = s j; faults = f j; holds = h j }

-- a count that stands didn't rise
pub no_rise : (faults a b : ℕ) → faults < 2 ^ 64 - 1 → a ≡ faults → b ≡ faults → Rose a b → ⊥
no_rise faults a b low is is' rose = omega (arith, low, is, is', rose)

-- what was told grows in one way
abbrev SameTold : {T : Type 0} → Option (List T) → Option (List T) → Type 0
SameTold a b = (a ≡ b) × IsSome a

grown_once : {T : Type 0} (old new other : Option (List T)) (k l : List T) → IsSome old → k ≡ l → Grows old new k → Grows old other l → SameTold new other
grown_once None new other k l some same p q = absurd (cc)
grown_once (Some b) None other k l some same p q = absurd p
grown_once (Some b) (Some n) None k l some same p q = absurd q
grown_once (Some b) (Some n) (Some m) k l some same p q = (ap (λ x. Some x) (p ∙ ap (λ x. b ++ x) same ∙ sym q), refl)

-- programs are started in one way by a command that didn't fail
started_once : (a : Acted) (old new other : ℕ) → a ≢ of_act.Failed → CountsStarted old new a → CountsStarted old other a → new ≡ other
started_once of_act.Done old new other sound p q = p ∙ sym q
started_once (of_act.Started process) old new other sound p q = p.1 ∙ sym q.1
started_once (of_act.Refused reason) old new other sound p q = p ∙ sym q
started_once of_act.Failed old new other sound p q = absurd (sound refl)
started_once of_act.Memory old new other sound p q = p ∙ sym q

-- ---- the looks of a trace up to its first end or value
abbrev IsHead : Trace → Type 0
IsHead (Ends end) = Unit {0}
IsHead (After (Give v) t) = Unit {0}
IsHead (After event t) = ⊥

no_head : (event : Event) (events : List Event) (t : Trace) → gives (event ∷ events) ≡ [] → IsHead (After event t) → ⊥
no_head (Look place key) events t quiet head = head
no_head (Turn place) events t quiet head = head
no_head (Give v) events t quiet head = absurd (cc)

rest_quiet : (event : Event) (events : List Event) → gives (event ∷ events) ≡ [] → gives events ≡ []
rest_quiet (Look place key) events quiet = quiet
rest_quiet (Turn place) events quiet = quiet
rest_quiet (Give v) events quiet = absurd (cc)

abbrev event_of : Event → Trace → Event
event_of event (After first t) = first
event_of event (Ends end) = event

abbrev behind : Trace → Trace
behind (After event t) = t
behind (Ends end) = Ends end

abbrev key_before : Event → List Key → List Key
key_before (Look place key) ks = key ∷ ks
key_before (Turn place) ks = ks
key_before (Give v) ks = ks

keys_step : (event : Event) (events : List Event) → keys (event ∷ events) ≡ key_before event (keys events)
keys_step (Look place key) events = refl
keys_step (Turn place) events = refl
keys_step (Give v) events = refl

keys_once : (es fs : List Event) (u v : Trace) → gives es ≡ [] → gives fs ≡ [] → IsHead u → IsHead v → prepend es u ≡ prepend fs v → keys es ≡ keys fs
keys_once [] [] u v p q a b is = refl
keys_once [] (f ∷ fs) u v p q a b is = absurd (no_head f fs (prepend fs v) q (subst IsHead is a))
keys_once (e ∷ es) [] u v p q a b is = absurd (no_head e es (prepend es u) p (subst IsHead (sym is) b))
keys_once (e ∷ es) (f ∷ fs) u v p q a b is =
    let first : e ≡ f = ap (event_of e) is in
    keys_step e es ∙ ap (key_before e) (keys_once es fs u v (rest_quiet e es p) (rest_quiet f fs q) a b (ap behind is)) ∙ ap (λ x. key_before x (keys fs)) first ∙ sym (keys_step f fs)

looks_once : (t u v : Trace) (k l : List Key) → Skips t k u → Skips t l v → IsHead u → IsHead v → k ≡ l
looks_once t u v k l a b p q = a.looked ∙ keys_once a.events b.events u v a.quiet b.quiet p q (sym a.whole ∙ b.whole) ∙ sym b.looked

-- ---- expressions
text_head : (t : Trace) (a : OneText) (k : List Key) → TellsText t a k → fault_in (said a) ≡ 0 → a ≢ one_text.Memory → (u : Trace) × Skips t k u × IsHead u
text_head t (one_text.Text x) k h none ample = (one (words x), h, tt)
text_head t (one_text.Error kind place) k h none ample = (Ends (Error kind place), h, tt)
text_head t (one_text.Failed place) k h none ample = absurd (omega (arith, none))
text_head t one_text.Memory k h none ample = absurd (ample refl)

says_question_looks : (plural : Bool) (w : WorldState) (u : Option WorldState) (scene : Scene) (plan : PlainNode) (k l n : Option (List Key)) (a b : OneText) → u ≡ Some w → IsSome k
    → SaysQuestion plural u scene plan k a l → SaysQuestion plural u scene plan k b n → fault_in (said a) ≡ 0 → fault_in (said b) ≡ 0 → a ≢ one_text.Memory → b ≢ one_text.Memory → SameTold l n
says_question_looks true w u scene plan k l n a b is some p q none none' ample ample' = (p.1 ∙ sym q.1, subst IsSome (sym p.1) some)
says_question_looks false w u scene plan k l n a b is some p q none none' ample ample' =
    let x = p w is in
    let y = q w is in
    let t = one_text_of (span_of_node plan) scene.offset (meaning w scene plan) in
    let c = text_head t a x.0 x.2 none ample in
    let d = text_head t b y.0 y.2 none' ample' in
    grown_once k l n x.0 y.0 some (looks_once t c.0 d.0 x.0 y.0 c.1 d.1 c.2 d.2) x.1 y.1

says_reading_looks : (w : WorldState) (u : Option WorldState) (scene : Scene) (reading : Reading) (k l n : Option (List Key)) (a b : OneText) → u ≡ Some w → IsSome k
    → SaysReading u scene reading k a l → SaysReading u scene reading k b n → fault_in (said a) ≡ 0 → fault_in (said b) ≡ 0 → a ≢ one_text.Memory → b ≢ one_text.Memory → SameTold l n
says_reading_looks w u scene (question plan) k l n a b is some p q none none' ample ample' = says_question_looks (is_plural plan) w u scene plan k l n a b is some p q none none' ample ample'
says_reading_looks w u scene (refused kind place) k l n a b is some p q none none' ample ample' = (p.1 ∙ sym q.1, subst IsSome (sym p.1) some)
says_reading_looks w u scene (undefined place missing) k l n a b is some p q none none' ample ample' = (p.1 ∙ sym q.1, subst IsSome (sym p.1) some)

says_looks : OnePlan → (w : WorldState) (u : Option WorldState) (scene : Scene) (text : List ℕ) (k l n : Option (List Key)) (a b : OneText) → u ≡ Some w → IsSome k
    → SaysText u scene text k a l → SaysText u scene text k b n → fault_in (said a) ≡ 0 → fault_in (said b) ≡ 0 → a ≢ one_text.Memory → b ≢ one_text.Memory → SameTold l n
says_looks plan w u scene text k l n a b is some (inr p) q none none' ample ample' = absurd (ample p.0)
says_looks plan w u scene text k l n a b is some (inl p) (inr q) none none' ample ample' = absurd (ample' q.0)
says_looks plan w u scene text k l n a b is some (inl p) (inl q) none none' ample ample' =
    let Says : Reading → Type 0 = λ r. SaysReading u scene r k b n in
    says_reading_looks w u scene p.0 k l n a b is some p.2 (subst Says (plan text q.0 p.0 q.1 p.1) q.2) none none' ample ample'

-- ---- tests
truth_head : (t : Trace) (a : Truth) (k : List Key) → TellsTruth t a k → fault_in (judged a) ≡ 0 → a ≢ truth.Memory → (u : Trace) × Skips t k u × IsHead u
truth_head t truth.True k h none ample = (one (boolean true), h, tt)
truth_head t truth.False k h none ample = (one (boolean false), h, tt)
truth_head t (truth.Error kind place) k h none ample = (Ends (Error kind place), h, tt)
truth_head t (truth.Failed place) k h none ample = absurd (omega (arith, none))
truth_head t truth.Memory k h none ample = absurd (ample refl)

judges_kind_looks : (fits : Bool) (w : WorldState) (u : Option WorldState) (scene : Scene) (plan : PlainNode) (k l n : Option (List Key)) (a b : Truth) → u ≡ Some w → IsSome k
    → JudgesKind fits u scene plan k a l → JudgesKind fits u scene plan k b n → fault_in (judged a) ≡ 0 → fault_in (judged b) ≡ 0 → a ≢ truth.Memory → b ≢ truth.Memory → SameTold l n
judges_kind_looks false w u scene plan k l n a b is some p q none none' ample ample' = (p.1 ∙ sym q.1, subst IsSome (sym p.1) some)
judges_kind_looks true w u scene plan k l n a b is some p q none none' ample ample' =
    let x = p w is in
    let y = q w is in
    let t = truth_of (span_of_node plan) (meaning w scene plan) in
    let c = truth_head t a x.0 x.2 none ample in
    let d = truth_head t b y.0 y.2 none' ample' in
    grown_once k l n x.0 y.0 some (looks_once t c.0 d.0 x.0 y.0 c.1 d.1 c.2 d.2) x.1 y.1

judges_question_looks : (plural : Bool) (w : WorldState) (u : Option WorldState) (scene : Scene) (plan : PlainNode) (k l n : Option (List Key)) (a b : Truth) → u ≡ Some w → IsSome k
    → JudgesQuestion plural u scene plan k a l → JudgesQuestion plural u scene plan k b n → fault_in (judged a) ≡ 0 → fault_in (judged b) ≡ 0 → a ≢ truth.Memory → b ≢ truth.Memory → SameTold l n
judges_question_looks true w u scene plan k l n a b is some p q none none' ample ample' = (p.1 ∙ sym q.1, subst IsSome (sym p.1) some)
judges_question_looks false w u scene plan k l n a b is some p q none none' ample ample' = judges_kind_looks (same_kind (kind_of plan) booleans) w u scene plan k l n a b is some p q none none' ample ample'

judges_reading_looks : (w : WorldState) (u : Option WorldState) (scene : Scene) (reading : Reading) (k l n : Option (List Key)) (a b : Truth) → u ≡ Some w → IsSome k
    → JudgesReading u scene reading k a l → JudgesReading u scene reading k b n → fault_in (judged a) ≡ 0 → fault_in (judged b) ≡ 0 → a ≢ truth.Memory → b ≢ truth.Memory → SameTold l n
judges_reading_looks w u scene (question plan) k l n a b is some p q none none' ample ample' = judges_question_looks (is_plural plan) w u scene plan k l n a b is some p q none none' ample ample'
judges_reading_looks w u scene (refused kind place) k l n a b is some p q none none' ample ample' = (p.1 ∙ sym q.1, subst IsSome (sym p.1) some)
judges_reading_looks w u scene (undefined place missing) k l n a b is some p q none none' ample ample' = (p.1 ∙ sym q.1, subst IsSome (sym p.1) some)

judges_looks : OnePlan → (w : WorldState) (u : Option WorldState) (scene : Scene) (text : List ℕ) (k l n : Option (List Key)) (a b : Truth) → u ≡ Some w → IsSome k
    → JudgesText u scene text k a l → JudgesText u scene text k b n → fault_in (judged a) ≡ 0 → fault_in (judged b) ≡ 0 → a ≢ truth.Memory → b ≢ truth.Memory → SameTold l n
judges_looks plan w u scene text k l n a b is some (inr p) q none none' ample ample' = absurd (ample p.0)
judges_looks plan w u scene text k l n a b is some (inl p) (inr q) none none' ample ample' = absurd (ample' q.0)
judges_looks plan w u scene text k l n a b is some (inl p) (inl q) none none' ample ample' =
    let Judges : Reading → Type 0 = λ r. JudgesReading u scene r k b n in
    judges_reading_looks w u scene p.0 k l n a b is some p.2 (subst Judges (plan text q.0 p.0 q.1 p.1) q.2) none none' ample ample'

-- ---- one view
module _ (plan : OnePlan) (faults : ℕ) (low : faults < 2 ^ 64 - 1) where
  -- both views are one, which is calm
  abbrev pub SameView : MachineView → MachineView → Type 0
  SameView new other = (new ≡ other) × Calm faults new

  looks_same : {old : MachineView} (new other : MachineView) → OnlyLooks old new → OnlyLooks old other → SameTold new.looked other.looked → new.faults ≡ faults → other.faults ≡ faults → Calm faults old → SameView new other
  looks_same new other p q looks e e' calm = (
    same_view new other (p.world ∙ sym q.world) looks.0 (p.acted ∙ sym q.acted) (p.polled ∙ sym q.polled) (p.started ∙ sym q.started) (e ∙ sym e') (p.holds ∙ sym q.holds),
    record { world = subst IsSome (sym p.world) calm.world; looked = looks.1; acted = subst IsSome (sym p.acted) calm.acted; polled = subst IsSome (sym p.polled) calm.polled; count = e },
  )

  said_sound : (a : OneText) (x y : ℕ) → x ≡ faults → y ≡ faults → CountsIf (text_has_failed a) x y → fault_in (said a) ≡ 0
  said_sound (one_text.Failed place) x y is is' cause = absurd (no_rise faults x y low is is' cause)
  said_sound (one_text.Text text) x y is is' cause = refl
  said_sound (one_text.Error kind place) x y is is' cause = refl
  said_sound one_text.Memory x y is is' cause = refl

  judged_sound : (a : Truth) (x y : ℕ) → x ≡ faults → y ≡ faults → CountsIf (truth_has_failed a) x y → fault_in (judged a) ≡ 0
  judged_sound (truth.Failed place) x y is is' cause = absurd (no_rise faults x y low is is' cause)
  judged_sound truth.True x y is is' cause = refl
  judged_sound truth.False x y is is' cause = refl
  judged_sound (truth.Error kind place) x y is is' cause = refl
  judged_sound truth.Memory x y is is' cause = refl

  pub says_same : (scene : Scene) (text : List ℕ) (old : MachineView) (a b : OneText) (new other : MachineView) → Calm faults old → SaysOn scene text old a new → SaysOn scene text old b other
      → new.faults ≡ faults → other.faults ≡ faults → a ≢ one_text.Memory → b ≢ one_text.Memory → (a ≡ b) × SameView new other
  says_same scene text old a b new other calm p q e e' ample ample' =
      let none = said_sound a old.faults new.faults calm.count e p.cause in
      let none' = said_sound b old.faults other.faults calm.count e' q.cause in
      let w = some_of old.world calm.world in
      let looks = says_looks plan w.0 old.world scene text old.looked new.looked other.looked a b w.1 calm.looked p.says q.says none none' ample ample' in (
        says_once w.0 scene text old old a b new other w.1 w.1 p q none none' ample ample',
        looks_same new other p.only q.only looks e e' calm,
      )

  pub judges_same : (scene : Scene) (text : List ℕ) (old : MachineView) (a b : Truth) (new other : MachineView) → Calm faults old → JudgesOn scene text old a new → JudgesOn scene text old b other
      → new.faults ≡ faults → other.faults ≡ faults → a ≢ truth.Memory → b ≢ truth.Memory → (a ≡ b) × SameView new other
  judges_same scene text old a b new other calm p q e e' ample ample' =
      let none = judged_sound a old.faults new.faults calm.count e p.cause in
      let none' = judged_sound b old.faults other.faults calm.count e' q.cause in
      let w = some_of old.world calm.world in
      let looks = judges_looks plan w.0 old.world scene text old.looked new.looked other.looked a b w.1 calm.looked p.judges q.judges none none' ample ample' in (
        judges_once w.0 scene text old old a b new other w.1 w.1 p q none none' ample ample',
        looks_same new other p.only q.only looks e e' calm,
      )

  -- ---- commands and polls
  told_from : (u new : Option WorldState) (w : WorldState) (P : WorldState → WorldState → Type 0) → u ≡ Some w → Told u new P → (v : WorldState) × (new ≡ Some v) × P w v
  told_from None new w P is h = absurd (cc)
  told_from (Some x) None w P is h = absurd h
  told_from (Some x) (Some v) w P is h = let Q : WorldState → Type 0 = λ y. P y v in (v, refl, subst Q (some_same x w is) h)

  acted_as : (w v : WorldState) (command : Command) (moment : ℤ) (a : Acted) → Acts w v command moment a → a ≢ of_act.Memory → a ≢ of_act.Failed → done w command moment ≡ record { answer = a; after = v }
  acted_as w v command moment of_act.Done h ample sound = h
  acted_as w v command moment (of_act.Started process) h ample sound = h
  acted_as w v command moment (of_act.Refused reason) h ample sound = h
  acted_as w v command moment of_act.Failed h ample sound = absurd (sound refl)
  acted_as w v command moment of_act.Memory h ample sound = absurd (ample refl)

  pub acts_same : (moment : ℤ) (command : Command) (old : MachineView) (a b : Acted) (new other : MachineView) → Calm faults old → ActsOn moment command old a new → ActsOn moment command old b other
      → new.faults ≡ faults → other.faults ≡ faults → a ≢ of_act.Memory → b ≢ of_act.Memory → (a ≡ b) × SameView new other
  acts_same moment command old a b new other calm p q e e' ample ample' =
      let w = some_of old.world calm.world in
      let x = told_from old.world new.world w.0 (λ before now. Acts before now command moment a) w.1 p.world in
      let y = told_from old.world other.world w.0 (λ before now. Acts before now command moment b) w.1 q.world in
      let sound : a ≢ of_act.Failed = λ f. no_rise faults old.faults new.faults low calm.count e (p.counts.rose f) in
      let sound' : b ≢ of_act.Failed = λ f. no_rise faults old.faults other.faults low calm.count e' (q.counts.rose f) in
      let same = sym (acted_as w.0 x.0 command moment a x.2 ample sound) ∙ acted_as w.0 y.0 command moment b y.2 ample' sound' in
      let answer : a ≡ b = ap (λ (o : Outcome). o.answer) same in
      let world : new.world ≡ other.world = x.1 ∙ ap (λ (o : Outcome). Some o.after) same ∙ sym y.1 in
      let started = started_once b old.started new.started other.started sound' (subst (CountsStarted old.started new.started) answer p.started) q.started in
      let acted = grown_once old.acted new.acted other.acted _ _ calm.acted (ap (commands_added command) answer) p.acted q.acted in (
        answer,
        (same_view new other world (p.looked ∙ sym q.looked) acted.0 (p.polled ∙ sym q.polled) started (e ∙ sym e') (p.holds ∙ sym q.holds), record { world = subst IsSome (sym x.1) refl; looked = subst IsSome (sym p.looked) calm.looked; acted = acted.1; polled = subst IsSome (sym p.polled) calm.polled; count = e }),
      )

  polled_as : (w v : WorldState) (process : ℕ) (a : Polled) → PollAnswers w v process a → a ≢ of_poll.Failed → poll_of w process ≡ Some (record { answer = a; after = v })
  polled_as w v process of_poll.Running h sound = h
  polled_as w v process (of_poll.Exited code) h sound = h
  polled_as w v process of_poll.Failed h sound = absurd (sound refl)

  pub polls_same : (process : ℕ) (old : MachineView) (a b : Polled) (new other : MachineView) → Calm faults old → PollsOn process old a new → PollsOn process old b other
      → new.faults ≡ faults → other.faults ≡ faults → (a ≡ b) × SameView new other
  polls_same process old a b new other calm p q e e' =
      let w = some_of old.world calm.world in
      let x = told_from old.world new.world w.0 (λ before now. PollAnswers before now process a) w.1 p.world in
      let y = told_from old.world other.world w.0 (λ before now. PollAnswers before now process b) w.1 q.world in
      let sound : a ≢ of_poll.Failed = λ f. no_rise faults old.faults new.faults low calm.count e (p.counts.rose f) in
      let sound' : b ≢ of_poll.Failed = λ f. no_rise faults old.faults other.faults low calm.count e' (q.counts.rose f) in
      let one : PollOutcome = record { answer = a; after = x.0 } in
      let two : PollOutcome = record { answer = b; after = y.0 } in
      let same : one ≡ two = some_same one two (sym (polled_as w.0 x.0 process a x.2 sound) ∙ polled_as w.0 y.0 process b y.2 sound') in
      let answer : a ≡ b = ap (λ (o : PollOutcome). o.answer) same in
      let world : new.world ≡ other.world = x.1 ∙ ap (λ (o : PollOutcome). Some o.after) same ∙ sym y.1 in
      let polled = grown_once old.polled new.polled other.polled _ _ calm.polled (ap (numbers_added process) answer) p.polled q.polled in (
        answer,
        (same_view new other world (p.looked ∙ sym q.looked) (p.acted ∙ sym q.acted) polled.0 (p.started ∙ sym q.started) (e ∙ sym e') (p.holds ∙ sym q.holds), record { world = subst IsSome (sym x.1) refl; looked = subst IsSome (sym p.looked) calm.looked; acted = subst IsSome (sym p.acted) calm.acted; polled = polled.1; count = e }),
      )
