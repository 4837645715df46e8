-- Where no look fails and memory lasts, a text has one answer in a world. Other crates may cite these lemmas.
use Rattle.std.proofs.Common.{◌≡◌, ◌≢◌, ℕ, Bool, true, false, List, [], ◌∷◌, Option, Some, refl, sym, ap, subst, ◌∙◌, inl, inr, arith}
use Rattle.rel_value.specs.Plain.{boolean, words, booleans}
use Rattle.bf_world.specs.declared.key.Key.{Key}
use Rattle.bf_world.specs.Worlds.{WorldState}
use Rattle.bf_machine.specs.Views.{MachineView}
use Rattle.rel_sources.specs.declared.scene.Scene.{Scene}
use Rattle.rel_types.specs.Plans.{PlainNode, is_plural, kind_of}
use Rattle.rel_types.specs.Alike.{same_kind}
use Rattle.rel_trace.specs.Trace.{Error, Event, Look, Turn, Give, Trace, Ends, After, one}
use Rattle.rel_nodes.specs.Spans.{span_of_node}
use Rattle.rel_nodes.specs.Steps.{prepend, gives}
use Rattle.rel_eval.specs.declared.told.OneText.{OneText}
use Rattle.rel_eval.specs.declared.told.OneText.TheVariants as one_text
use Rattle.rel_eval.specs.declared.told.Truth.{Truth}
use Rattle.rel_eval.specs.declared.told.Truth.TheVariants as truth
use Rattle.rel_eval.specs.Cuts.{meaning}
use Rattle.rel_eval.specs.Pulls.{Skips}
use Rattle.rel_eval.specs.Questions.{Reading, question, refused, undefined}
use Rattle.rel_eval.specs.Singles.{one_text_of, truth_of, TellsText, TellsTruth}
use Rattle.rel_eval.proofs.OnePlan.{reading_is_one}
use Rattle.script_run.specs.Walks.{said, judged, fault_in}
use Rattle.script_run.specs.Asking.{SaysQuestion, SaysReading, SaysText, SaysOn, JudgesKind, JudgesQuestion, JudgesReading, JudgesText, JudgesOn}

-- ---- traces
-- it begins with its end or with a value
abbrev IsHead : Trace → Type 0
IsHead (Ends end) = Unit {0}
IsHead (After (Give v) t) = Unit {0}
IsHead (After event t) = ⊥

abbrev rest_of : Trace → Trace
rest_of (After event t) = t
rest_of (Ends end) = Ends end

rest_quiet : (event : Event) (events : List Event) → gives (event ∷ events) ≡ [] → gives events ≡ []
rest_quiet (Look place key) events quiet = quiet
rest_quiet (Turn place) events quiet = quiet
rest_quiet (Give v) events quiet = absurd (cc)

no_head : (event : Event) (events : List Event) (t : Trace) → gives (event ∷ events) ≡ [] → IsHead (After event t) → ⊥
no_head (Look place key) events t quiet head = head
no_head (Turn place) events t quiet head = head
no_head (Give v) events t quiet head = absurd (cc)

-- events without a value are followed by one end or value
used_once : (es fs : List Event) (u v : Trace) → gives es ≡ [] → gives fs ≡ [] → IsHead u → IsHead v → prepend es u ≡ prepend fs v → u ≡ v
used_once [] [] u v p q a b is = is
used_once [] (f ∷ fs) u v p q a b is = absurd (no_head f fs (prepend fs v) q (subst IsHead is a))
used_once (e ∷ es) [] u v p q a b is = absurd (no_head e es (prepend es u) p (subst IsHead (sym is) b))
used_once (e ∷ es) (f ∷ fs) u v p q a b is = used_once es fs u v (rest_quiet e es p) (rest_quiet f fs q) a b (ap rest_of is)

skips_once : (t u v : Trace) (k l : List Key) → Skips t k u → Skips t l v → IsHead u → IsHead v → u ≡ v
skips_once t u v k l a b p q = used_once a.events b.events u v a.quiet b.quiet p q (sym a.whole ∙ b.whole)

-- ---- expressions
-- what an end or a value is as the answer of an expression
abbrev text_at : Trace → OneText
text_at (After (Give (words t)) u) = one_text.Text t
text_at (Ends (Error kind place)) = one_text.Error kind place
text_at _ = one_text.Memory

text_heads : (t : Trace) (a : OneText) (k : List Key) → TellsText t a k → fault_in (said a) ≡ 0 → a ≢ one_text.Memory → (u : Trace) × Skips t k u × IsHead u × (text_at u ≡ a)
text_heads t (one_text.Text x) k h none ample = (one (words x), h, tt, refl)
text_heads t (one_text.Error kind place) k h none ample = (Ends (Error kind place), h, tt, refl)
text_heads t (one_text.Failed place) k h none ample = absurd (omega (arith, none))
text_heads t one_text.Memory k h none ample = absurd (ample refl)

texts_once : (t : Trace) (a b : OneText) (k l : List Key) → TellsText t a k → TellsText t b l → fault_in (said a) ≡ 0 → fault_in (said b) ≡ 0 → a ≢ one_text.Memory → b ≢ one_text.Memory → a ≡ b
texts_once t a b k l p q none none' ample ample' =
    let x = text_heads t a k p none ample in
    let y = text_heads t b l q none' ample' in
    sym x.3 ∙ ap text_at (skips_once t x.0 y.0 k l x.1 y.1 x.2 y.2) ∙ y.3

says_question_once : (plural : Bool) (w : WorldState) (u v : Option WorldState) (scene : Scene) (plan : PlainNode) (k l m n : Option (List Key)) (a b : OneText) → u ≡ Some w → v ≡ Some w →
    SaysQuestion plural u scene plan k a l → SaysQuestion plural v scene plan m b n → fault_in (said a) ≡ 0 → fault_in (said b) ≡ 0 → a ≢ one_text.Memory → b ≢ one_text.Memory → a ≡ b
says_question_once true w u v scene plan k l m n a b is is' p q none none' ample ample' = p.0 ∙ sym q.0
says_question_once false w u v scene plan k l m n a b is is' p q none none' ample ample' =
    let x = p w is in
    let y = q w is' in
    texts_once (one_text_of (span_of_node plan) scene.offset (meaning w scene plan)) a b x.0 y.0 x.2 y.2 none none' ample ample'

says_reading_once : (w : WorldState) (u v : Option WorldState) (scene : Scene) (reading : Reading) (k l m n : Option (List Key)) (a b : OneText) → u ≡ Some w → v ≡ Some w →
    SaysReading u scene reading k a l → SaysReading v scene reading m b n → fault_in (said a) ≡ 0 → fault_in (said b) ≡ 0 → a ≢ one_text.Memory → b ≢ one_text.Memory → a ≡ b
says_reading_once w u v scene (question plan) k l m n a b is is' p q none none' ample ample' = says_question_once (is_plural plan) w u v scene plan k l m n a b is is' p q none none' ample ample'
says_reading_once w u v scene (refused kind place) k l m n a b is is' p q none none' ample ample' = p.0 ∙ sym q.0
says_reading_once w u v scene (undefined place missing) k l m n a b is is' p q none none' ample ample' = p.0 ∙ sym q.0

says_text_once : (w : WorldState) (u v : Option WorldState) (scene : Scene) (text : List ℕ) (k l m n : Option (List Key)) (a b : OneText) → u ≡ Some w → v ≡ Some w →
    SaysText u scene text k a l → SaysText v scene text m b n → fault_in (said a) ≡ 0 → fault_in (said b) ≡ 0 → a ≢ one_text.Memory → b ≢ one_text.Memory → a ≡ b
says_text_once w u v scene text k l m n a b is is' (inr p) q none none' ample ample' = absurd (ample p.0)
says_text_once w u v scene text k l m n a b is is' (inl p) (inr q) none none' ample ample' = absurd (ample' q.0)
says_text_once w u v scene text k l m n a b is is' (inl p) (inl q) none none' ample ample' =
    let Says : Reading → Type 0 = λ r. SaysReading v scene r m b n in
    says_reading_once w u v scene p.0 k l m n a b is is' p.2 (subst Says (sym (reading_is_one text p.0 q.0 p.1 q.1)) q.2) none none' ample ample'

pub says_once : (w : WorldState) (scene : Scene) (text : List ℕ) (old past : MachineView) (a b : OneText) (new other : MachineView) → old.world ≡ Some w → past.world ≡ Some w →
    SaysOn scene text old a new → SaysOn scene text past b other → fault_in (said a) ≡ 0 → fault_in (said b) ≡ 0 → a ≢ one_text.Memory → b ≢ one_text.Memory → a ≡ b
says_once w scene text old past a b new other is is' p q none none' ample ample' =
    says_text_once w old.world past.world scene text old.looked new.looked past.looked other.looked a b is is' p.says q.says none none' ample ample'

-- ---- tests
abbrev truth_at : Trace → Truth
truth_at (After (Give (boolean true)) u) = truth.True
truth_at (After (Give (boolean false)) u) = truth.False
truth_at (Ends (Error kind place)) = truth.Error kind place
truth_at _ = truth.Memory

truth_heads : (t : Trace) (a : Truth) (k : List Key) → TellsTruth t a k → fault_in (judged a) ≡ 0 → a ≢ truth.Memory → (u : Trace) × Skips t k u × IsHead u × (truth_at u ≡ a)
truth_heads t truth.True k h none ample = (one (boolean true), h, tt, refl)
truth_heads t truth.False k h none ample = (one (boolean false), h, tt, refl)
truth_heads t (truth.Error kind place) k h none ample = (Ends (Error kind place), h, tt, refl)
truth_heads t (truth.Failed place) k h none ample = absurd (omega (arith, none))
truth_heads t truth.Memory k h none ample = absurd (ample refl)

truths_once : (t : Trace) (a b : Truth) (k l : List Key) → TellsTruth t a k → TellsTruth t b l → fault_in (judged a) ≡ 0 → fault_in (judged b) ≡ 0 → a ≢ truth.Memory → b ≢ truth.Memory → a ≡ b
truths_once t a b k l p q none none' ample ample' =
    let x = truth_heads t a k p none ample in
    let y = truth_heads t b l q none' ample' in
    sym x.3 ∙ ap truth_at (skips_once t x.0 y.0 k l x.1 y.1 x.2 y.2) ∙ y.3

judges_kind_once : (fits : Bool) (w : WorldState) (u v : Option WorldState) (scene : Scene) (plan : PlainNode) (k l m n : Option (List Key)) (a b : Truth) → u ≡ Some w → v ≡ Some w →
    JudgesKind fits u scene plan k a l → JudgesKind fits v scene plan m b n → fault_in (judged a) ≡ 0 → fault_in (judged b) ≡ 0 → a ≢ truth.Memory → b ≢ truth.Memory → a ≡ b
judges_kind_once false w u v scene plan k l m n a b is is' p q none none' ample ample' = p.0 ∙ sym q.0
judges_kind_once true w u v scene plan k l m n a b is is' p q none none' ample ample' =
    let x = p w is in
    let y = q w is' in
    truths_once (truth_of (span_of_node plan) (meaning w scene plan)) a b x.0 y.0 x.2 y.2 none none' ample ample'

judges_question_once : (plural : Bool) (w : WorldState) (u v : Option WorldState) (scene : Scene) (plan : PlainNode) (k l m n : Option (List Key)) (a b : Truth) → u ≡ Some w → v ≡ Some w →
    JudgesQuestion plural u scene plan k a l → JudgesQuestion plural v scene plan m b n → fault_in (judged a) ≡ 0 → fault_in (judged b) ≡ 0 → a ≢ truth.Memory → b ≢ truth.Memory → a ≡ b
judges_question_once true w u v scene plan k l m n a b is is' p q none none' ample ample' = p.0 ∙ sym q.0
judges_question_once false w u v scene plan k l m n a b is is' p q none none' ample ample' =
    judges_kind_once (same_kind (kind_of plan) booleans) w u v scene plan k l m n a b is is' p q none none' ample ample'

judges_reading_once : (w : WorldState) (u v : Option WorldState) (scene : Scene) (reading : Reading) (k l m n : Option (List Key)) (a b : Truth) → u ≡ Some w → v ≡ Some w →
    JudgesReading u scene reading k a l → JudgesReading v scene reading m b n → fault_in (judged a) ≡ 0 → fault_in (judged b) ≡ 0 → a ≢ truth.Memory → b ≢ truth.Memory → a ≡ b
judges_reading_once w u v scene (question plan) k l m n a b is is' p q none none' ample ample' = judges_question_once (is_plural plan) w u v scene plan k l m n a b is is' p q none none' ample ample'
judges_reading_once w u v scene (refused kind place) k l m n a b is is' p q none none' ample ample' = p.0 ∙ sym q.0
judges_reading_once w u v scene (undefined place missing) k l m n a b is is' p q none none' ample ample' = p.0 ∙ sym q.0

judges_text_once : (w : WorldState) (u v : Option WorldState) (scene : Scene) (text : List ℕ) (k l m n : Option (List Key)) (a b : Truth) → u ≡ Some w → v ≡ Some w →
    JudgesText u scene text k a l → JudgesText v scene text m b n → fault_in (judged a) ≡ 0 → fault_in (judged b) ≡ 0 → a ≢ truth.Memory → b ≢ truth.Memory → a ≡ b
judges_text_once w u v scene text k l m n a b is is' (inr p) q none none' ample ample' = absurd (ample p.0)
judges_text_once w u v scene text k l m n a b is is' (inl p) (inr q) none none' ample ample' = absurd (ample' q.0)
judges_text_once w u v scene text k l m n a b is is' (inl p) (inl q) none none' ample ample' =
    let Judges : Reading → Type 0 = λ r. JudgesReading v scene r m b n in
    judges_reading_once w u v scene p.0 k l m n a b is is' p.2 (subst Judges (sym (reading_is_one text p.0 q.0 p.1 q.1)) q.2) none none' ample ample'

pub judges_once : (w : WorldState) (scene : Scene) (text : List ℕ) (old past : MachineView) (a b : Truth) (new other : MachineView) → old.world ≡ Some w → past.world ≡ Some w →
    JudgesOn scene text old a new → JudgesOn scene text past b other → fault_in (judged a) ≡ 0 → fault_in (judged b) ≡ 0 → a ≢ truth.Memory → b ≢ truth.Memory → a ≡ b
judges_once w scene text old past a b new other is is' p q none none' ample ample' =
    judges_text_once w old.world past.world scene text old.looked new.looked past.looked other.looked a b is is' p.judges q.judges none none' ample ample'
