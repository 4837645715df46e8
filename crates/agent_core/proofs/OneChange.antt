-- Settling, gathering, supplying and opening go in one way.
use Rattle.std.proofs.Common.{◌≡◌, ◌≢◌, ℕ, ◌<◌, ◌≤◌, Bool, true, false, List, IsSome, Option, Some, None, refl, sym, ap, subst, ◌∙◌, arith}
use Rattle.std.specs.Prelude.{IsTrue, ◌↔◌}
use Rattle.report_text.specs.declared.answer.Gathered.{Gathered}
use Rattle.report_text.specs.declared.answer.Gathered.TheVariants as gathered
use Rattle.report_text.specs.declared.answer.Verdict.{Verdict}
use Rattle.report_text.specs.declared.answer.Verdict.TheVariants as verdict
use Rattle.fix_site.specs.declared.site.Site.{Site}
use Rattle.agent_text.specs.Pockets.{Holds}
use Rattle.agent_text.proofs.SavedAnswers.{LinesAgain}
use Rattle.agent_attempt.specs.ActionContents.{site_at}
use Rattle.agent_attempt.specs.Attempts.{PlainAttempt, PlainStage, running}
use Rattle.agent_attempt.specs.Supplies.{StageTakes, Supplies, Takes, wanted_of}
use Rattle.agent_state.specs.Changes.{DropsState, GathersSite, SettlesState, SuppliesHeld, SuppliesState, has_report, kept_version}
use Rattle.agent_state.specs.States.{State, with_held}
use Rattle.agent_core.specs.Opens.{IsAgentOf, opened_state}
use Rattle.agent_core.proofs.SavedOnce.{OneSaved, saved_once}

-- ---- settling
apart : (b : Bool) → b ≡ true → b ≡ false → ⊥
apart b is isnt = cc

drops_once : (seq : ℕ) (s s2 s3 : State) (a b : Bool) → DropsState seq s a s2 → DropsState seq s b s3 → (a ≡ b) × (s2 ≡ s3)
drops_once seq s s2 s3 true true p q = (refl, p.1 ∙ sym q.1)
drops_once seq s s2 s3 false false p q = (refl, p.1 ∙ sym q.1)
drops_once seq s s2 s3 true false p q = absurd (apart (has_report seq s.reports) p.0 q.0)
drops_once seq s s2 s3 false true p q = absurd (apart (has_report seq s.reports) q.0 p.0)

pub settles_once : (seq : ℕ) (v : Verdict) (s s2 s3 : State) (a b : Bool) → SettlesState seq v s a s2 → SettlesState seq v s b s3 → (a ≡ b) × (s2 ≡ s3)
settles_once seq verdict.Stored s s2 s3 a b p q = drops_once seq s s2 s3 a b p q
settles_once seq _ s s2 s3 a b p q = (p.0 ∙ sym q.0, p.1 ∙ sym q.1)

-- ---- gathering
-- a version isn't both above the kept one and no greater
never_both : (kept version told : ℕ) → kept < version → told ≡ kept → version ≤ told → ⊥
never_both kept version told above is below = omega (arith, above, is, below)

pub gathers_once : (site : Site) (s s2 s3 : State) (a b : Gathered) → GathersSite s site a s2 → GathersSite s site b s3 → a ≢ gathered.Memory → b ≢ gathered.Memory → (a ≡ b) × (s2 ≡ s3)
gathers_once site s s2 s3 gathered.New gathered.New p q ample ample' = (refl, p.1 ∙ sym q.1)
gathers_once site s s2 s3 gathered.New (gathered.Older version) p q ample ample' = absurd (never_both (kept_version (site_at site.name s.sites)) site.version version p.0 q.0 q.1)
gathers_once site s s2 s3 gathered.New gathered.Memory p q ample ample' = absurd (ample' refl)
gathers_once site s s2 s3 (gathered.Older version) gathered.New p q ample ample' = absurd (never_both (kept_version (site_at site.name s.sites)) site.version version q.0 p.0 p.1)
gathers_once site s s2 s3 (gathered.Older version) (gathered.Older other) p q ample ample' = (ap (λ n. gathered.Older n) (p.0 ∙ sym q.0), p.2 ∙ sym q.2)
gathers_once site s s2 s3 (gathered.Older version) gathered.Memory p q ample ample' = absurd (ample' refl)
gathers_once site s s2 s3 gathered.Memory b p q ample ample' = absurd (ample refl)

-- ---- supplying
takes_stage : (stage x y : PlainStage) (bytes : Option (List ℕ)) → StageTakes stage bytes x → StageTakes stage bytes y → x ≡ y
takes_stage (running rest wanted) (running f a) (running g b) bytes p q =
    let walks : f ≡ g = λ j more. (p.1 more ∙ sym (q.1 more)) j in
    let wants : a ≡ b = p.0 ∙ sym q.0 in
    λ j. running (walks j) (wants j)
takes_stage (running rest wanted) (running f a) y bytes p q = absurd q
takes_stage (running rest wanted) x y bytes p q = absurd p
takes_stage stage x y bytes p q = absurd p

abbrev at_stage : PlainAttempt → PlainStage → PlainAttempt
at_stage attempt stage = record attempt { stage = stage }

takes_once : (old x y : PlainAttempt) (bytes : Option (List ℕ)) (a : Bool) → Takes old bytes a x → Takes old bytes a y → x ≡ y
takes_once old x y bytes true p q = p.0 ∙ ap (at_stage old) (takes_stage old.stage x.stage y.stage bytes p.1 q.1) ∙ sym q.0
takes_once old x y bytes false p q = p ∙ sym q

untrue : false ≡ true → ⊥
untrue e = cc

same_answer : (a b : Bool) (X : Type 0) → (IsTrue a ↔ X) → (IsTrue b ↔ X) → a ≡ b
same_answer true true X p q = refl
same_answer false false X p q = refl
same_answer true false X p q = absurd (untrue (q.1 (p.0 refl)))
same_answer false true X p q = absurd (untrue (p.1 (q.0 refl)))

supplies_once : (old x y : PlainAttempt) (digest : List ℕ) (bytes : Option (List ℕ)) (a b : Bool) → Supplies old digest bytes a x → Supplies old digest bytes b y → (a ≡ b) × (x ≡ y)
supplies_once old x y digest bytes a b p q =
    let same : a ≡ b = same_answer a b (wanted_of old.stage ≡ Some digest) p.0 q.0 in
    (same, takes_once old x y bytes a p.1 (subst (λ z. Takes old bytes z y) (sym same) q.1))

held_once : (held x y : Option PlainAttempt) (digest : List ℕ) (bytes : Option (List ℕ)) (a b : Bool) → SuppliesHeld held digest bytes a x → SuppliesHeld held digest bytes b y → (a ≡ b) × (x ≡ y)
held_once None x y digest bytes a b p q = (p.0 ∙ sym q.0, p.1 ∙ sym q.1)
held_once (Some old) None y digest bytes a b p q = absurd p
held_once (Some old) (Some x) None digest bytes a b p q = absurd q
held_once (Some old) (Some x) (Some y) digest bytes a b p q =
    let same = supplies_once old x y digest bytes a b p q in
    (same.0, ap (λ z. Some z) same.1)

pub state_once : (s s2 s3 : State) (digest : List ℕ) (bytes : Option (List ℕ)) (a b : Bool) → SuppliesState s digest bytes a s2 → SuppliesState s digest bytes b s3 → (a ≡ b) × (s2 ≡ s3)
state_once s s2 s3 digest bytes a b p q =
    let same = held_once s.held s2.held s3.held digest bytes a b p.1 q.1 in
    (same.0, p.0 ∙ ap (λ held. with_held held s) same.1 ∙ sym q.0)

-- ---- opening
agent_once : OneSaved → LinesAgain → (computer : List ℕ) (found : Option (List ℕ)) (s other : State) → IsAgentOf computer found s → IsAgentOf computer found other → s ≡ other
agent_once one law computer None s other p q = p ∙ sym q
agent_once one law computer (Some text) s other (what, (form, by, read), is) (again, (form', by', read'), is') =
    let same = saved_once one law text what again (form, (by.0, by.1, refl), read) (form', (by'.0, by'.1, refl), read') in
    is ∙ ap opened_state same ∙ sym is'

pub opens_once : OneSaved → LinesAgain → (computer : List ℕ) (told : Option (Option (List ℕ))) (s other : State) (found again : Option (List ℕ)) → IsSome told
    → Holds told (λ now. now ≡ found) → IsAgentOf computer found s → Holds told (λ now. now ≡ again) → IsAgentOf computer again other → s ≡ other
opens_once one law computer None s other found again some is p is' q = absurd (cc)
opens_once one law computer (Some now) s other found again some is p is' q = agent_once one law computer found s other p (subst (λ x. IsAgentOf computer x other) (sym is' ∙ is) q)
