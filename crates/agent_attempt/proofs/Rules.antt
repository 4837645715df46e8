-- Success rules and targets that are asked.
use Rattle.std.proofs.Common.{◌≡◌, ◌↔◌, ℕ, Bool, true, false, List, inl, inr, Option, Some, None, refl, sym, ap, subst, ◌∙◌}
use Rattle.std.specs.Prelude.{Contains, IsTrue, is_some}
use Rattle.script_text.specs.declared.script.Script.{Script}
use Rattle.script_text.specs.Readings.{shown_script}
use Rattle.fix_site.specs.declared.action.Target.{Target}
use Rattle.fix_site.specs.declared.action.Target.TheVariants as target
use Rattle.fix_site.specs.declared.fixlet.Fixlet.{Fixlet}
use Rattle.fix_site.specs.declared.fixlet.Success.{Success}
use Rattle.fix_site.specs.declared.fixlet.Success.TheVariants as success
use Rattle.bf_machine.specs.Views.{MachineView}
use Rattle.script_run.specs.Asking.{When}
use Rattle.agent_attempt.specs.declared.found.Found.{Found}
use Rattle.agent_attempt.specs.declared.found.Found.TheVariants.{Yes, No}
use Rattle.agent_attempt.specs.ReadTexts.{IsScriptOf, success_clause, target_clause}
use Rattle.agent_attempt.specs.Relevance.{AllAre, Asks, FixletIs, HasScript, Succeeds, Targets, opposite}
use Rattle.agent_attempt.proofs.Asked.{OneVerdict, no_script}

-- the clause that is asked
pub asked_some : (at : When) (text own : List ℕ) (clause : Option (List ℕ)) (old : MachineView) (found : Found) (new : MachineView) → clause ≡ Some own → clause ≡ Some text →
    Asks at own old found new → Asks at text old found new
asked_some at text own clause old found new is e h = let same : own ≡ text = cc (is, e) in subst (λ t. Asks at t old found new) same h

-- ---- success rules; `f` is another name of the fixlet
pub succeeds_lines : (at : When) (own f : Fixlet) (v : MachineView) → f ≡ own → f.success ≡ success.Lines → Succeeds at own own.success v Yes v
succeeds_lines at own f v same is =
    subst (λ (x : Fixlet). Succeeds at x x.success v Yes v) same (subst (λ (s : Success). Succeeds at f s v Yes v) (sym is) (refl, refl))

pub succeeds_relevance : (at : When) (own f : Fixlet) (texts : List (List ℕ)) (old : MachineView) (found answer : Found) (new : MachineView) → f ≡ own → f.success ≡ success.Relevance → texts ≡ f.relevance →
    answer ≡ opposite found → AllAre at texts old found new → Succeeds at own own.success old answer new
succeeds_relevance at own f texts old found answer new same is are e h =
    subst (λ (x : Fixlet). Succeeds at x x.success old answer new) same
    (subst (λ (s : Success). Succeeds at f s old answer new) (sym is) (found, new, subst (λ l. AllAre at l old found new) are h, (e, refl)))

pub succeeds_clause : (at : When) (own f : Fixlet) (question : List ℕ) (clause : Option (List ℕ)) (old : MachineView) (found : Found) (new : MachineView) → f ≡ own → f.success ≡ success.Clause question →
    clause ≡ success_clause f.success → ((text : List ℕ) → clause ≡ Some text → Asks at text old found new) → Succeeds at own own.success old found new
succeeds_clause at own f question clause old found new same is reads asks =
    subst (λ (x : Fixlet). Succeeds at x x.success old found new) same
    (subst (λ (s : Success). Succeeds at f s old found new) (sym is) (asks question (reads ∙ ap success_clause is)))

-- ---- targets; `t` is the target by another name
pub targets_all : (at : When) (computer : List ℕ) (own t : Target) (v : MachineView) → t ≡ own → t ≡ target.All → Targets at computer own v Yes v
targets_all at computer own t v same is = subst (λ (x : Target). Targets at computer x v Yes v) same (subst (λ (x : Target). Targets at computer x v Yes v) (sym is) (refl, refl))

pub targets_named : (at : When) (computer : List ℕ) (own t : Target) (names there : List (List ℕ)) (v : MachineView) (result : Bool) → t ≡ own → t ≡ target.Computers names → there ≡ names → result ≡ true →
    (IsTrue result ↔ Contains there computer) → Targets at computer own v Yes v
targets_named at computer own t names there v result same is are so among =
    subst (λ (x : Target). Targets at computer x v Yes v) (sym is ∙ same)
    (inl (subst (λ l. Contains l computer) are (among.0 so), (refl, refl)))

pub targets_others : (at : When) (computer : List ℕ) (own t : Target) (names there : List (List ℕ)) (v : MachineView) (result : Bool) → t ≡ own → t ≡ target.Computers names → there ≡ names → result ≡ false →
    (IsTrue result ↔ Contains there computer) → Targets at computer own v No v
targets_others at computer own t names there v result same is are isnt among =
    subst (λ (x : Target). Targets at computer x v No v) (sym is ∙ same)
    (inr ((λ h. let so : result ≡ true = among.1 (subst (λ l. Contains l computer) (sym are) h) in absurd (cc)), (refl, refl)))

pub targets_where : (at : When) (computer : List ℕ) (own t : Target) (question : List ℕ) (clause : Option (List ℕ)) (old : MachineView) (found : Found) (new : MachineView) → t ≡ own → t ≡ target.Where question →
    clause ≡ target_clause t → ((text : List ℕ) → clause ≡ Some text → Asks at text old found new) → Targets at computer own old found new
targets_where at computer own t question clause old found new same is reads asks =
    subst (λ (x : Target). Targets at computer x old found new) (sym is ∙ same) (asks question (reads ∙ ap target_clause is))

-- ---- scripts and relevance; `f` is another name of the fixlet
tells_script : OneVerdict → (lines : List (List ℕ)) (script : Option Script) → IsScriptOf lines script → IsTrue (is_some script) ↔ HasScript lines
tells_script one_verdict lines None h = ((λ e. absurd (cc)), (λ k. absurd (no_script one_verdict lines h k)))
tells_script one_verdict lines (Some script) h = ((λ _. (shown_script script, h)), (λ _. refl))

pub has_script : OneVerdict → (own f : Fixlet) (script : Option Script) (some : Bool) → f ≡ own → is_some script ≡ some → IsScriptOf f.script script → IsTrue some ↔ HasScript own.script
has_script one_verdict own f script some same is h =
    subst (λ (x : Fixlet). IsTrue some ↔ HasScript x.script) same
    (subst (λ b. IsTrue b ↔ HasScript f.script) is (tells_script one_verdict f.script script h))

pub relevant_refused : (at : When) (own f : Fixlet) (has : Bool) (v : MachineView) → f ≡ own → has ≡ false → (IsTrue has ↔ HasScript f.script) → FixletIs at own v No v
relevant_refused at own f has v same isnt is =
    subst (λ (x : Fixlet). FixletIs at x v No v) same (inr ((λ h. let so : has ≡ true = is.1 h in absurd (cc)), (refl, refl)))

pub relevant_asked : (at : When) (own f : Fixlet) (has : Bool) (texts : List (List ℕ)) (old : MachineView) (found : Found) (new : MachineView) → f ≡ own → has ≡ true → (IsTrue has ↔ HasScript f.script) →
    texts ≡ f.relevance → AllAre at texts old found new → FixletIs at own old found new
relevant_asked at own f has texts old found new same so is are asks =
    subst (λ (x : Fixlet). FixletIs at x old found new) same (inl (is.0 so, subst (λ l. AllAre at l old found new) are asks))
