-- What is asked of the component at hand is asked of the first of the components that are left.
use Rattle.std.proofs.Common.{◌≡◌, ◌<◌, List, [], ◌∷◌, length, get_or, Option, Some, Result, Ok, Err, refl, sym, ap, subst, ◌∙◌, arith}
use Rattle.std.specs.Prelude.{IfOk}
use Rattle.script_text.specs.declared.script.Script.{Script}
use Rattle.bf_machine.specs.Views.{MachineView}
use Rattle.script_run.specs.Asking.{When}
use Rattle.agent_attempt.specs.declared.found.Found.{Found}
use Rattle.agent_attempt.specs.declared.attempt.Part.{Part}
use Rattle.agent_attempt.specs.ReadTexts.{IsScriptOf}
use Rattle.agent_attempt.specs.Relevance.{FixletIs, HasScript, Succeeds}
use Rattle.agent_attempt.specs.Stages.{FirstHasScript}
use Rattle.agent_attempt.specs.AttemptSteps.{first_component}

-- the first of a list
first_is : (part own : Part) (rest left : List Part) → left ≡ part ∷ rest → own ≡ get_or left 0 own → own ≡ part
first_is part own rest left e is = is ∙ ap (λ l. get_or l 0 own) e

pub first_fixlet : (at : When) (part own : Part) (rest left : List Part) (old : MachineView) (found : Found) (new : MachineView) → left ≡ part ∷ rest → own ≡ get_or left 0 own →
    FixletIs at own.fixlet old found new → FixletIs at part.fixlet old found new
first_fixlet at part own rest left old found new e is h = subst (λ (p : Part). FixletIs at p.fixlet old found new) (first_is part own rest left e is) h

pub first_succeeds : (at : When) (part own : Part) (rest left : List Part) (old : MachineView) (found : Found) (new : MachineView) → left ≡ part ∷ rest → own ≡ get_or left 0 own →
    Succeeds at own.fixlet own.fixlet.success old found new → Succeeds at part.fixlet part.fixlet.success old found new
first_succeeds at part own rest left old found new e is h = subst (λ (p : Part). Succeeds at p.fixlet p.fixlet.success old found new) (first_is part own rest left e is) h

pub first_script : (part own : Part) (rest left : List Part) (script : Option Script) → left ≡ part ∷ rest → own ≡ get_or left 0 own → IsScriptOf own.fixlet.script script → IsScriptOf part.fixlet.script script
first_script part own rest left script e is h = subst (λ (p : Part). IsScriptOf p.fixlet.script script) (first_is part own rest left e is) h

pub first_position : (own : Part) (left : List Part) → 0 < length left → own ≡ get_or left 0 own → own.component ≡ first_component left
first_position own [] some is = absurd (omega arith)
first_position own (part ∷ left) some is = ap (λ (p : Part). p.component) is

pub no_position : (left : List Part) → ¬ (0 < length left) → 0 ≡ first_component left
no_position [] none = refl
no_position (part ∷ left) none = absurd (none (omega arith))

-- the script of the first of the components, where it was read
pub script_first : {E : Type 0} (own : Part) (left there : List Part) (result : Result Script E) → left ≡ there → own ≡ get_or left 0 own → IfOk result (λ script. IsScriptOf own.fixlet.script (Some script)) →
    IfOk result (λ script. (part : Part) (rest : List Part) → there ≡ part ∷ rest → IsScriptOf part.fixlet.script (Some script))
script_first own left there (Ok script) same is h = λ part rest e. first_script part own rest left (Some script) (same ∙ e) is h
script_first own left there (Err error) same is h = tt

-- ---- that there is a script
pub first_has_script : (own : Part) (left there : List Part) → left ≡ there → own ≡ get_or left 0 own → 0 < length there → FirstHasScript there → HasScript own.fixlet.script
first_has_script own left [] same is some h = absurd (omega arith)
first_has_script own left (part ∷ rest) same is some h =
    let here : own ≡ part = first_is part own rest left same is in
    subst (λ (p : Part). HasScript p.fixlet.script) (sym here) h

pub has_script_first : (part : Part) (rest left there : List Part) → left ≡ there → there ≡ part ∷ rest → HasScript part.fixlet.script → FirstHasScript left
has_script_first part rest left there same e h = subst FirstHasScript (sym (same ∙ e)) h
