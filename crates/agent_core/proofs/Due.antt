-- Actions that are due: they may begin, and have relevant content.
use Rattle.std.proofs.Common.{ℕ, ◌≡◌, ℤ, Bool, true, false, List, inl, inr, refl, sym, ◌∙◌, subst}
use Rattle.std.specs.declared.option.Option.{Option}
use Rattle.std.specs.Prelude.{IfSome, IsTrue, IsSome, IsSomeAnd, None, Some}
use Rattle.line_forms.specs.Numbers.{IsId}
use Rattle.act_rules.specs.declared.row.Row.{Row}
use Rattle.act_rules.specs.declared.rule.Rules.{Rules}
use Rattle.act_rules.specs.Owed.{IsOwed}
use Rattle.act_rules.specs.Rows.{HasEnded, last_row}
use Rattle.fix_site.specs.declared.action.Action.{Action}
use Rattle.fix_site.specs.declared.action.Target.{Target}
use Rattle.fix_site.specs.declared.fixlet.Fixlet.{Fixlet}
use Rattle.script_run.specs.Asking.{When}
use Rattle.bf_machine.specs.Views.{MachineView}
use Rattle.agent_text.specs.Histories.{PlainHistory, rows_at}
use Rattle.agent_attempt.specs.declared.found.Found.{Found}
use Rattle.agent_attempt.specs.declared.found.Found.TheVariants.{Yes, No, Failed, Memory}
use Rattle.agent_attempt.specs.Attempts.{PlainAttempt, StageWaitsBelow, first_stage}
use Rattle.agent_attempt.specs.ActionContents.{Content, single, group}
use Rattle.agent_attempt.specs.Relevance.{AsksThen, ContentIs, HasScript, FixletIs, IsDue, MayBegin, Targets, and_then}
use Rattle.agent_state.specs.States.{State, with_histories}
use Rattle.agent_core.specs.Steps.{CanBegin}
use Rattle.agent_core.specs.Turns.{beginning}

-- ---- it may begin
-- what is said not to hold doesn't
pub said_not : (may : Bool) (May : Type 0) → may ≡ false → (May → IsTrue may) → ¬ May
said_not may May isnt says holds = let both : false ≡ true = sym isnt ∙ says holds in absurd (cc)

pub due_may : (at : When) (computer : List ℕ) (action : Action) (content : Option Content) (rows : List Row) (old new : MachineView) → IsDue at computer action content rows old Yes new → MayBegin at action rows
due_may at computer action content rows old new (inl h) = h.0
due_may at computer action content rows old new (inr h) = let e = h.1.0 in absurd (cc)

some_end : {X : Type 0} (o : Option X) (P : X → Type 0) → IsSomeAnd o P → IsSome o
some_end None P h = absurd h
some_end (Some x) P h = refl

last_ended : (o : Option Row) (P : Row → ℤ → Type 0) → IsSomeAnd o (λ row. IsSomeAnd row.end (λ end. P row end.0)) → IfSome o HasEnded
last_ended None P h = tt
last_ended (Some row) P h = some_end row.end (λ end. P row end.0) h

-- where a run is owed the last row has ended
pub owed_ended : (rules : Rules) (rows : List Row) (moment : ℤ) → IsOwed rules rows moment → IfSome (last_row rows) HasEnded
owed_ended rules rows moment (inl none) = subst (λ l. IfSome (last_row l) HasEnded) (sym none) tt
owed_ended rules rows moment (inr (inl retry)) = last_ended (last_row rows) _ retry
owed_ended rules rows moment (inr (inr again)) = last_ended (last_row rows) _ again

-- ---- its content is relevant
then_relevant : (at : When) (content : Option Content) (found : Found) (between new : MachineView) → and_then found (ContentIs at content) between Yes new → ContentIs at content between Yes new
then_relevant at content Yes between new h = h
then_relevant at content No between new h = let e = h.0 in absurd (cc)
then_relevant at content Failed between new h = let e = h.0 in absurd (cc)
then_relevant at content Memory between new h = let e = h.0 in absurd (cc)

wanted_relevant : (at : When) (computer : List ℕ) (target : Target) (content : Option Content) (old new : MachineView)
    → AsksThen (Targets at computer target) (λ found. and_then found (ContentIs at content)) old Yes new
    → (between : MachineView) × ContentIs at content between Yes new
wanted_relevant at computer target content old new h = (h.1, then_relevant at content h.0 h.1 new h.3)

script_of : (at : When) (fixlet : Fixlet) (old new : MachineView) → FixletIs at fixlet old Yes new → HasScript fixlet.script
script_of at fixlet old new (inl h) = h.0
script_of at fixlet old new (inr h) = let e = h.1.0 in absurd (cc)

pub wanted_script : (at : When) (computer : List ℕ) (target : Target) (content : Option Content) (old new : MachineView) (fixlet : Fixlet) → content ≡ Some (single fixlet)
    → AsksThen (Targets at computer target) (λ found. and_then found (ContentIs at content)) old Yes new
    → HasScript fixlet.script
wanted_script at computer target content old new fixlet is h =
    let there = wanted_relevant at computer target content old new h in
    script_of at fixlet there.0 new (subst (λ o. ContentIs at o there.0 Yes new) is there.1)

pub wanted_gathered : (at : When) (computer : List ℕ) (target : Target) (content : Option Content) (old new : MachineView) → content ≡ None
    → AsksThen (Targets at computer target) (λ found. and_then found (ContentIs at content)) old Yes new → ⊥
wanted_gathered at computer target content old new none h =
    let there = wanted_relevant at computer target content old new h in
    let asked : ContentIs at None there.0 Yes new = subst (λ o. ContentIs at o there.0 Yes new) none there.1 in
    let e = asked.0 in cc

-- what was asked of an action, by its content and its rows
pub asked_of : (at : When) (computer : List ℕ) (action : Action) (content there : Option Content) (rows own : List Row) (old new : MachineView) (found is : Found) → content ≡ there → rows ≡ own → found ≡ is
    → IsDue at computer action content rows old found new → IsDue at computer action there own old is new
asked_of at computer action content there rows own old new found is same alike so h =
    subst (λ (x : Found). IsDue at computer action there own old x new) so (subst (λ (l : List Row). IsDue at computer action there l old found new) alike (subst (λ (o : Option Content). IsDue at computer action o rows old found new) same h))

-- ---- the attempt that begins
first_waits : (content : Content) (started : ℕ) → StageWaitsBelow started (first_stage content)
first_waits (single fixlet) started = tt
first_waits (group relevance components) started = tt

pub can_begin : (at : When) (s : State) (hs : List PlainHistory) (action : Action) (content : Content) (attempt : PlainAttempt) → IsId action.id → MayBegin at action (rows_at action.id hs) → attempt ≡ beginning at action content (with_histories hs s)
    → CanBegin attempt hs
can_begin at s hs action content attempt id may is =
    subst (λ x. CanBegin x hs) (sym is) (record {
      action = id;
      few = may.few;
      number = refl;
      ended = owed_ended action.rules (rows_at action.id hs) at.moment may.owed;
      waits = first_waits content;
    })
