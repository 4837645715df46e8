-- What is found of clauses, contents and targets that are asked at some time on a machine, with the looks that are made.
use Rattle.std.specs.Prelude.{◌≡◌, ◌⊎◌, ◌+◌, ◌<◌, ◌^◌, ℕ, false, List, [], ◌∷◌, length, Contains, Option, Some, None, Ok}
use Rattle.desk_base.specs.Counts.{CountsFaults}
use Rattle.rel_eval.specs.declared.told.Truth.{Truth}
use Rattle.rel_eval.specs.declared.told.Truth.TheVariants as truth
use Rattle.act_rules.specs.declared.row.Row.{Row}
use Rattle.act_rules.specs.Owed.{IsOwed}
use Rattle.act_rules.specs.Windows.{IsInWindow}
use Rattle.fix_site.specs.declared.action.Action.{Action}
use Rattle.fix_site.specs.declared.action.Target.{Target}
use Rattle.fix_site.specs.declared.action.Target.TheVariants as target
use Rattle.fix_site.specs.declared.fixlet.Fixlet.{Fixlet}
use Rattle.fix_site.specs.declared.fixlet.Success.{Success}
use Rattle.fix_site.specs.declared.fixlet.Success.TheVariants as success
use Rattle.script_text.specs.Scripts.{PlainScript, IsVerdict}
use Rattle.script_run.specs.Asking.{When, JudgesOn, scene_of}
use Rattle.bf_machine.specs.Views.{MachineView, OnlyLooks}
use Rattle.script_run.specs.ScriptWalks.{given_known}
use Rattle.agent_attempt.specs.declared.found.Found.{Found}
use Rattle.agent_attempt.specs.declared.found.Found.TheVariants.{Yes, No, Failed, Memory}
use Rattle.agent_attempt.specs.ActionContents.{Content, single, group}

-- what is found by asking: from one view of the machine, an answer and another view
abbrev pub Asking : Type 1
Asking = MachineView → Found → MachineView → Type 0

-- Only looks were made, and the machine's count of faults rose where one of them failed, and stayed otherwise.
pub record HasAsked (old : MachineView) (answer : Found) (new : MachineView) : Type 0 where
  pub only : OnlyLooks old new
  pub counts : CountsFaults (answer ≡ Failed) old.faults new.faults

-- nothing is asked, and this is found
abbrev pub finds : Found → Asking
finds found old answer new = (answer ≡ found) × (new ≡ old)

-- what comes after something that was found: where it is so the next is asked, and otherwise that is all
abbrev pub and_then : Found → Asking → Asking
and_then Yes next = next
and_then found next = finds found

-- where it is not so the next is asked
abbrev pub or_else : Found → Asking → Asking
or_else No next = next
or_else found next = finds found

-- One thing is asked, and then what comes after it.
abbrev pub AsksThen : Asking → (Found → Asking) → Asking
AsksThen first after old answer new =
    (found : Found) × (between : MachineView) × first old found between × after found between answer new

-- what a truth says of a clause: one that errs, is plural or isn't Boolean isn't true
abbrev pub found_of : Truth → Found
found_of truth.True = Yes
found_of truth.False = No
found_of (truth.Error kind place) = No
found_of (truth.Failed place) = Failed
found_of truth.Memory = Memory

-- A clause is asked, without parameters and without an exit code.
abbrev pub Asks : When → List ℕ → Asking
Asks at text old answer new =
    (truth : Truth) × JudgesOn (scene_of at (given_known [])) text old truth new × (answer ≡ found_of truth)

-- Clauses are asked in order, up to the first that isn't true.
abbrev pub AllAre : When → List (List ℕ) → Asking
AllAre at [] = finds Yes
AllAre at (text ∷ texts) = AsksThen (Asks at text) (λ found. and_then found (AllAre at texts))

-- the lines are a script
abbrev pub HasScript : List (List ℕ) → Type 0
HasScript lines = (script : PlainScript) × IsVerdict lines (Ok script)

-- A fixlet is relevant where its clauses are all true. One whose script is refused isn't, and no look is made for it.
abbrev pub FixletIs : When → Fixlet → Asking
FixletIs at fixlet old answer new =
    (HasScript fixlet.script × AllAre at fixlet.relevance old answer new)
    ⊎ ((¬ HasScript fixlet.script) × finds No old answer new)

-- Fixlets are asked in order, up to the first that is relevant.
abbrev pub SomeIs : When → List Fixlet → Asking
SomeIs at [] = finds No
SomeIs at (fixlet ∷ fixlets) = AsksThen (FixletIs at fixlet) (λ found. or_else found (SomeIs at fixlets))

-- A baseline is relevant where its own clauses are all true and some component is relevant. Content that isn't gathered isn't relevant.
abbrev pub ContentIs : When → Option Content → Asking
ContentIs at None = finds No
ContentIs at (Some (single fixlet)) = FixletIs at fixlet
ContentIs at (Some (group relevance components)) =
    AsksThen (AllAre at relevance) (λ found. and_then found (SomeIs at components))

-- A computer is targeted by its name, or where the target's question is true on it.
abbrev pub Targets : When → List ℕ → Target → Asking
Targets at computer target.All old answer new = finds Yes old answer new
Targets at computer (target.Computers names) old answer new =
    (Contains names computer × finds Yes old answer new) ⊎ ((¬ Contains names computer) × finds No old answer new)
Targets at computer (target.Where question) old answer new = Asks at question old answer new

-- What can be said without a look of an action with these rows: it has a number for one more, it is open, its window holds and it is
-- owed.
pub record MayBegin (at : When) (action : Action) (rows : List Row) : Type 0 where
  pub few : length rows + 1 < 2 ^ 32
  pub open_ : action.stopped ≡ false
  pub window : IsInWindow action.rules at.moment at.offset
  pub owed : IsOwed action.rules rows at.moment

-- An action is due where it may begin, targets this computer, and is relevant, asked in this order.
abbrev pub IsDue : When → List ℕ → Action → Option Content → List Row → Asking
IsDue at computer action content rows old answer new =
    (MayBegin at action rows
    × AsksThen (Targets at computer action.target) (λ found. and_then found (ContentIs at content)) old answer new)
    ⊎ ((¬ MayBegin at action rows) × finds No old answer new)

-- ---- success
-- what is found of a rule by what is found of clauses that are not to be true any more
abbrev pub opposite : Found → Found
opposite Yes = No
opposite No = Yes
opposite found = found

-- Whether the success rule of a fixlet holds whose script is done: always, where some clause isn't true now, or where its own
-- question is true.
abbrev pub Succeeds : When → Fixlet → Success → Asking
Succeeds at fixlet success.Lines = finds Yes
Succeeds at fixlet success.Relevance = AsksThen (AllAre at fixlet.relevance) (λ found. finds (opposite found))
Succeeds at fixlet (success.Clause question) = Asks at question
