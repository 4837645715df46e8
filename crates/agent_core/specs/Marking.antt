-- What marking in place comes to. Only the code's contracts cite these definitions.
use Rattle.std.specs.Prelude.{◌≡◌, ◌⊎◌, List, None, Ok, Err}
use Rattle.fix_site.specs.declared.action.Action.{Action}
use Rattle.script_run.specs.Asking.{When}
use Rattle.bf_machine.specs.Views.{MachineView}
use Rattle.agent_text.specs.Befores.{PlainBefore}
use Rattle.agent_text.specs.Histories.{AreHistories, PlainHistory}
use Rattle.agent_attempt.specs.ActionContents.{actions_of}
use Rattle.agent_core.specs.declared.clearing.Marked.{Marked}
use Rattle.agent_core.specs.declared.kept_state.KeptState.{KeptState}
use Rattle.agent_core.specs.declared.turned.Turned.{Turned}
use Rattle.agent_core.specs.declared.turned.Turned.TheVariants.{Memory}
use Rattle.agent_core.specs.Inside.{IsSoundKept, state_of}
use Rattle.agent_core.specs.Marked.{undone}
use Rattle.agent_core.specs.Steps.{AreMarked, MakesMarks}
use Rattle.agent_state.specs.States.{State, with_histories}

-- the state without its marks
abbrev pub unmarked_state : List PlainBefore → KeptState → State
unmarked_state before a = with_histories (undone before a.histories) (state_of a)

-- no attempt is held, and the histories are those before marks but for the marks
pub record AreMarksOf (before : List PlainBefore) (a : KeptState) : Type 0 where
  pub sound : IsSoundKept a
  pub free : a.held ≡ None
  pub marked : AreMarked (undone before a.histories) a.histories
  pub good : AreHistories (undone before a.histories)

-- the marks are made, and nothing else of the state has changed
pub record HasMarks (at : When) (old : KeptState) (before : MachineView) (marked : Marked) (new : KeptState) (now : MachineView) : Type 0 where
  pub makes : MakesMarks at (state_of old) (actions_of old.sites) old.histories before (Ok marked.any) new.histories now
  pub rest : new ≡ record old { histories = new.histories }
  pub undo : undone marked.before.items new.histories ≡ old.histories
  pub marks : AreMarksOf marked.before.items new

-- the turn stops as the marks are made, or memory runs out before
abbrev pub StopsMarks : When → State → List Action → MachineView → Turned → MachineView → Type 0
StopsMarks at s actions old stop new =
    ((stop ≡ Memory) × (new ≡ old))
    ⊎ ((hs : List PlainHistory) × MakesMarks at s actions s.histories old (Err stop) hs new)
