-- Which action begins in a turn: the least that is due.
use Rattle.std.specs.Prelude.{◌≡◌, ℕ, ◌<◌, List, ◌∷◌, ◌++◌, All, Bool, true, false, None}
use Rattle.fix_site.specs.declared.action.Action.{Action}
use Rattle.script_run.specs.Asking.{When}
use Rattle.agent_text.specs.declared.pocket.SaveResult.TheVariants as save
use Rattle.agent_text.specs.Pockets.{SavesTo}
use Rattle.agent_attempt.specs.declared.found.Found.TheVariants.{Yes}
use Rattle.agent_attempt.specs.ActionContents.{actions_of, content_of}
use Rattle.agent_state.specs.States.{State, as_saved, broken_action, text_of, with_histories}
use Rattle.agent_core.specs.declared.turned.Turned.{Turned}
use Rattle.agent_core.specs.declared.turned.Turned.TheVariants.{Idle, Held, Wants, Ended}
use Rattle.agent_core.specs.Devices.{Devices}
use Rattle.agent_core.specs.Turns.{Begins, Finishes}
use Rattle.first_due.specs.Asked.{ActionIsDue, AreNotDue, AreNotRelevant, Finds}
use Rattle.first_due.specs.Marked.{is_any, uncleared, with_marks}

-- the answer says that an attempt of this action began in the turn
abbrev pub SaysBegan : ℕ → Turned → Type 0
SaysBegan id (Held action began component line) = (action ≡ id) × (began ≡ true)
SaysBegan id (Wants action began digest) = (action ≡ id) × (began ≡ true)
SaysBegan id (Ended action began outcome fail) = (action ≡ id) × (began ≡ true)
SaysBegan id answer = ⊥

-- the state once it is saved, where something in it stood unsaved
abbrev pub once_saved : Bool → State → State
once_saved false s = s
once_saved true s = as_saved s

-- This text is saved, where something stood unsaved, and the machine tells what it told.
abbrev pub SavesFirst : Bool → List ℕ → Devices → Devices → Type 0
SavesFirst false text d d2 = d2 ≡ d
SavesFirst true text d d2 = SavesTo text d.pocket save.Done d2.pocket × (d2.machine ≡ d.machine)

-- What comes before the search for an action that is due: no attempt is held and none is broken; what stood unsaved is saved; each action
-- whose last attempt has ended and isn't cleared was asked whether it is relevant, in ascending order, and exactly those of these ids aren't.
pub record ComesToSearch (at : When) (s : State) (d : Devices) (ids : List ℕ) (d2 : Devices) : Type 0 where
  pub free : s.held ≡ None
  pub whole : broken_action s ≡ None
  pub saved : Devices
  pub saves : SavesFirst s.unsaved (text_of s) d saved
  pub asked : AreNotRelevant at s.sites (uncleared s.histories (actions_of s.sites)) ids saved d2

-- the state at the search: saved, with the actions of these ids marked
abbrev pub at_search : When → List ℕ → State → State
at_search at ids s = with_histories (with_marks ids at.moment s.histories) (once_saved s.unsaved s)

-- The action of this id begins, the least that is due: of the gathered actions those of smaller ids were asked whether they are due, in
-- ascending order, and none is; then it was asked, and it is; what comes after that is its beginning.
pub record BeginsLeast (at : When) (s : State) (d : Devices) (id : ℕ) (answer : Turned) (s2 : State) (d2 : Devices) : Type 0 where
  pub marked : List ℕ
  pub tested : Devices
  pub search : ComesToSearch at s d marked tested
  pub before : List Action
  pub action : Action
  pub after : List Action
  pub gathered : actions_of s.sites ≡ before ++ action ∷ after
  pub named : action.id ≡ id
  pub less : All (λ other. other.id < id) before
  pub greater : All (λ other. id < other.id) after
  pub passed : Devices
  pub others : AreNotDue at s.computer s.sites (with_marks marked at.moment s.histories) before tested passed
  pub asked : Devices
  pub due : Finds (ActionIsDue at s.computer s.sites (with_marks marked at.moment s.histories) action) passed Yes asked
  pub begins : Begins at (once_saved s.unsaved s) (at_search at marked s) action (content_of action s.sites) asked answer s2 d2

-- No gathered action is due: all were asked, in ascending order, and what comes after that is the end of an idle turn.
pub record FindsNone (at : When) (s : State) (d : Devices) (s2 : State) (d2 : Devices) : Type 0 where
  pub marked : List ℕ
  pub tested : Devices
  pub search : ComesToSearch at s d marked tested
  pub asked : Devices
  pub none : AreNotDue at s.computer s.sites (with_marks marked at.moment s.histories) (actions_of s.sites) tested asked
  pub ends : Finishes (is_any marked) Idle (at_search at marked s) asked Idle s2 d2
