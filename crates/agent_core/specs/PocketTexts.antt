-- What an agent's pocket has after a turn.
use Rattle.std.specs.Prelude.{◌≡◌, ◌≢◌, ◌⊎◌, ℕ, List, false, Option, Some}
use Rattle.agent_core.specs.declared.turned.Turned.{Turned}
use Rattle.agent_core.specs.declared.turned.Turned.TheVariants.{Memory, PocketFault}
use Rattle.agent_state.specs.States.{IsSound, State, saved_of, text_of}

-- the text is that of a sound state of this computer
pub record IsTextOfSound (computer : List ℕ) (now : Option (List ℕ)) : Type 0 where
  pub state : State
  pub sound : IsSound state
  pub own : state.computer ≡ computer
  pub text : now ≡ Some (text_of state)

-- There was nothing to save, and the text is the one that was there.
pub record SavesNothing (s s2 : State) (before now : Option (List ℕ)) : Type 0 where
  pub clean : s.unsaved ≡ false
  pub same : saved_of s2 ≡ saved_of s
  pub text : now ≡ before

-- What a pocket has after a turn, which had this text before it.
pub record TurnSaves (s : State) (answer : Turned) (s2 : State) (before now : Option (List ℕ)) : Type 0 where
  -- at every answer: what it had, or the text of a sound state of the same computer
  pub text : (now ≡ before) ⊎ IsTextOfSound s.computer now
  -- the text of the state after the turn, or what it had where there was nothing to save
  pub last : answer ≢ PocketFault → answer ≢ Memory → (now ≡ Some (text_of s2)) ⊎ SavesNothing s s2 before now
