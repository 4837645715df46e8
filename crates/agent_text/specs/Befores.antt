-- What stood of an action before a change, and histories with that put back.
use Rattle.std.specs.Prelude.{◌≡◌, ℕ, ◌==◌, if◌then◌else◌, List, [], ◌∷◌, flat_map, Option, Some, None, IfSome}
use Rattle.std.specs.List.{find}
use Rattle.agent_text.specs.Histories.{IsHistory, PlainHistory}

-- an action, and the history that it had, if it had one
pub record PlainBefore : Type 0 where
  pub action : ℕ
  pub history : Option PlainHistory

-- the history is one of the action
pub record IsHistoryOf (action : ℕ) (h : PlainHistory) : Type 0 where
  pub good : IsHistory h
  pub own : h.action ≡ action

abbrev pub IsBefore : PlainBefore → Type 0
IsBefore b = IfSome b.history (IsHistoryOf b.action)

-- what stands of an action among histories
abbrev pub before_of : ℕ → List PlainHistory → PlainBefore
before_of action hs = record { action = action; history = find (λ (h : PlainHistory). h.action == action) hs }

-- one history or none, as a list
abbrev pub listed : Option PlainHistory → List PlainHistory
listed None = []
listed (Some h) = h ∷ []

-- the histories where, in place of that of the action, what stood before stands
abbrev pub with_before : PlainBefore → List PlainHistory → List PlainHistory
with_before b hs = flat_map (λ h. if h.action == b.action then listed b.history else h ∷ []) hs
