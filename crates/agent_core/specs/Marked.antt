-- What stood before marks, so that they can be taken back. Only the code's contracts cite these definitions.
use Rattle.std.specs.Prelude.{◌≡◌, ℕ, List, [], ◌∷◌, map, All, Contains, IfSome, true}
use Rattle.act_rules.specs.Rows.{last_row}
use Rattle.agent_text.specs.Befores.{PlainBefore, before_of, with_before}
use Rattle.agent_text.specs.Histories.{PlainHistory, rows_at}
use Rattle.agent_core.specs.Turns.{may_clear}

-- what stood before is put back, the last first
abbrev pub undone : List PlainBefore → List PlainHistory → List PlainHistory
undone [] hs = hs
undone (b ∷ bs) hs = with_before b (undone bs hs)

-- each has a history of its own action, if it has one
abbrev pub AreOwn : List PlainBefore → Type 0
AreOwn bs = All (λ b. IfSome b.history (λ h. h.action ≡ b.action)) bs

-- there is one of each action whose last row has ended and isn't cleared
abbrev pub Covers : List PlainBefore → List PlainHistory → Type 0
Covers bs hs = (action : ℕ) → may_clear (last_row (rows_at action hs)) ≡ true → Contains (map (λ b. b.action) bs) action

-- these stand among the histories, one of each such action
pub record AreBefore (bs : List PlainBefore) (hs : List PlainHistory) : Type 0 where
  pub stand : All (λ b. b ≡ before_of b.action hs) bs
  pub covers : Covers bs hs

-- where each such action is covered, the same is put back in either histories
pub record UndoneSame (hs now : List PlainHistory) : Type 0 where
  pub undo : (bs : List PlainBefore) → AreOwn bs → Covers bs hs → undone bs now ≡ undone bs hs
  pub covers : (bs : List PlainBefore) → Covers bs hs → Covers bs now
