-- What is cleared before actions are tried.
use Rattle.std.specs.Prelude.{ℕ, ◌==◌, ℤ, if◌then◌else◌, List, [], ◌∷◌, filter, map, Bool, true, false}
use Rattle.std.specs.List.{list_any}
use Rattle.act_rules.specs.Rows.{last_row}
use Rattle.fix_site.specs.declared.action.Action.{Action}
use Rattle.agent_text.specs.Histories.{PlainHistory, cleared, rows_at}
use Rattle.agent_core.specs.Turns.{may_clear}

-- those of the actions whose last attempt has ended and isn't cleared, in their order
abbrev pub uncleared : List PlainHistory → List Action → List Action
uncleared hs actions = filter (λ (action : Action). may_clear (last_row (rows_at action.id hs))) actions

-- the histories with the last attempt of each of these actions cleared at this moment, and nothing else changed
abbrev pub with_marks : List ℕ → ℤ → List PlainHistory → List PlainHistory
with_marks ids moment hs = map (λ h. if list_any (λ id. h.action == id) ids then cleared moment h else h) hs

-- whether there is any
abbrev pub is_any : List ℕ → Bool
is_any [] = false
is_any (id ∷ ids) = true
