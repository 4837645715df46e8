use Rattle.std.proofs.Common.{◌≡◌, ◌∷◌, ◌-◌, ◌^◌, min, take}
use Rattle.server_text.specs.Actionsite.{longest_actionsite}
use Rattle.server_text.specs.ToldRows.{action_texts}
use Rattle.server_text.proofs.actionsite.longest_actionsite.Given as goal

-- the most bytes of the text of the new action and those so far
abbrev pub invariant-loop-action : goal.invariant-loop-action
invariant-loop-action l = l.most ≡ min (longest_actionsite (l.text ∷ action_texts (take l.action-index l.actions))) (2 ^ 64 - 1)
