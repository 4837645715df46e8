use Rattle.std.proofs.Common.{◌≡◌, take}
use Rattle.server_text.specs.Actionsite.{actionsite_body}
use Rattle.server_text.specs.ToldRows.{action_texts}
use Rattle.server_text.proofs.actionsite.actionsite_body.Given as goal

-- the first line and the texts of the actions so far were written
abbrev pub invariant-loop-action : goal.invariant-loop-action
invariant-loop-action l = l.out ≡ actionsite_body l.version (action_texts (take l.action-index l.actions))
