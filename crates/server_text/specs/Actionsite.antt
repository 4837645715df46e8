-- The text of the site `actionsite`, which the server makes of its actions.
use Rattle.std.specs.Prelude.{ℕ, ◌^◌, List, ◌++◌, length, map, codes}
use Rattle.std.specs.List.{concat}
use Rattle.sha2.specs.Sha256.{sha256}
use Rattle.line_forms.specs.Lines.{ended_line}
use Rattle.fix_site.specs.declared.action.Action.{Action}
use Rattle.fix_site.specs.declared.block.Block.TheVariants.{Action as action_block}
use Rattle.fix_site.specs.declared.site.Site.{Site}
use Rattle.fix_site.specs.Sites.{digest_line, site_line}
use Rattle.server_text.specs.ActionStates.{stopped_text}

-- its first line, and the texts of the actions
unfoldable pub actionsite_body : ℕ → List (List ℕ) → List ℕ
actionsite_body version texts = ended_line (site_line (codes "actionsite") version) ++ concat texts

-- The text of this version, of the texts of the actions in ascending order of their ids.
unfoldable pub actionsite_text : ℕ → List (List ℕ) → List ℕ
actionsite_text version texts =
    actionsite_body version texts ++ ended_line (digest_line (sha256 (actionsite_body version texts)))

-- the most bytes that it will have of these actions: its version of 16 digits, and each of them stopped
unfoldable pub longest_actionsite : List (List ℕ) → ℕ
longest_actionsite texts = length (actionsite_text (2 ^ 53) (map stopped_text texts))

-- the site of this version that has these actions
abbrev pub actionsite_of : ℕ → List Action → Site
actionsite_of version actions =
    record { name = codes "actionsite"; version = version; blocks = map (λ action. action_block action) actions }
