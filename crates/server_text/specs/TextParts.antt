-- What the readers and writers of texts are made of. Only private functions cite these definitions.
use Rattle.std.specs.Prelude.{ℕ, Bool, true, false, List, [], ◌∷◌, ◌+◌, length, ⊤}
use Rattle.fix_site.specs.declared.action.Target.{Target}
use Rattle.server_text.specs.declared.text_error.TextError.{TextError}
use Rattle.server_text.specs.declared.text_error.TextError.TheVariants as text
use Rattle.server_text.specs.ActionStates.{stopped_text}
use Rattle.server_text.specs.RequestTexts.{IsGoodTarget, IsNoAction, IsRefusedSite, IsWrongTarget}

-- the line of a text that isn't read as a site
abbrev pub IsUnreadSite : List ℕ → TextError → Type 0
IsUnreadSite bytes (text.BadText line) = IsRefusedSite bytes line
IsUnreadSite bytes text.Memory = ⊤

-- the line of a text that isn't read as an action
abbrev pub IsUnreadAction : List ℕ → TextError → Type 0
IsUnreadAction bytes (text.BadText line) = IsNoAction bytes line
IsUnreadAction bytes text.Memory = ⊤

-- whether a target is good
abbrev pub JudgesTarget : Target → Bool → Type 0
JudgesTarget target true = IsGoodTarget target
JudgesTarget target false = IsWrongTarget target

-- the bytes of the texts of actions when each is stopped
abbrev pub most_bytes : List (List ℕ) → ℕ
most_bytes [] = 0
most_bytes (text ∷ texts) = length (stopped_text text) + most_bytes texts
