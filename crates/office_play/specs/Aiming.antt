-- Actions that are aimed at the members of a group.
use Rattle.std.specs.Prelude.{◌≡◌, ℕ, Bool, true, false, List, ◌∷◌, Some, None}
use Rattle.std.specs.declared.option.Option.{Option}
use Rattle.group_core.specs.Books.{BookState, HasMembers}
use Rattle.office_rules.specs.GroupWords.{HasNoMember, aimed, aimed_lines}

-- the text of an action that is aimed at the members of the group of this name, or none where it has no member
abbrev pub IsAimedAt : BookState → List ℕ → List ℕ → Option (List ℕ) → Type 0
IsAimedAt book name text None = HasNoMember book name
IsAimedAt book name text (Some then) =
    (first : List ℕ) × (more : List (List ℕ)) × HasMembers book name (first ∷ more) × (then ≡ aimed (first ∷ more) text)

-- what becomes of lines, by whether a line for all computers stood before them
abbrev pub rest_aimed : Bool → List (List ℕ) → List (List ℕ) → List (List ℕ)
rest_aimed true computers lines = lines
rest_aimed false computers lines = aimed_lines computers lines
