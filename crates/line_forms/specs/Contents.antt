-- Lines that hold a line of some content.
use Rattle.std.specs.Prelude.{◌≡◌, ℕ, List, [], ◌∷◌, ◌++◌, codes}
use Rattle.line_forms.specs.Names.{IsLineText}

-- the line that holds this content: `|` where it is empty, and otherwise `| ` and the content
abbrev pub content_line : List ℕ → List ℕ
content_line [] = codes "|"
content_line (byte ∷ bytes) = codes "| " ++ byte ∷ bytes

-- the line holds this content, which is UTF-8 without LF
abbrev pub IsContentLine : List ℕ → List ℕ → Type 0
IsContentLine line content = IsLineText content × (line ≡ content_line content)
