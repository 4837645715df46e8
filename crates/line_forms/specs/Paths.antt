-- Paths: `/`, or parts joined by `/`, with one `/` before them or none.
use Rattle.std.specs.Prelude.{◌≡◌, ◌≢◌, ℕ, ◌<◌, ◌≤◌, ◌⊎◌, List, ◌∷◌, length, codes, All}
use Rattle.std.specs.Str.{IsUtf8}
use Rattle.line_forms.specs.Cuts.{AreJoined}

-- a part isn't empty, `.` or `..`, and has no `/` and no byte below 32
abbrev pub IsPart : List ℕ → Type 0
IsPart part =
    (0 < length part) × (part ≢ codes ".") × (part ≢ codes "..")
    × All (λ byte. (32 ≤ byte) × (byte ≢ 47)) part

-- a part by itself, in UTF-8
abbrev pub IsPartText : List ℕ → Type 0
IsPartText text = IsUtf8 text × IsPart text

-- parts joined by `/`
abbrev pub AreParts : List ℕ → Type 0
AreParts text = AreJoined 47 IsPart text

-- `/`, or parts, or a `/` and parts
abbrev pub HasPathForm : List ℕ → Type 0
HasPathForm text =
    (text ≡ codes "/") ⊎ (AreParts text ⊎ ((parts : List ℕ) × (text ≡ 47 ∷ parts) × AreParts parts))

-- such a text of at most 1,024 bytes, in UTF-8
abbrev pub IsPath : List ℕ → Type 0
IsPath text = IsUtf8 text × (length text ≤ 1024) × HasPathForm text
