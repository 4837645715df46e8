-- Texts that are cut at a byte.
use Rattle.std.specs.Prelude.{◌≡◌, ◌≢◌, ℕ, ◌<◌, ◌==◌, List, ◌∷◌, ◌++◌, length, All, MatchOption}
use Rattle.std.specs.declared.option.Option.{Option}
use Rattle.std.specs.List.{slice_split, join_with_byte}
use Rattle.line_forms.specs.declared.cut.Cut.{Cut}

-- the byte doesn't stand in the text
abbrev pub Lacks : ℕ → List ℕ → Type 0
Lacks byte text = All (λ other. other ≢ byte) text

-- the text is cut at the first such byte, into what stands before and what stands behind it
abbrev pub IsCut : ℕ → List ℕ → List ℕ → List ℕ → Type 0
IsCut byte text first rest = Lacks byte first × (text ≡ first ++ byte ∷ rest)

-- The answer is the two parts, or None where the byte doesn't stand in the text.
abbrev pub Cuts : ℕ → List ℕ → Option Cut → Type 0
Cuts byte text answer =
    MatchOption answer (Lacks byte text) (λ cut. IsCut byte text cut.first.now cut.rest.now)

-- the text is cut at the last such byte
abbrev pub IsLastCut : ℕ → List ℕ → List ℕ → List ℕ → Type 0
IsLastCut byte text first rest = Lacks byte rest × (text ≡ first ++ byte ∷ rest)

-- The answer is the two parts, or None where the byte doesn't stand in the text.
abbrev pub CutsLast : ℕ → List ℕ → Option Cut → Type 0
CutsLast byte text answer =
    MatchOption answer (Lacks byte text) (λ cut. IsLastCut byte text cut.first.now cut.rest.now)

-- the pieces of the text between such bytes, with those before the first and behind the last
abbrev pub pieces : ℕ → List ℕ → List (List ℕ)
pieces byte text = slice_split (λ other. other == byte) text

-- the text is one part or more, joined by this byte
abbrev pub AreJoined : ℕ → (List ℕ → Type 0) → List ℕ → Type 0
AreJoined byte IsPart text =
    (parts : List (List ℕ)) × (0 < length parts) × All IsPart parts
    × (text ≡ join_with_byte byte parts)
