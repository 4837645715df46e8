-- What a reader answers.
use Rattle.std.specs.Prelude.{◌≡◌, ℕ, List, MatchOption}
use Rattle.std.specs.declared.option.Option.{Option}
use denote.Ref.{Bor}

-- The answer is the one value that is spelled, or None where none is.
abbrev pub Reads : {V : Type 0} → (V → Type 0) → Option V → Type 0
Reads {V} IsSpelled answer =
    MatchOption answer ((value : V) → ¬ IsSpelled value)
    (λ value. IsSpelled value × ((other : V) → IsSpelled other → other ≡ value))

-- The answer is the whole text where it is of this form, and None where it isn't.
abbrev pub ReadsText : (List ℕ → Type 0) → List ℕ → Option (Bor (List ℕ)) → Type 0
ReadsText IsOfForm text answer =
    MatchOption answer (¬ IsOfForm text) (λ found. IsOfForm text × (found.now ≡ text))
