-- What readers of fields and of lines do, for any values and any sets of lines.
use Rattle.std.specs.Prelude.{◌≡◌, ℕ, List, [], ◌∷◌, ◌++◌, map, MatchOption, Bool, true, false, ⊤}
use Rattle.std.specs.declared.option.Option.{Option}
use Rattle.line_forms.specs.Fields.{field_text}
use Rattle.line_forms.specs.LineStates.{LineState}
use Rattle.line_forms.specs.Lines.{StandsBehind}
use Rattle.line_forms.specs.BadLines.{Begins}

-- The answer is a value whose text this is, or None where it is that of no such value.
abbrev pub Spells : {V : Type 0} → (V → Type 0) → (V → List ℕ) → List ℕ → Option V → Type 0
Spells {V} Is text_of text answer =
    MatchOption answer ((value : V) → Is value → ¬ (text ≡ text_of value)) (λ value. Is value × (text ≡ text_of value))

-- any value
abbrev pub IsAny : {V : Type 0} → V → Type 0
IsAny value = ⊤

-- the line ahead, if there is one
abbrev pub IsLineAhead : LineState → Option (List ℕ) → Type 0
IsLineAhead state answer =
    MatchOption answer (state.lines ≡ []) (λ line. (more : List (List ℕ)) × (state.lines ≡ line ∷ more))

-- what follows the word and a space on the line ahead, if it begins so
abbrev pub IsRestAhead : List ℕ → LineState → Option (List ℕ) → Type 0
IsRestAhead word state answer =
    MatchOption answer ((rest : List ℕ) (more : List (List ℕ)) → ¬ (state.lines ≡ (field_text word ++ rest) ∷ more))
    (λ rest. (more : List (List ℕ)) × (state.lines ≡ (field_text word ++ rest) ∷ more))

-- nothing is left of the text
abbrev pub IsOver : LineState → Type 0
IsOver state = (state.lines ≡ []) × (state.unended ≡ [])

-- these lines were ahead, and the cursor went on over them
abbrev pub Passes : LineState → LineState → List (List ℕ) → Type 0
Passes old new lines =
    (old.lines ≡ lines ++ new.lines)
    × ((text : List ℕ) (before : List (List ℕ)) → StandsBehind text before old → StandsBehind text (before ++ lines) new)

-- This line was ahead and was taken, or it isn't ahead.
abbrev pub TakesExactly : List ℕ → LineState → LineState → Bool → Type 0
TakesExactly line old new true = Passes old new (line ∷ [])
TakesExactly line old new false = (new ≡ old) × ((more : List (List ℕ)) → ¬ (old.lines ≡ line ∷ more))

-- no such value has its line ahead
abbrev pub IsNotAhead : {V : Type 0} → (V → Type 0) → (V → List ℕ) → LineState → Type 0
IsNotAhead {V} Is line_of state =
    (value : V) (more : List (List ℕ)) → Is value → ¬ (state.lines ≡ line_of value ∷ more)

-- The line ahead was taken, and it is that of the answer; or it is that of no such value, and stays ahead.
abbrev pub TakesOne : {V : Type 0} → (V → Type 0) → (V → List ℕ) → LineState → LineState → Option V → Type 0
TakesOne Is line_of old new answer =
    MatchOption answer ((new ≡ old) × IsNotAhead Is line_of old) (λ value. Is value × Passes old new (line_of value ∷ []))

-- the lines of one of these values
abbrev pub AreLinesOf : {V : Type 0} → (V → Type 0) → (V → List (List ℕ)) → List (List ℕ) → Type 0
AreLinesOf {V} Is lines_of lines = (value : V) × Is value × (lines ≡ lines_of value)

-- these lines begin some of the set and aren't all of them, and with the line ahead they begin none
pub record StopsAt (AreGood : List (List ℕ) → Type 0) (before : List (List ℕ)) (state : LineState) : Type 0 where
  pub begins : Begins AreGood before
  pub unfinished : ¬ AreGood before
  pub ahead : (line : List ℕ) (more : List (List ℕ)) → state.lines ≡ line ∷ more → ¬ Begins AreGood (before ++ line ∷ [])

-- the cursor went on as far as lines of the set go
abbrev pub IsStuck : (List (List ℕ) → Type 0) → LineState → LineState → Type 0
IsStuck AreGood old new = (before : List (List ℕ)) × Passes old new before × StopsAt AreGood before new

-- no lines of the set go on behind these
abbrev pub NeverGoesOn : (List (List ℕ) → Type 0) → List (List ℕ) → Type 0
NeverGoesOn AreGood lines = (line : List ℕ) (more : List (List ℕ)) → ¬ AreGood (lines ++ line ∷ more)

-- The lines of the answer were taken, or the cursor went on as far as those of such a value go.
abbrev pub ReadsPart : {V : Type 0} → (V → Type 0) → (V → List (List ℕ)) → LineState → LineState → Option V → Type 0
ReadsPart Is lines_of old new answer =
    MatchOption answer (IsStuck (AreLinesOf Is lines_of) old new) (λ value. Is value × Passes old new (lines_of value))

-- each of the values can stand behind those before it
abbrev pub EachCan : {V : Type 0} → (List V → V → Type 0) → List V → Type 0
EachCan {V} Can values = (before after : List V) (value : V) → values ≡ before ++ value ∷ after → Can before value

-- The lines of the values were taken, each of which can stand behind those before it, and none that can follow is ahead.
abbrev pub TakesAll : {V : Type 0} → (List V → V → Type 0) → (V → List ℕ) → LineState → LineState → List V → Type 0
TakesAll Can line_of old new values =
    EachCan Can values × Passes old new (map line_of values) × IsNotAhead (Can values) line_of new
