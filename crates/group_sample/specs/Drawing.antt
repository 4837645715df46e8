-- How a row is drawn, value by value. Only private functions cite these definitions.
use Rattle.std.specs.Prelude.{◌≡◌, ℕ, zero, suc, ◌≤◌, ℤ, Bool, true, false, if◌then◌else◌, List, [], ◌∷◌, ◌++◌, length, All, None, Ok, ⊤}
use Rattle.std.specs.declared.option.Option.{Option}
use Rattle.std.specs.declared.result.Result.{Result}
use Rattle.std.specs.declared.alloc.AllocError.{AllocError}
use Rattle.rel_value.specs.Plain.{Plain}
use Rattle.rel_value.specs.Texts.{text_of}
use Rattle.rel_trace.specs.Trace.{Stop, Error, Look, Turn, Give, Trace, Ends, After}
use Rattle.group_sample.specs.declared.drawing.Brought.{Brought}
use Rattle.group_sample.specs.declared.drawing.Brought.TheVariants.{Value, Last, Nothing}
use Rattle.group_sample.specs.declared.drawing.Drawn.{Drawn}
use Rattle.group_sample.specs.Rows.{is_short, most_values}

-- no values, and whether an error ended the drawing
abbrev pub ended : Bool → Drawn
ended error = record { values = []; error = error }

-- some values first
abbrev pub behind : List (List ℕ) → Drawn → Drawn
behind texts row = record { values = texts ++ row.values; error = row.error }

-- what a row draws of a trace, where it has room for so many values
abbrev pub drawn : ℤ → ℕ → Trace → Drawn
drawn offset zero t = ended false
drawn offset (suc room) (Ends Stop) = ended false
drawn offset (suc room) (Ends (Error kind place)) = ended true
drawn offset (suc room) (After (Look place key) t) = drawn offset (suc room) t
drawn offset (suc room) (After (Turn place) t) = drawn offset (suc room) t
drawn offset (suc room) (After (Give value) t) =
    if is_short (text_of offset value) then behind (text_of offset value ∷ []) (drawn offset room t) else ended true

-- Of a trace, where there is room, a value is drawn and leaves another trace, or it is the last that is drawn. Where a look failed nothing
-- is said.
abbrev pub Brings : ℤ → Trace → Brought → Trace → Type 0
Brings offset t (Value text) rest = (room : ℕ) → drawn offset (suc room) t ≡ behind (text ∷ []) (drawn offset room rest)
Brings offset t (Last error) rest = (room : ℕ) → drawn offset (suc room) t ≡ ended error
Brings offset t Nothing rest = ⊤

-- a value is short
abbrev pub BringsShort : Brought → Type 0
BringsShort (Value text) = length text ≤ 1024
BringsShort other = ⊤

-- what a value brings: its text where a row may keep it, and else the end in an error
abbrev pub IsBroughtBy : ℤ → Plain → Brought → Type 0
IsBroughtBy offset value (Value text) = (is_short (text_of offset value) ≡ true) × (text ≡ text_of offset value)
IsBroughtBy offset value (Last error) = (is_short (text_of offset value) ≡ false) × (error ≡ true)
IsBroughtBy offset value Nothing = ⊥

-- a look failed
abbrev pub brought_failed : Result Brought AllocError → Bool
brought_failed (Ok Nothing) = true
brought_failed other = false

-- the same of what is answered where nothing was drawn
abbrev pub none_drawn : {V : Type 0} → Result (Option V) AllocError → Bool
none_drawn (Ok None) = true
none_drawn other = false

-- a row is within its bounds
pub record IsWithin (row : Drawn) : Type 0 where
  pub few : length row.values ≤ most_values
  pub short : All (λ text. length text ≤ 1024) row.values
