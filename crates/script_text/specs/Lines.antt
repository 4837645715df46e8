-- What one line of a script is by itself.
use Rattle.std.specs.Prelude.{◌≡◌, ℕ, ◌⊎◌, List, [], ◌∷◌, ◌++◌, reverse}
use Rattle.script_text.specs.declared.kind.Kind.{Kind}
use Rattle.script_text.specs.declared.command.Command.TheVariants as command
use Rattle.script_text.specs.Bytes.{Each, is_blank, StopsAt}
use Rattle.script_text.specs.Forms.{Outcome, reads, no_command, kind_form}

-- The text is the line without the blanks at its ends.
pub record IsTrimmed (line text : List ℕ) : Type 0 where
  pub before : List ℕ
  pub behind : List ℕ
  pub splits : line ≡ before ++ (text ++ behind)
  pub blank_before : Each is_blank before
  pub blank_behind : Each is_blank behind
  pub begins : StopsAt is_blank text
  pub ends : StopsAt is_blank (reverse text)

-- an empty text or a comment
abbrev pub IsNothing : List ℕ → Type 0
IsNothing text = (text ≡ []) ⊎ ((rest : List ℕ) × (text ≡ 47 ∷ 47 ∷ rest))

-- The text is read as some kind of line, or it is none of any kind.
abbrev pub CommandReads : List ℕ → Outcome → Type 0
CommandReads text no_command = (which : Kind) → kind_form which text no_command
CommandReads text outcome = (which : Kind) × kind_form which text outcome

-- what a line is that isn't content of a `createfile`
abbrev pub LineReads : List ℕ → Outcome → Type 0
LineReads line outcome = (text : List ℕ) × IsTrimmed line text
    × ((IsNothing text × (outcome ≡ reads command.Nothing)) ⊎ (¬ IsNothing text × CommandReads text outcome))
