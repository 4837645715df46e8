-- An input that begins with a world text, and lines behind it.
use Rattle.std.specs.Prelude.{ℕ, List, ◌++◌, codes, decimal}
use Rattle.std.specs.declared.result.Result.TheVariants.{Ok, Err}
use Rattle.bf_world.specs.Worlds.{WorldState}
use Rattle.world_text.specs.declared.error.WorldError.TheVariants.{BadLine}
use Rattle.world_text.specs.Fronts.{Splits}
use Rattle.world_text.specs.Texts.{ReadsWorld}

-- the input is the text of this world and what comes behind it
abbrev pub IsWorldInput : List ℕ → WorldState → List ℕ → Type 0
IsWorldInput input w rest = (text : List ℕ) × Splits input text rest × ReadsWorld text (Ok w)

-- the input's world text is outside its grammar, and this is its first bad line
abbrev pub IsBadInput : List ℕ → ℕ → Type 0
IsBadInput input number = (text : List ℕ) × (rest : List ℕ) × Splits input text rest × ReadsWorld text (Err (BadLine number))

-- what is written of a bad line
unfoldable pub bad_line : ℕ → List ℕ
bad_line number = codes "bad line " ++ decimal number ++ codes "\n"
