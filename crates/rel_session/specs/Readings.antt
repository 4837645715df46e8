-- How texts are read as questions.
use Rattle.std.specs.Prelude.{◌≡◌, ℕ, List}
use Rattle.rel_eval.specs.Questions.{Reading, Reads}
use Rattle.rel_eval.proofs.OnePlan.{reading_is_one}

-- a way to read texts: that a text is this
abbrev pub Readings : Type 1
Readings = List ℕ → Reading → Type 0

-- A text is one thing.
abbrev pub OneReading : Readings → Type 0
OneReading reads = (text : List ℕ) (x y : Reading) → reads text x → reads text y → x ≡ y

-- So it is where texts are read as questions by themselves.
pub plain_reading : OneReading Reads
plain_reading = reading_is_one
