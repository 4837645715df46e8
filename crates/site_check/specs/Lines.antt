-- What is said of a finding: a line.
use Rattle.std.specs.Prelude.{ℕ, List, [], ◌++◌, codes, decimal}
use Rattle.hex.specs.Hex.{encode_lower}
use Rattle.rel_eval.specs.PlaceTexts.{place_text}
use Rattle.rel_trace.specs.Kinds.{number_of}
use Rattle.site_check.specs.declared.refusal.PieceRefusal.{PieceRefusal}
use Rattle.site_check.specs.declared.refusal.PieceRefusal.TheVariants as refusal
use Rattle.site_check.specs.declared.refusal.QuestionFault.{QuestionFault}
use Rattle.site_check.specs.declared.refusal.ScriptFault.{ScriptFault}
use Rattle.site_check.specs.declared.refusal.ScriptFault.TheVariants as script
use Rattle.site_check.specs.declared.finding.Finding.{Finding}
use Rattle.site_check.specs.declared.finding.Finding.TheVariants.{Good, BadLine, TwiceId, WrongDigest, TooLong, BadPiece, Memory}

-- the number of what is wrong, and the line of the site on which it is
unfoldable pub wrong_line : List ℕ → ℕ → List ℕ
wrong_line status line = status ++ codes " line " ++ decimal line

-- that a site is good, with its counts of fixlets and baselines
unfoldable pub good_line : ℕ → ℕ → List ℕ
good_line fixlets baselines = codes "ok " ++ decimal fixlets ++ codes " " ++ decimal baselines ++ codes "\n"

unfoldable pub bad_line : ℕ → List ℕ
bad_line line = wrong_line (codes "20") line ++ codes "\n"

-- that a line has an id that stood before
unfoldable pub twice_line : ℕ → List ℕ
twice_line line = wrong_line (codes "21") line ++ codes "\n"

-- the digest that is stated, and the one that is right
unfoldable pub digest_line : List ℕ → List ℕ → List ℕ
digest_line stated found = codes "22 " ++ encode_lower stated ++ codes " " ++ encode_lower found ++ codes "\n"

unfoldable pub too_long_line : List ℕ
too_long_line = codes "23\n"

-- the number of a question's fault, and its place
unfoldable pub question_line : ℕ → QuestionFault → List ℕ
question_line line fault =
    wrong_line (codes "24") line ++ codes " kind " ++ decimal (number_of fault.kind) ++ codes " " ++ place_text fault.place ++ codes "\n"

abbrev pub script_number : ScriptFault → ℕ
script_number script.NoCommand = 30
script_number script.IfNotClosed = 31
script_number script.StrayElse = 32
script_number script.BraceNotClosed = 33
script_number script.CreateNotClosed = 34

-- the number of a script's fault
unfoldable pub script_line : ℕ → ScriptFault → List ℕ
script_line line fault = wrong_line (codes "25") line ++ codes " number " ++ decimal (script_number fault) ++ codes "\n"

-- why a piece is refused
abbrev pub refusal_line : PieceRefusal → List ℕ
refusal_line (refusal.Question line fault) = question_line line fault
refusal_line (refusal.Script line fault) = script_line line fault

-- the line that tells a finding; of want of memory nothing is said
abbrev pub finding_line : Finding → List ℕ
finding_line (Good fixlets baselines) = good_line fixlets baselines
finding_line (BadLine line) = bad_line line
finding_line (TwiceId line) = twice_line line
finding_line (WrongDigest stated found) = digest_line stated found
finding_line TooLong = too_long_line
finding_line (BadPiece refusal) = refusal_line refusal
finding_line Memory = []
