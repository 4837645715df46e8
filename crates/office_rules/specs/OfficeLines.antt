-- The lines that are printed of an office, but for those of the server's replies, of turns and of commands.
use Rattle.std.specs.Prelude.{ℕ, List, [], ◌∷◌, ◌++◌, codes, decimal}
use Rattle.line_forms.specs.FieldLists.{line_of}
use Rattle.line_forms.specs.Lines.{ended_line}
use Rattle.report_text.specs.declared.report.Report.{Report}
use Rattle.report_text.specs.RowLines.{outcome_field}
use Rattle.desk_keep.specs.declared.result_row.ResultRow.{ResultRow}

-- a line of words, with one space between any two
unfoldable pub words_line : List (List ℕ) → List ℕ
words_line words = ended_line (line_of words)

-- a line of words, a colon, a space, and words that are said of them
unfoldable pub about_line : List (List ℕ) → List (List ℕ) → List ℕ
about_line words said = ended_line (line_of words ++ codes ": " ++ line_of said)

-- there was nothing to do
abbrev pub nothing_line : List (List ℕ) → List ℕ
nothing_line words = about_line words (codes "nothing" ∷ [])

-- a relay took a site of this name in this version
abbrev pub gathered_line : List ℕ → List ℕ → ℕ → List ℕ
gathered_line relay name version = about_line (codes "gather" ∷ relay ∷ []) (name ∷ decimal version ∷ [])

-- the message of this number is a report; whereto it goes is the name of a relay, or the word `server`
abbrev pub sent_line : ℕ → Report → List ℕ → List ℕ
sent_line number report to =
    about_line (codes "message" ∷ decimal number ∷ [])
    (codes "report" ∷ report.computer ∷ decimal report.seq ∷ codes "to" ∷ to ∷ [])

-- the message of this number arrived, and this is said of it
abbrev pub delivered_line : ℕ → List (List ℕ) → List ℕ
delivered_line number said = about_line (codes "deliver" ∷ decimal number ∷ []) said

-- the word for the answer to a report that arrived, and the number of the message that brings it back
abbrev pub answer_words : List ℕ → ℕ → List (List ℕ)
answer_words word answer = (word ++ codes ",") ∷ codes "message" ∷ decimal answer ∷ []

-- a result: its computer, its action, the number of the attempt, its outcome, and the number of the report
abbrev pub result_line : ResultRow → List ℕ
result_line result =
    words_line (codes "result" ∷ result.computer ∷ decimal result.row.action ∷ decimal result.row.number ∷ outcome_field result.row.end
    ∷ decimal result.seq ∷ [])

-- words and how many of something there are
abbrev pub count_line : List (List ℕ) → ℕ → List ℕ
count_line words count = words_line (words ++ decimal count ∷ [])
