-- The first lines of a text.
use Rattle.std.proofs.Common.{ℕ, ◌≡◌, ◌+◌, List, [], ◌∷◌, ◌++◌, length, take, sym, ap, ◌∙◌, arith, append_assoc, length-append}
use Rattle.std.proofs.lemmas.List.{take_all, take_at}
use Rattle.line_forms.specs.LineStates.{LineState, before_lines, lines_of}
use Rattle.line_forms.specs.Readers.{Passes}
use Rattle.line_forms.proofs.Passing.{all_lines, stands_behind}
use Rattle.line_forms.proofs.Parts.{Lines}

-- the first lines of a text behind which the cursor stands, and the next one where there is one
pub first_lines : (text : List ℕ) (before : Lines) (new : LineState) (line : List ℕ) (more : Lines) → Passes (before_lines text) new before → new.lines ≡ line ∷ more → take (length before + 1) (lines_of text) ≡ before ++ line ∷ []
first_lines text before new line more passes e =
    let count : length (before ++ line ∷ []) ≡ length before + 1 = length-append before (line ∷ []) in
    let whole : lines_of text ≡ (before ++ line ∷ []) ++ more = (stands_behind text before new passes).lines ∙ ap (λ l. before ++ l) e ∙ sym (append_assoc before (line ∷ []) more) in
    ap (take (length before + 1)) whole ∙ take_at (before ++ line ∷ []) more (length before + 1) count

pub no_more_lines : (text : List ℕ) (before : Lines) (new : LineState) → Passes (before_lines text) new before → new.lines ≡ [] → take (length before + 1) (lines_of text) ≡ before
no_more_lines text before new passes e =
    ap (take (length before + 1)) (all_lines text before new (stands_behind text before new passes) e) ∙ take_all (length before + 1) before (omega arith)
