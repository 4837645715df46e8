-- A name behind a word, on the line ahead.
use Rattle.std.proofs.Common.{ℕ, ◌≡◌, List, ◌∷◌, ◌++◌, Option, Some, None, option_copied, sym, ap, subst, ◌∙◌}
use Rattle.line_forms.specs.Fields.{field_text}
use Rattle.line_forms.specs.LineStates.{LineState}
use Rattle.line_forms.specs.Names.{IsName}
use Rattle.line_forms.specs.Reads.{ReadsText}
use Rattle.line_forms.proofs.Passing.{not_spelled}
use Rattle.office_text.specs.OrderReadings.{FindsName}
use denote.Ref.{Bor}

pub name_found : (word rest : List ℕ) (more : List (List ℕ)) (state : LineState) (answer : Option (Bor (List ℕ))) → state.lines ≡ (field_text word ++ rest) ∷ more → ReadsText IsName rest answer → FindsName word state (option_copied answer)
name_found word rest more state None ahead none =
    let N : List ℕ → Type 0 = IsName in
    not_spelled IsName (λ name. name) state word rest more ahead (λ name is e. none (subst N (sym e) is))
name_found word rest more state (Some name) ahead (good, same) =
    let N : List ℕ → Type 0 = IsName in
    (subst N (sym same) good, (more, ahead ∙ ap (λ n. (field_text word ++ n) ∷ more) (sym same)))
