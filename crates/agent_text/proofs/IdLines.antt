-- Lines of a word and an id.
use Rattle.std.proofs.Common.{ℕ, ◌≡◌, List, ◌∷◌, ◌++◌, sym, subst, ◌∙◌}
use Rattle.std.specs.Prelude.{decimal}
use Rattle.line_forms.specs.Fields.{field_text}
use Rattle.line_forms.specs.LineStates.{LineState}
use Rattle.line_forms.specs.Numbers.{IsId}
use Rattle.line_forms.specs.Readers.{IsNotAhead}
use Rattle.line_forms.proofs.Passing.{not_spelled}
use Rattle.line_forms.proofs.PlainLemmas.{id_one}
use Rattle.line_forms.proofs.Parts.{Lines}

-- the id that is ahead isn't one of these, and so none of these is
pub other_id : (P : ℕ → Type 0) (word rest : List ℕ) (state : LineState) (more : Lines) (read : ℕ) → state.lines ≡ (field_text word ++ rest) ∷ more → IsId read → rest ≡ decimal read → (P read → ⊥) →
    IsNotAhead (λ n. IsId n × P n) (λ n. field_text word ++ decimal n) state
other_id P word rest state more read ahead is spelled other =
    not_spelled (λ n. IsId n × P n) decimal state word rest more ahead (λ n fine e. other (subst P (id_one n read fine.0 is (sym e ∙ spelled)) fine.1))
