use Rattle.std.proofs.Common.{◌≡◌, ℕ, List, [], length, refl, sym, ap, ◌∙◌, arith}
use Rattle.line_forms.specs.FieldLists.{left_fields, fields_of}
use Rattle.line_forms.proofs.Pieces.{pieces-some}
use Rattle.line_forms.proofs.field_cursor.Fields.is_over.Goals as goal

not_over : (text : List ℕ) (fields : List (List ℕ)) → fields_of text ≡ fields → fields ≡ [] → ⊥
not_over text fields h none = let k : length (fields_of text) ≡ 0 = ap length (h ∙ none) in omega (arith, pieces-some 32 text)

pub returns-in-None : goal.returns-in-None
returns-in-None c = (λ h. sym c.self.view_is ∙ ap left_fields c.in-None.is, λ h. refl)

pub returns-in-Some : goal.returns-in-Some
returns-in-Some c = (λ h. cc, λ h. absurd (not_over c.in-Some.field-0.now _ (sym (ap left_fields c.in-Some.is) ∙ c.self.view_is) h))
