use Rattle.std.proofs.Common.{◌≡◌, ℕ, List, ◌++◌, ◌-◌, ◌^◌, drop, ap, sym, subst, ◌∙◌}
use Rattle.std.specs.Prelude.{codes}
use Rattle.std.proofs.lemmas.Result.{err_from_is_err_and}
use Rattle.line_forms.specs.Numbers.{IsNumber}
use Rattle.script_text.proofs.ItemLemmas.{field_fails, field_absent, field_is}
use Rattle.script_text.proofs.fields.size_field.Goals as goal

abbrev Spells : List ℕ → ℕ → Type 0
Spells text size = (digits : List ℕ) × (text ≡ codes "size:" ++ digits) × IsNumber (2 ^ 64 - 1) digits size

pub returns-in_err-field : goal.returns-in_err-field
returns-in_err-field c =
    let p = err_from_is_err_and c.from_residual.result c.from_residual.ensures.1 in
    rw (p.1, p.2) (field_fails Spells c.args.text.now _ c.in_err-field.ensures)

pub returns-in-None : goal.returns-in-None
returns-in-None c = field_absent Spells c.args.text.now c.in_ok-field.field.now c.in_ok-field.rest.now (field_is c.args.text.now c.in_ok-field.field.now c.in_ok-field.rest.now c.in_ok-field.ensures) (λ v h.
    let same : c.in-Some.number.now ≡ h.0 = c.in-Some.ensures.cases.1 ∙ ap (drop 5) (c.as_bytes.ensures.value ∙ h.1) in
    c.in-None.ensures v (subst (λ d. IsNumber (2 ^ 64 - 1) d v) (sym same) h.2))
