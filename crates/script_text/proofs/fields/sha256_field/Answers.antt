use Rattle.std.proofs.Common.{◌≡◌, ℕ, List, ◌++◌, Ok, drop, ap, ◌∙◌}
use Rattle.std.specs.Prelude.{codes}
use Rattle.std.proofs.lemmas.Result.{err_from_is_err_and}
use Rattle.hex.specs.Hex.{decode_sized}
use Rattle.script_text.proofs.ItemLemmas.{field_fails, field_absent, field_is}
use Rattle.script_text.proofs.fields.sha256_field.Goals as goal

abbrev Spells : List ℕ → List ℕ → Type 0
Spells text bytes = (digits : List ℕ) × (text ≡ codes "sha256:" ++ digits) × (decode_sized digits 32 ≡ Ok bytes)

pub returns-in_err-field : goal.returns-in_err-field
returns-in_err-field c =
    let p = err_from_is_err_and c.from_residual.result c.from_residual.ensures.1 in
    rw (p.1, p.2) (field_fails Spells c.args.text.now _ c.in_err-field.ensures)

pub returns-in-Err : goal.returns-in-Err
returns-in-Err c = field_absent Spells c.args.text.now c.in_ok-field.field.now c.in_ok-field.rest.now (field_is c.args.text.now c.in_ok-field.field.now c.in_ok-field.rest.now c.in_ok-field.ensures) (λ v h.
    let same : c.in-Some.digits.now ≡ h.0 = c.in-Some.ensures.cases.1 ∙ ap (drop 7) (c.as_bytes.ensures.value ∙ h.1) in
    let read = c.in-Err.ensures in
    let wanted = h.2 in
    cc)
