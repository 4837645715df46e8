use Rattle.std.proofs.Common.{◌≡◌, sym, subst}
use Rattle.std.proofs.lemmas.Result.{err_from_is_err_and}
use Rattle.line_forms.specs.Names.{IsName}
use Rattle.script_text.proofs.ItemLemmas.{field_fails, field_absent, field_is}
use Rattle.script_text.proofs.fields.name_field.Goals as goal

pub returns-in_err-field : goal.returns-in_err-field
returns-in_err-field c =
    let p = err_from_is_err_and c.from_residual.result c.from_residual.ensures.1 in
    rw (p.1, p.2) (field_fails (λ text name. IsName text × (text ≡ name)) c.args.text.now _ c.in_err-field.ensures)

pub returns-in-None : goal.returns-in-None
returns-in-None c = field_absent (λ text name. IsName text × (text ≡ name)) c.args.text.now c.in_ok-field.field.now c.in_ok-field.rest.now (field_is c.args.text.now c.in_ok-field.field.now c.in_ok-field.rest.now c.in_ok-field.ensures) (λ v h. c.in-None.ensures (subst IsName (sym c.as_bytes.ensures.value) h.0))
