use Rattle.std.proofs.Common.{◌≡◌, true, sym, ap, ◌∙◌, FitsSigned, w64}
use Rattle.std.proofs.lemmas.Int.{to_z-of_z}
use Rattle.rel_value.specs.Casts.{is_numeral, behind_minus}
use Rattle.rel_value.proofs.Integers.{fits-parsed, read-ok, read-err}
use Rattle.rel_value.proofs.casts.read_integer.Goals as goal

pub returns-in-Ok : goal.returns-in-Ok
returns-in-Ok c =
    let numeral : is_numeral (behind_minus c.args.text.now) ≡ true = ap is_numeral (sym (c.behind_minus.ensures ∙ ap behind_minus c.as_bytes.ensures.value)) ∙ sym c.is_numeral.ensures ∙ c.if-not-is_numeral.false in
    let fits : FitsSigned w64 c.in-Ok.number = fits-parsed c.args.text.now c.parse.result c.in-Ok.number c.parse.ensures.value.0 c.in-Ok.is in
    let answer = read-ok c.args.text.now c.parse.result c.in-Ok.number numeral c.parse.ensures.value.0 c.in-Ok.is in
    rw (to_z-of_z w64 c.in-Ok.number fits) answer

pub returns-in-Err : goal.returns-in-Err
returns-in-Err c =
    let numeral : is_numeral (behind_minus c.args.text.now) ≡ true = ap is_numeral (sym (c.behind_minus.ensures ∙ ap behind_minus c.as_bytes.ensures.value)) ∙ sym c.is_numeral.ensures ∙ c.if-not-is_numeral.false in
    read-err c.args.text.now c.parse.result c.in-Err.field-0 numeral c.parse.ensures.value.0 c.in-Err.is
