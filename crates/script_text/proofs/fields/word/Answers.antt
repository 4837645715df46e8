use Rattle.std.proofs.Common.{◌≡◌, map}
use Rattle.std.specs.Char.{to_ascii_lowercase}
use Rattle.std.proofs.lemmas.Result.{err_from_is_err_and}
use Rattle.std.proofs.lemmas.Bool.{false≢true}
use Rattle.script_text.proofs.ItemLemmas.{field_fails, field_absent, field_is}
use Rattle.script_text.proofs.fields.word.Goals as goal

pub returns-in_err-field : goal.returns-in_err-field
returns-in_err-field c =
    let p = err_from_is_err_and c.from_residual.result c.from_residual.ensures.1 in
    rw (p.1, p.2) (field_fails (λ text value. map to_ascii_lowercase text ≡ map to_ascii_lowercase c.args.word.now) c.args.text.now _ c.in_err-field.ensures)

pub returns-then-not-eq_ignore_ascii_case : goal.returns-then-not-eq_ignore_ascii_case
returns-then-not-eq_ignore_ascii_case c = field_absent (λ text value. map to_ascii_lowercase text ≡ map to_ascii_lowercase c.args.word.now) c.args.text.now c.in_ok-field.field.now c.in_ok-field.rest.now (field_is c.args.text.now c.in_ok-field.field.now c.in_ok-field.rest.now c.in_ok-field.ensures) (λ v e. false≢true (c.if-not-eq_ignore_ascii_case.ensures.test.1 e))
