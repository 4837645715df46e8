use Rattle.std.proofs.Common.{ℕ, ℤ, List, w64, sym, subst}
use Rattle.std.proofs.lemmas.Int.{to_z-of_z}
use Rattle.line_forms.specs.Names.{IsName, IsRest}
use Rattle.group_text.specs.Readings.{AreFields}
use Rattle.group_text.proofs.FieldLemmas.{no_fields, no_second, fields_same, fields_whole, period_fits}
use Rattle.group_text.proofs.analysis_reader.read_fields.Goals as goal

pub returns-in_default : goal.returns-in_default
returns-in_default c = λ name period question is. no_fields c.args.text.now name period question c.in_default.ensures is

pub returns-in_default-first_field : goal.returns-in_default-first_field
returns-in_default-first_field c = λ name period question is.
    no_second c.args.text.now c.in-Some.named.first.now c.in-Some.named.rest.now name period question c.in-Some.ensures c.in_default-first_field.ensures is

pub returns-in_default-read_name : goal.returns-in_default-read_name
returns-in_default-read_name c = λ name period question is.
    let N : List ℕ → Type 0 = IsName in
    let same = fields_same c.args.text.now c.in-Some.named.first.now c.in-Some.named.rest.now c.in-Some-first_field.timed.first.now c.in-Some-first_field.timed.rest.now name period question
    c.in-Some.ensures c.in-Some-first_field.ensures is in
    c.in_default-read_name.ensures (subst N same.0 is.0)

pub returns-in_default-read_period : goal.returns-in_default-read_period
returns-in_default-read_period c = λ name period question is.
    let same = fields_same c.args.text.now c.in-Some.named.first.now c.in-Some.named.rest.now c.in-Some-first_field.timed.first.now c.in-Some-first_field.timed.rest.now name period question
    c.in-Some.ensures c.in-Some-first_field.ensures is in
    c.in_default-read_period.ensures period is.1 (sym same.1)

pub returns-in_default-read_rest : goal.returns-in_default-read_rest
returns-in_default-read_rest c = λ name period question is.
    let R : List ℕ → Type 0 = IsRest in
    let same = fields_same c.args.text.now c.in-Some.named.first.now c.in-Some.named.rest.now c.in-Some-first_field.timed.first.now c.in-Some-first_field.timed.rest.now name period question
    c.in-Some.ensures c.in-Some-first_field.ensures is in
    c.in_default-read_rest.ensures (subst R same.2 is.2)

pub returns : goal.returns
returns c =
    let period : ℤ = c.in-Some-read_period.period in
    let F : ℤ → Type 0 = λ seconds. AreFields c.args.text.now c.in-Some-read_name.name.now seconds c.in-Some-read_rest.question.now in
    subst F (sym (to_z-of_z w64 period (period_fits period c.in-Some-read_period.ensures.0)))
    (fields_whole c.args.text.now c.in-Some.named.first.now c.in-Some.named.rest.now c.in-Some-first_field.timed.first.now c.in-Some-first_field.timed.rest.now
    c.in-Some-read_name.name.now period c.in-Some-read_rest.question.now c.in-Some.ensures c.in-Some-first_field.ensures
    c.in-Some-read_name.ensures.0 c.in-Some-read_name.ensures.1 c.in-Some-read_period.ensures.0 c.in-Some-read_period.ensures.1 c.in-Some-read_rest.ensures.0 c.in-Some-read_rest.ensures.1)
