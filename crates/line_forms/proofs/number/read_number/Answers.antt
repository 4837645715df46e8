use Rattle.std.proofs.Common.{◌≡◌, ◌∙◌, sym, arith, ap, decimal}
use Rattle.std.proofs.lemmas.Bool.{false≢true}
use Rattle.line_forms.proofs.Texts.{IsUtf8-number, parse-number}
use Rattle.line_forms.proofs.number.read_number.Goals as goal

pub returns-in_default : goal.returns-in_default
returns-in_default c = λ n is. c.in_default.ensures.cases.0 (IsUtf8-number c.args.most _ n (omega arith) is)

pub returns-in_default-parse : goal.returns-in_default-parse
returns-in_default-parse c = λ n is.
    let e = parse-number c.args.most c.in-Ok.text.now n c.parse.result (omega arith) (is.0, c.in-Ok.ensures.cases.0 ∙ is.1) c.parse.ensures.value.0 in
    cc

pub returns-then-number-most : goal.returns-then-number-most
returns-then-number-most c = λ n is.
    let e = parse-number c.args.most c.in-Ok.text.now n c.parse.result (omega arith) (is.0, c.in-Ok.ensures.cases.0 ∙ is.1) c.parse.ensures.value.0 in
    let same : n ≡ c.in-Ok-parse.number = cc in
    omega (arith, is.0, same)

pub returns-then-not-is_text_of : goal.returns-then-not-is_text_of
returns-then-not-is_text_of c = λ n is.
    let e = parse-number c.args.most c.in-Ok.text.now n c.parse.result (omega arith) (is.0, c.in-Ok.ensures.cases.0 ∙ is.1) c.parse.ensures.value.0 in
    let same : n ≡ c.in-Ok-parse.number = cc in
    false≢true (sym c.if-not-is_text_of.true ∙ c.is_text_of.ensures.1 (c.in-Ok.ensures.cases.0 ∙ is.1 ∙ ap decimal same))

pub returns : goal.returns
returns c = (
  (c.if-number-most.false, sym c.in-Ok.ensures.cases.0 ∙ c.is_text_of.ensures.0 c.if-not-is_text_of.false),
  λ n is.
      let e = parse-number c.args.most c.in-Ok.text.now n c.parse.result (omega arith) (is.0, c.in-Ok.ensures.cases.0 ∙ is.1) c.parse.ensures.value.0 in
      cc,
)
