use Rattle.std.proofs.Common.{◌≡◌, ◌∙◌, sym, arith, ap, FitsSigned, w64}
use Rattle.std.specs.Fmt.{signed_decimal}
use Rattle.std.proofs.lemmas.Bool.{false≢true}
use Rattle.std.proofs.lemmas.Int.{ints, to_z-of_z}
use Rattle.line_forms.proofs.Texts.{IsUtf8-signed, parse-signed, fits-parsed}
use Rattle.line_forms.proofs.number.read_signed_number.Goals as goal

pub returns-in_default : goal.returns-in_default
returns-in_default c = λ z is. c.in_default.ensures.cases.0 (IsUtf8-signed c.args.least c.args.most _ z c.ranges.least c.ranges.most is)

pub returns-in_default-parse : goal.returns-in_default-parse
returns-in_default-parse c = λ z is.
    let e = parse-signed c.args.least c.args.most c.in-Ok.text.now z c.parse.result c.ranges.least c.ranges.most (is.0, is.1, c.in-Ok.ensures.cases.0 ∙ is.2) c.parse.ensures.value.0 in
    cc

pub returns-then-number-least : goal.returns-then-number-least
returns-then-number-least c = λ z is.
    let e = parse-signed c.args.least c.args.most c.in-Ok.text.now z c.parse.result c.ranges.least c.ranges.most (is.0, is.1, c.in-Ok.ensures.cases.0 ∙ is.2) c.parse.ensures.value.0 in
    let same : z ≡ c.in-Ok-parse.number = cc in
    let fits : FitsSigned w64 c.in-Ok-parse.number = fits-parsed c.in-Ok.text.now c.parse.result c.in-Ok-parse.number c.parse.ensures.value.0 c.in-Ok-parse.is in
    let low = c.ranges.least in
    let test = simp to_z-of_z at c.if-number-least.true in
    grind (arith, ints, is.0)

pub returns-then-number-most : goal.returns-then-number-most
returns-then-number-most c = λ z is.
    let e = parse-signed c.args.least c.args.most c.in-Ok.text.now z c.parse.result c.ranges.least c.ranges.most (is.0, is.1, c.in-Ok.ensures.cases.0 ∙ is.2) c.parse.ensures.value.0 in
    let same : z ≡ c.in-Ok-parse.number = cc in
    let fits : FitsSigned w64 c.in-Ok-parse.number = fits-parsed c.in-Ok.text.now c.parse.result c.in-Ok-parse.number c.parse.ensures.value.0 c.in-Ok-parse.is in
    let high = c.ranges.most in
    let test = simp to_z-of_z at c.if-number-most.true in
    grind (arith, ints, is.1)

pub returns-then-not-is_text_of : goal.returns-then-not-is_text_of
returns-then-not-is_text_of c = λ z is.
    let e = parse-signed c.args.least c.args.most c.in-Ok.text.now z c.parse.result c.ranges.least c.ranges.most (is.0, is.1, c.in-Ok.ensures.cases.0 ∙ is.2) c.parse.ensures.value.0 in
    let same : z ≡ c.in-Ok-parse.number = cc in
    let fits : FitsSigned w64 c.in-Ok-parse.number = fits-parsed c.in-Ok.text.now c.parse.result c.in-Ok-parse.number c.parse.ensures.value.0 c.in-Ok-parse.is in
    let says = simp to_z-of_z at c.is_text_of.ensures in
    false≢true (sym c.if-not-is_text_of.true ∙ says.1 (c.in-Ok.ensures.cases.0 ∙ is.2 ∙ ap signed_decimal same))

pub returns : goal.returns
returns c =
    let fits : FitsSigned w64 c.in-Ok-parse.number = fits-parsed c.in-Ok.text.now c.parse.result c.in-Ok-parse.number c.parse.ensures.value.0 c.in-Ok-parse.is in
    let low = c.ranges.least in
    let high = c.ranges.most in
    let says = simp to_z-of_z at c.is_text_of.ensures in
    let above = simp to_z-of_z at c.if-number-least.false in
    let below = simp to_z-of_z at c.if-number-most.false in
    simp to_z-of_z (
      (grind (arith, ints), grind (arith, ints), sym c.in-Ok.ensures.cases.0 ∙ says.0 c.if-not-is_text_of.false),
      λ z is.
          let e = parse-signed c.args.least c.args.most c.in-Ok.text.now z c.parse.result c.ranges.least c.ranges.most (is.0, is.1, c.in-Ok.ensures.cases.0 ∙ is.2) c.parse.ensures.value.0 in
          cc,
    )
