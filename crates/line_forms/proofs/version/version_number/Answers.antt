use Rattle.std.proofs.Common.{sym, ◌∙◌}
use Rattle.std.proofs.lemmas.Bool.{false≢true}
use Rattle.line_forms.proofs.Texts.{IsUtf8-digits, digits-numeral}
use Rattle.line_forms.proofs.version.version_number.Goals as goal

pub returns-then-not-are_digits : goal.returns-then-not-are_digits
returns-then-not-are_digits c = λ is. false≢true (sym c.if-not-are_digits.true ∙ c.are_digits.ensures.1 (digits-numeral _ is.0.1))

pub returns-in_default : goal.returns-in_default
returns-in_default c = λ is. c.in_default.ensures.cases.0 (IsUtf8-digits _ (c.are_digits.ensures.0 c.if-not-are_digits.false))
