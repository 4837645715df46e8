use Rattle.std.proofs.Common.{sym, ◌∙◌, lit<}
use Rattle.std.proofs.lemmas.Fmt.{signed_decimal_injective}
use Rattle.line_forms.proofs.Texts.{mag-within}
use Rattle.line_forms.proofs.number.one_signed_number.Goals as goal

pub returns : goal.returns
returns c = λ text m n h k. signed_decimal_injective m n (mag-within _ _ m (lit< tt) (lit< tt) h.0 h.1) (mag-within _ _ n (lit< tt) (lit< tt) k.0 k.1) (sym h.2 ∙ k.2)
