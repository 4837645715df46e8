use Rattle.line_forms.proofs.Texts.{IsUtf8-name}
use Rattle.line_forms.proofs.name.read_name.Goals as goal

pub returns-in_default : goal.returns-in_default
returns-in_default c = λ is. c.in_default.ensures.cases.0 (IsUtf8-name _ is)
