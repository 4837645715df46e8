use Rattle.line_forms.proofs.Cutting.{IsCut-one}
use Rattle.line_forms.proofs.fields.one_first_field.Goals as goal

pub returns : goal.returns
returns c = IsCut-one 32
