use Rattle.std.proofs.Common.{sym, ap, ◌∙◌}
use Rattle.line_forms.specs.FieldLists.{left_fields}
use Rattle.line_forms.proofs.Pieces.{pieces-cut, pieces-none}
use Rattle.line_forms.proofs.field_cursor.Fields.take_field.Goals as goal

pub returns-in-Some : goal.returns-in-Some
returns-in-Some c = sym c.self.view_is ∙ ap left_fields c.in_ok-line.was ∙ pieces-cut 32 _ _ _ c.in-Some.ensures

pub returns-in-None : goal.returns-in-None
returns-in-None c = sym c.self.view_is ∙ ap left_fields c.in_ok-line.was ∙ pieces-none 32 _ c.in-None.ensures
