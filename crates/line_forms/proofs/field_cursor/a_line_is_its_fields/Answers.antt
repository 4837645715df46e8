use Rattle.line_forms.proofs.Pieces.{join-pieces, pieces-join}
use Rattle.line_forms.proofs.field_cursor.a_line_is_its_fields.Goals as goal

pub returns-clause-line : goal.returns-clause-line
returns-clause-line c = join-pieces 32

pub returns-clause-fields : goal.returns-clause-fields
returns-clause-fields c = pieces-join 32
