-- The line of an attempt: `attempt`, and then its fields, each after a space.
use Rattle.std.specs.Prelude.{ℕ, ℤ, List, ◌∷◌, ◌++◌, Option, codes, decimal}
use Rattle.std.specs.Fmt.{signed_decimal}
use Rattle.line_forms.specs.Fields.{dash_or, field_text}
use Rattle.line_forms.specs.FieldLists.{line_of}
use Rattle.act_rules.specs.declared.row.Row.{Row}
use Rattle.report_text.specs.declared.form.Form.{Form}
use Rattle.report_text.specs.RowLines.{outcome_field, end_field, added_fields}

-- the moment at which it was cleared, or `-`
abbrev pub cleared_field : Option ℤ → List ℕ
cleared_field cleared = dash_or signed_decimal cleared

-- the fields of an attempt
abbrev pub attempt_fields : Form → Row → List (List ℕ)
attempt_fields form row =
    decimal row.number ∷ signed_decimal row.begun ∷ outcome_field row.end ∷ end_field row.end ∷ cleared_field row.cleared
    ∷ added_fields form row.note

-- the line of an attempt
abbrev pub attempt_line : Form → Row → List ℕ
attempt_line form row = field_text (codes "attempt") ++ line_of (attempt_fields form row)
