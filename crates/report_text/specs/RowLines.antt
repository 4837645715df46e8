-- The line of a row: `row`, and then its fields, each after a space.
use Rattle.std.specs.Prelude.{ℕ, ℤ, List, [], ◌∷◌, ◌++◌, Option, Some, None, codes, decimal}
use Rattle.std.specs.Fmt.{signed_decimal}
use Rattle.line_forms.specs.Fields.{dash_or, field_text}
use Rattle.line_forms.specs.FieldLists.{line_of}
use Rattle.act_rules.specs.declared.row.Note.{Note}
use Rattle.act_rules.specs.declared.row.Outcome.{Outcome}
use Rattle.act_rules.specs.declared.row.Outcome.TheVariants.{Fixed, Failed, Interrupted}
use Rattle.report_text.specs.declared.form.Form.{Form}
use Rattle.report_text.specs.declared.form.Form.TheVariants.{One, Two}
use Rattle.report_text.specs.declared.report_row.ReportRow.{ReportRow}

-- the word of an outcome
abbrev pub outcome_word : Outcome → List ℕ
outcome_word Fixed = codes "fixed"
outcome_word Failed = codes "failed"
outcome_word Interrupted = codes "interrupted"

-- the outcome of a row that has ended, and otherwise `running`
abbrev pub outcome_field : Option (ℤ × Outcome) → List ℕ
outcome_field None = codes "running"
outcome_field (Some end) = outcome_word end.1

-- the moment of the end, or `-`
abbrev pub end_field : Option (ℤ × Outcome) → List ℕ
end_field end = dash_or (λ end. signed_decimal end.0) end

-- the exit code, or `-`
abbrev pub exit_field : Option ℤ → List ℕ
exit_field exit = dash_or signed_decimal exit

-- the component of the place, or `-`
abbrev pub component_field : Option (ℕ × ℕ) → List ℕ
component_field place = dash_or (λ place. decimal place.0) place

-- the line of the place, or `-`
abbrev pub line_field : Option (ℕ × ℕ) → List ℕ
line_field place = dash_or (λ place. decimal place.1) place

-- the fields that form Two adds
abbrev pub note_fields : Note → List (List ℕ)
note_fields note = exit_field note.exit ∷ component_field note.place ∷ line_field note.place ∷ []

-- the fields of a note, each after a space
abbrev pub note_text : Note → List ℕ
note_text note = (32 ∷ exit_field note.exit) ++ ((32 ∷ component_field note.place) ++ (32 ∷ line_field note.place))

-- what a form adds
abbrev pub added_fields : Form → Note → List (List ℕ)
added_fields One note = []
added_fields Two note = note_fields note

-- the fields of a row
abbrev pub row_fields : Form → ReportRow → List (List ℕ)
row_fields form row =
    decimal row.action ∷ decimal row.number ∷ outcome_field row.end ∷ signed_decimal row.begun ∷ end_field row.end
    ∷ added_fields form row.note

-- the line of a row
abbrev pub row_line : Form → ReportRow → List ℕ
row_line form row = field_text (codes "row") ++ line_of (row_fields form row)
