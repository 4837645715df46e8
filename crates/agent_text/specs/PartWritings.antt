-- What the writers of parts append. Only private functions cite these definitions.
use Rattle.std.specs.Prelude.{ℕ, List, [], ◌∷◌, ◌++◌, decimal, if◌then◌else◌}
use Rattle.std.specs.Fmt.{signed_decimal}
use Rattle.line_forms.specs.Lines.{ended_line}
use Rattle.act_rules.specs.declared.row.Row.{Row}
use Rattle.report_text.specs.declared.form.Form.TheVariants.{Two}
use Rattle.report_text.specs.RowLines.{outcome_field, end_field}
use Rattle.report_text.specs.Reports.{computer_line}
use Rattle.agent_text.specs.Histories.{PlainHistory}
use Rattle.agent_text.specs.AttemptLines.{cleared_field}
use Rattle.agent_text.specs.SavedTexts.{agent_line, next_line, pending_line}

-- the first three lines
abbrev pub head_text : List ℕ → ℕ → List ℕ
head_text computer next =
    ended_line (agent_line Two) ++ (ended_line (computer_line computer) ++ ended_line (next_line next))

-- the line of a history that is pending, and nothing for another
abbrev pub pending_text : PlainHistory → List ℕ
pending_text h = if h.pending then ended_line (pending_line h.action) else []

-- the parts of an attempt: its number and when it began, its end, and when it was cleared
abbrev pub begun_text : Row → List ℕ
begun_text row = decimal row.number ++ (32 ∷ signed_decimal row.begun)

abbrev pub ended_text : Row → List ℕ
ended_text row = (32 ∷ outcome_field row.end) ++ ((32 ∷ end_field row.end) ++ (32 ∷ cleared_field row.cleared))
