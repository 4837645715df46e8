-- The lines of a history.
use Rattle.std.specs.Prelude.{ℕ, List, ◌∷◌, ◌++◌, map, codes, decimal}
use Rattle.line_forms.specs.Fields.{field_text}
use Rattle.line_forms.specs.Lines.{lines_text}
use Rattle.report_text.specs.declared.form.Form.{Form}
use Rattle.report_text.specs.declared.form.Form.TheVariants.{Two}
use Rattle.agent_text.specs.Histories.{PlainHistory}
use Rattle.agent_text.specs.AttemptLines.{attempt_line}

abbrev pub action_line : ℕ → List ℕ
action_line action = field_text (codes "action") ++ decimal action

-- the lines of an action and its attempts
abbrev pub history_lines : Form → PlainHistory → List (List ℕ)
history_lines form h = action_line h.action ∷ map (attempt_line form) h.rows

-- their bytes in a text that is saved
abbrev pub history_text : PlainHistory → List ℕ
history_text h = lines_text (history_lines Two h)
