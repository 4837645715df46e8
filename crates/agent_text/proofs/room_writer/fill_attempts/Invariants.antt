use Rattle.std.proofs.Common.{take}
use Rattle.std.specs.Prelude.{flat_map}
use Rattle.desk_base.specs.Rooms.{Fills}
use Rattle.line_forms.specs.Lines.{ended_line}
use Rattle.report_text.specs.declared.form.Form.TheVariants.{Two}
use Rattle.agent_text.specs.AttemptLines.{attempt_line}
use Rattle.agent_text.proofs.room_writer.fill_attempts.Given as goal

-- the rows so far were appended
abbrev pub invariant-loop-row : goal.invariant-loop-row
invariant-loop-row l = Fills l.fn.room l.room (flat_map (λ row. ended_line (attempt_line Two row)) (take l.row-index l.rows))
