use Rattle.std.proofs.Common.{length}
use Rattle.std.specs.Prelude.{map}
use Rattle.line_forms.specs.Readers.{EachCan, Passes}
use Rattle.agent_text.specs.AttemptLines.{attempt_line}
use Rattle.agent_text.specs.PartReadings.{CanBeNext}
use Rattle.agent_text.proofs.attempt_reader.take_attempts.Given as goal

-- the lines of the attempts so far were taken
abbrev pub invariant-loop-row : goal.invariant-loop-row
invariant-loop-row l = record {
  each : EachCan (CanBeNext l.form) l.rows.rows;
  passes : Passes l.initial.lines l.lines (map (attempt_line l.form) l.rows.rows);
}

abbrev pub decreases-loop-row : goal.decreases-loop-row
decreases-loop-row l = length l.lines.lines
