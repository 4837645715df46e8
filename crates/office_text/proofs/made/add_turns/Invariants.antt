use Rattle.std.proofs.Common.{◌≡◌, ◌++◌}
use Rattle.std.specs.Prelude.{flat_map}
use Rattle.line_forms.specs.Lines.{lines_text}
use Rattle.office_text.specs.Made.{places, turn_lines}
use Rattle.office_text.proofs.made.add_turns.Given as goal

-- the turns so far were written
abbrev pub invariant-loop-place : goal.invariant-loop-place
invariant-loop-place l = l.out ≡ l.initial.out ++ lines_text (flat_map turn_lines (places l.place))
