use Rattle.std.proofs.Common.{◌≡◌, ◌≤◌, ◌++◌}
use Rattle.std.specs.Prelude.{flat_map}
use Rattle.line_forms.specs.Lines.{lines_text}
use Rattle.office_text.specs.Made.{computer_lines, draw_at, minor, places}
use Rattle.office_text.proofs.made.add_computers.Given as goal

-- the computers so far were written, and the last number that was drawn is at hand
abbrev pub invariant-loop-place : goal.invariant-loop-place
invariant-loop-place l = record {
  written : l.out ≡ l.initial.out ++ lines_text (flat_map (λ place. computer_lines place (minor l.number place)) (places l.place));
  drawn : l.drawn ≡ draw_at l.number l.place;
  small : l.drawn ≤ 2147483648;
}
